-- More bytes behind: a judgement that isn't waiting stays, and waiting bytes become whole at their last byte only.
use Rattle.std.specs.Prelude.{Err, None, Ok, Option, Result, Some}
use Prim.Native.Nat.{ℕ, ◌+◌, ◌≤◌, ◌<◌}
use native.Mathlib.Omega.{arith}
use mathlib.Core.Logic.{◌⊎◌, inl, inr}
use mathlib.Core.Path.{◌≡◌, refl, sym, subst, ◌∙◌}
use mathlib.Core.List.{List, [], ◌∷◌, ◌++◌}
use lib.ListN.{length, get_or, length-append, get_or-append}
use borrow.Author.Tests.{lt-ltb, le-ltb}
use Rattle.frame.specs.declared.Header.{Header}
use Rattle.wire.specs.declared.IntError.{IntError}
use Rattle.wire.specs.declared.IntError.TheVariants as int
use Rattle.wire.specs.Integer.{read_int}
use Rattle.lists.proofs.Cases.{lt-or-le, split}
use Rattle.wire.proofs.Behind.{int-behind}
use Rattle.wire.proofs.Decided.{Past, int-past}
use Rattle.frame.specs.declared.Header.TheVariants as header
use Rattle.frame.specs.declared.Frame.{Frame}
use Rattle.frame.specs.declared.Frame.TheVariants as frame
use Rattle.frame.specs.Frame.{header_of, with_length, with_header, judge_frame}
use Rattle.frame.proofs.Judging.{header-waits, by-header, length-short, length_over, too_long, body-waits, body-whole}
use Rattle.frame.proofs.Limits.{FrameFacts, frame-facts, whole-facts}

-- ---- a body that is whole ends past position p
Beyond : ℕ → Frame → Type 0
Beyond p frame.Waiting = Unit {0}
Beyond p (frame.Control type) = Unit {0}
Beyond p (frame.Error type) = Unit {0}
Beyond p (frame.Body kind start end) = p < end
Beyond p (frame.Refused n) = Unit {0}

beyond-header : (p : ℕ) (w : List ℕ) (f : Frame) → p < 2 → FrameFacts w f → Beyond p f
unfolding Beyond FrameFacts
beyond-header p w frame.Waiting h q = tt
beyond-header p w (frame.Control type) h q = tt
beyond-header p w (frame.Error type) h q = tt
beyond-header p w (frame.Body kind start end) h q = omega arith
beyond-header p w (frame.Refused n) h q = tt

beyond-length : (p kind : ℕ) (w : List ℕ) (i : (Result (ℕ × ℕ) IntError)) → Past 2 p i → Beyond p (with_length kind w i)
unfolding Beyond Past with_length
beyond-length p kind w (Err (int.Short k)) q = tt
beyond-length p kind w (Err (int.Overflow k)) q = tt
beyond-length p kind w (Ok (n, start)) q =
    split (lt-or-le 1024 n)
    (λ l. rw (lt-ltb 1024 n l) tt)
    (λ l.
    split (lt-or-le (length w) (start + n))
    (λ k. rw (le-ltb 1024 n l, lt-ltb (length w) (start + n) k) tt)
    (λ k. rw (le-ltb 1024 n l, le-ltb (length w) (start + n) k) (omega arith)))

-- ---- f is judged of u, and g of u with more bytes behind: f is waiting, and a whole body ends among the new bytes; or nothing changes
Onward : List ℕ → Frame → Frame → Type 0
Onward u f g = ((f ≡ frame.Waiting) × Beyond (length u) g) ⊎ (g ≡ f)

module _ (u v : List ℕ) (kind : ℕ) where
  beyond-short : (k : ℕ) → 2 ≤ length u → read_int u 2 ≡ Err (int.Short k) → Beyond (length u) (with_length kind (u ++ v) (read_int (u ++ v) 2))
  unfolding Beyond
  beyond-short k h e =
      split (int-past u v 2 h)
      (λ q. beyond-length (length u) kind (u ++ v) (read_int (u ++ v) 2) q)
      (λ q. subst (Beyond (length u)) (length-short (u ++ v) _ refl kind k (q ∙ e)) tt)

  onward-same : (i : (Result (ℕ × ℕ) IntError)) → i ≡ read_int u 2 → i ≡ read_int (u ++ v) 2
      → Onward u (with_length kind u (read_int u 2)) (with_length kind (u ++ v) (read_int (u ++ v) 2))
  unfolding Onward Beyond
  onward-same (Err (int.Short k)) p q = inr (sym (length-short (u ++ v) _ q kind k refl) ∙ length-short u _ p kind k refl)
  onward-same (Err (int.Overflow k)) p q = inr (sym (length_over (u ++ v) _ q kind k refl) ∙ length_over u _ p kind k refl)
  onward-same (Ok (n, start)) p q =
      split (lt-or-le 1024 n)
      (λ l. inr (sym (too_long (u ++ v) _ q kind n start refl 1024 l refl) ∙ too_long u _ p kind n start refl 1024 l refl))
      (λ l.
      split (lt-or-le (length u) (start + n))
      (λ k.
      inl (
        sym (body-waits u _ p kind n start refl l k),
        (split (lt-or-le (length (u ++ v)) (start + n))
            (λ m. subst (Beyond (length u)) (body-waits (u ++ v) _ q kind n start refl l m) tt)
            (λ m. subst (Beyond (length u)) (body-whole (u ++ v) _ q kind n start refl l m) k)),
      ))
      (λ k.
      let m : start + n ≤ length (u ++ v) = rw length-append (omega arith) in
      inr (sym (body-whole (u ++ v) _ q kind n start refl l m) ∙ body-whole u _ p kind n start refl l k)))

  onward-length : 2 ≤ length u → Onward u (with_length kind u (read_int u 2)) (with_length kind (u ++ v) (read_int (u ++ v) 2))
  unfolding Onward
  onward-length h =
      split (int-behind u v 2)
      (λ e. inl (sym (length-short u _ refl kind _ e), beyond-short _ h e))
      (λ q. onward-same (read_int u 2) refl (sym q))

onward-header : (u v : List ℕ) (h : (Option Header)) → 2 ≤ length u → Onward u (with_header u h) (with_header (u ++ v) h)
unfolding Onward with_header
onward-header u v (Some (header.Control type)) l = inr refl
onward-header u v (Some (header.Error type)) l = inr refl
onward-header u v (Some (header.StickTable type)) l = onward-length u v type l
onward-header u v None l = inr refl

-- more bytes behind change nothing of the header
pub by-header-behind : (u v : List ℕ) → 2 ≤ length u → with_header (u ++ v) (header_of (get_or u 0 0) (get_or u 1 0)) ≡ judge_frame (u ++ v)
by-header-behind u v l =
    let m : 2 ≤ length (u ++ v) = rw length-append (omega arith) in
    by-header (u ++ v) _ m (rw (get_or-append u v 0 0 (omega arith), get_or-append u v 0 1 (omega arith)))

onward : (u v : List ℕ) → Onward u (judge_frame u) (judge_frame (u ++ v))
unfolding Onward
onward u v =
    split (lt-or-le (length u) 2)
    (λ l. inl (sym (header-waits u l), beyond-header (length u) (u ++ v) _ l (frame-facts (u ++ v))))
    (λ l.
    let h : (Option Header) = header_of (get_or u 0 0) (get_or u 1 0) in
    rw (← by-header u h l refl, ← by-header-behind u v l) (onward-header u v h l))

-- ---- the laws
pub waiting_none : judge_frame [] ≡ frame.Waiting
unfolding judge_frame
waiting_none = refl

module _ (u v : List ℕ) where
  pub waits-or-stays : (judge_frame u ≡ frame.Waiting) ⊎ (judge_frame (u ++ v) ≡ judge_frame u)
  unfolding Onward
  waits-or-stays = split (onward u v) (λ q. inl q.0) (λ q. inr q)

  -- Every first part of waiting bytes is waiting.
  pub waiting-first-part : judge_frame (u ++ v) ≡ frame.Waiting → judge_frame u ≡ frame.Waiting
  waiting-first-part h = split waits-or-stays (λ e. e) (λ e. sym e ∙ h)

  -- The body that more bytes make whole ends among them.
  pub whole-later : (kind start end : ℕ) → judge_frame u ≡ frame.Waiting → judge_frame (u ++ v) ≡ frame.Body kind start end → length u < end
  unfolding Onward Beyond
  whole-later kind start end w e =
      split (onward u v)
      (λ q. subst (Beyond (length u)) e q.1)
      (λ q. let z : ◌≡◌ {A = ℕ} 0 1 = cc in omega arith)

-- Bytes become whole at their last byte only: the body ends there.
pub whole-at-last : (u : List ℕ) (b kind start end : ℕ) → judge_frame u ≡ frame.Waiting → judge_frame (u ++ (b ∷ [])) ≡ frame.Body kind start end
    → end ≡ length u + 1
whole-at-last u b kind start end w e =
    let f = whole-facts (u ++ (b ∷ [])) kind start end e in
    let l : end ≤ length u + 1 = rw length-append at f.inside in
    omega (arith, whole-later u (b ∷ []) kind start end w e)
