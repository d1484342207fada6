-- What holds of each judgement.
use Rattle.std.specs.Prelude.{Err, None, Ok, Option, Result, Some}
use Prim.Native.Nat.{ℕ, ◌+◌, ◌≤◌, ◌<◌}
use native.Mathlib.Omega.{arith}
use mathlib.Core.Path.{◌≡◌, refl, sym, subst}
use mathlib.Core.List.{List}
use mathlib.Core.Bool.{Bool, true, false, cond, ◌&&◌}
use lib.Dec.{leb, eqb}
use lib.ListN.{length, get_or}
use borrow.Author.Tests.{leb-true}
use Rattle.frame.specs.declared.Header.{Header}
use Rattle.wire.specs.declared.IntError.{IntError}
use Rattle.wire.specs.declared.IntError.TheVariants as int
use Rattle.wire.specs.Integer.{read_int}
use Rattle.lists.proofs.Cases.{lt-or-le, split}
use Rattle.wire.proofs.Advance.{advance}
use Rattle.frame.specs.declared.Header.TheVariants as header
use Rattle.frame.specs.declared.Frame.{Frame}
use Rattle.frame.specs.declared.Frame.TheVariants as frame
use Rattle.frame.specs.Frame.{header_of, with_length, with_header, judge_frame}
use Rattle.frame.proofs.Judging.{header-waits, by-header, length-short, length_over, too_long, body-waits, body-whole}
use Rattle.frame.proofs.Lengths.{short-few, two_bytes}

-- ---- the header's type
HeaderFacts : ℕ → Option Header → Type 0
HeaderFacts kind (Some (header.Control type)) = type ≤ 4
HeaderFacts kind (Some (header.Error type)) = type ≤ 1
HeaderFacts kind (Some (header.StickTable type)) = (type ≡ kind) × (128 ≤ type)
HeaderFacts kind None = Unit {0}

by-test : (kind : ℕ) (a b : Bool) (x y : (Option Header)) → (b ≡ true → HeaderFacts kind x) → HeaderFacts kind y → HeaderFacts kind (cond (a && b) x y)
by-test kind true true x y p q = p refl
by-test kind true false x y p q = q
by-test kind false b x y p q = q

header-facts : (class kind : ℕ) → HeaderFacts kind (header_of class kind)
unfolding HeaderFacts header_of
header-facts class kind =
    by-test kind (eqb class 0) (leb kind 4) _ _ (leb-true kind 4)
    (by-test kind (eqb class 1) (leb kind 1) _ _ (leb-true kind 1)
    (by-test kind (eqb class 10) (leb 128 kind) _ _ (λ e. (refl, leb-true 128 kind e)) tt))

-- ---- a whole body, of which the message's first bytes are u
pub record Whole (u : List ℕ) (kind start end : ℕ) : Type 0 where
  pub type : kind ≡ get_or u 1 0
  pub high : 128 ≤ kind
  pub after : 3 ≤ start
  pub early : start ≤ 4
  pub ordered : start ≤ end
  pub limit : end ≤ start + 1024
  pub inside : end ≤ length u

-- ---- each judgement
unfoldable pub FrameFacts : List ℕ → Frame → Type 0
FrameFacts u frame.Waiting = length u ≤ 1027
FrameFacts u (frame.Control type) = type ≤ 4
FrameFacts u (frame.Error type) = type ≤ 1
FrameFacts u (frame.Body kind start end) = Whole u kind start end
FrameFacts u (frame.Refused n) = (20 ≤ n) × (n ≤ 22)

facts-by-length : (u : List ℕ) (kind : ℕ) (i : (Result (ℕ × ℕ) IntError)) → i ≡ read_int u 2 → kind ≡ get_or u 1 0 → 128 ≤ kind → FrameFacts u (with_length kind u (read_int u 2))
unfolding FrameFacts
facts-by-length u kind (Err (int.Short k)) p t h =
    let few : length u ≤ 2 + 9 = short-few u 2 k (sym p) in
    subst (FrameFacts u) (length-short u _ p kind k refl) (omega arith)
facts-by-length u kind (Err (int.Overflow k)) p t h = subst (FrameFacts u) (length_over u _ p kind k refl) (omega arith, omega arith)
facts-by-length u kind (Ok (n, start)) p t h =
    split (lt-or-le 1024 n)
    (λ l. subst (FrameFacts u) (too_long u _ p kind n start refl 1024 l refl) (omega arith, omega arith))
    (λ l.
    let few : start ≤ 2 + 2 = two_bytes u 2 n start (sym p) (omega arith) in
    let some : 2 < start = (advance u 2 n start (sym p)).0 in
    split (lt-or-le (length u) (start + n))
    (λ k. subst (FrameFacts u) (body-waits u _ p kind n start refl l k) (omega arith))
    (λ k.
    subst (FrameFacts u) (body-whole u _ p kind n start refl l k) (record {
      type = t;
      high = h;
      after = omega arith;
      early = few;
      ordered = omega arith;
      limit = omega arith;
      inside = k;
    })))

facts-by-header : (u : List ℕ) (h : (Option Header)) → HeaderFacts (get_or u 1 0) h → FrameFacts u (with_header u h)
unfolding HeaderFacts FrameFacts with_header
facts-by-header u (Some (header.Control type)) q = q
facts-by-header u (Some (header.Error type)) q = q
facts-by-header u (Some (header.StickTable type)) q = facts-by-length u type (read_int u 2) refl q.0 q.1
facts-by-header u None q = (omega arith, omega arith)

pub frame-facts : (u : List ℕ) → FrameFacts u (judge_frame u)
unfolding FrameFacts
frame-facts u =
    split (lt-or-le (length u) 2)
    (λ l. subst (FrameFacts u) (header-waits u l) (omega arith))
    (λ l. subst (FrameFacts u) (by-header u _ l refl) (facts-by-header u _ (header-facts (get_or u 0 0) (get_or u 1 0))))

-- ---- the same, for a judgement that is known
module _ (u : List ℕ) where
  -- Waiting bytes are at most 1,027: a header, a length of two bytes and all of the body but its last byte.
  pub waiting-short : judge_frame u ≡ frame.Waiting → length u ≤ 1027
  unfolding FrameFacts
  waiting-short e = subst (FrameFacts u) e (frame-facts u)

  pub refused-number : (n : ℕ) → judge_frame u ≡ frame.Refused n → (20 ≤ n) × (n ≤ 22)
  unfolding FrameFacts
  refused-number n e = subst (FrameFacts u) e (frame-facts u)

  module _ (kind start end : ℕ) (e : judge_frame u ≡ frame.Body kind start end) where
    pub whole-facts : Whole u kind start end
    unfolding FrameFacts
    whole-facts = subst (FrameFacts u) e (frame-facts u)
