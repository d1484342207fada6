-- The bytes that were looked at decide an integer: whatever stands behind them makes no difference.
use Rattle.std.specs.Prelude.{Err, Ok, Result}
use Prim.Native.Nat.{ℕ, zero, suc, ◌+◌, ◌^◌, ◌≤◌, ◌<◌}
use native.Mathlib.Omega.{arith}
use mathlib.Core.Logic.{◌⊎◌, inl, inr}
use mathlib.Core.Path.{◌≡◌, refl, sym, ◌∙◌}
use mathlib.Core.List.{List, [], ◌∷◌, ◌++◌}
use lib.ListN.{length, take, drop, length-drop, length-take, take-append-drop}
use lib.Seq.{drop-append-le}
use borrow.Author.Tests.{lt-ltb, le-ltb}
use Rattle.wire.specs.declared.IntError.{IntError}
use Rattle.wire.specs.declared.IntError.TheVariants.{Short, Overflow}
use Rattle.wire.specs.Integer.{Later, ended, cut, endless, before, later_bytes, weighted, with_later, read_first, read_int}
use Rattle.lists.proofs.Cases.{lt-or-le, split}
use Rattle.wire.proofs.Read.{fitting-value, fitting-over}
use Rattle.wire.proofs.Advance.{advance, overflow-inside}
use Rattle.wire.proofs.Behind.{int-value-behind, int-overflow-behind}

-- ---- more bytes behind change nothing, or the later bytes, at most n, end among them
AtLeast : ℕ → ℕ → Later → Type 0
AtLeast n k (ended bs) = k ≤ length bs
AtLeast n k (cut j) = Unit {0}
AtLeast n k endless = k ≤ n

at-least-none : (n : ℕ) (l : Later) → AtLeast n 0 l
unfolding AtLeast
at-least-none n (ended bs) = omega arith
at-least-none n (cut j) = tt
at-least-none n endless = omega arith

at-least-before : (n k b : ℕ) (l : Later) → AtLeast n k l → AtLeast (suc n) (suc k) (before b l)
unfolding AtLeast before
at-least-before n k b (ended bs) q = omega arith
at-least-before n k b (cut j) q = tt
at-least-before n k b endless q = omega arith

at_least_one : (n : ℕ) (s : List ℕ) → AtLeast (suc n) 1 (later_bytes (suc n) s)
unfolding AtLeast later_bytes
at_least_one n [] = tt
at_least_one n (b ∷ s) =
    split (lt-or-le b 128)
    (λ l. rw (lt-ltb b 128 l) (omega arith))
    (λ l. rw (le-ltb b 128 l) (at-least-before n 0 b (later_bytes n s) (at-least-none n (later_bytes n s))))

later-past : (n : ℕ) (s t : List ℕ) → AtLeast n (suc (length s)) (later_bytes n (s ++ t)) ⊎ (later_bytes n (s ++ t) ≡ later_bytes n s)
unfolding later_bytes
later-past zero s t = inr refl
later-past (suc n) [] t = inl (at_least_one n t)
later-past (suc n) (b ∷ s) t =
    split (lt-or-le b 128)
    (λ l. inr (rw (lt-ltb b 128 l)))
    (λ l.
    split (later-past n s t)
    (λ p. inl (rw (le-ltb b 128 l) (at-least-before n (suc (length s)) b (later_bytes n (s ++ t)) p)))
    (λ e. inr (rw (le-ltb b 128 l, e))))

-- an integer at position at, if it isn't short, was looked at past position p
unfoldable pub Past : ℕ → ℕ → Result (ℕ × ℕ) IntError → Type 0
Past at p (Ok (v, next)) = p < next
Past at p (Err (Short k)) = Unit {0}
Past at p (Err (Overflow k)) = p < at + k

past-later : (at k b : ℕ) (l : Later) → AtLeast 9 k l → Past at (at + k) (with_later at b l)
unfolding AtLeast Past with_later
past-later at k b (ended bs) q =
    split (lt-or-le (b + weighted 0 bs) (2 ^ 64))
    (λ f. rw (fitting-value (b + weighted 0 bs) (1 + length bs) (at + 1 + length bs) f) (omega arith))
    (λ f. rw (fitting-over (b + weighted 0 bs) (1 + length bs) (at + 1 + length bs) f) (omega arith))
past-later at k b (cut j) q = tt
past-later at k b endless q = omega arith

past_first : (at : ℕ) (s : List ℕ) → Past at (at + 0) (read_first at s)
unfolding Past read_first
past_first at [] = tt
past_first at (b ∷ s) =
    split (lt-or-le b 240)
    (λ l. rw (lt-ltb b 240 l) (omega arith))
    (λ l. rw (le-ltb b 240 l) (past-later at 0 b (later_bytes 9 s) (at-least-none 9 (later_bytes 9 s))))

first_past : (at : ℕ) (s t : List ℕ) → Past at (at + length s) (read_first at (s ++ t)) ⊎ (read_first at (s ++ t) ≡ read_first at s)
unfolding read_first
first_past at [] t = inl (past_first at t)
first_past at (b ∷ s) t =
    split (lt-or-le b 240)
    (λ l. inr (rw (lt-ltb b 240 l)))
    (λ l.
    split (later-past 9 s t)
    (λ p. inl (rw (le-ltb b 240 l) (past-later at (suc (length s)) b (later_bytes 9 (s ++ t)) p)))
    (λ e. inr (rw (le-ltb b 240 l, e))))

-- More bytes behind an integer change nothing, or it is short or some of them are looked at.
pub int-past : (s t : List ℕ) (at : ℕ) → at ≤ length s → Past at (length s) (read_int (s ++ t) at) ⊎ (read_int (s ++ t) at ≡ read_int s at)
unfolding read_int
int-past s t at h =
    let e : at + length (drop at s) ≡ length s = omega (arith, length-drop at s) in
    rw (drop-append-le at s t h, ← e) (first_past at (drop at s) t)

-- ---- the first m bytes decide, where none past them was looked at
module _ (s : List ℕ) (at m : ℕ) (i : (Result (ℕ × ℕ) IntError)) (e : read_int s at ≡ i) where
  first-bytes : at ≤ length (take m s) → (Past at (length (take m s)) i → ⊥) → read_int (take m s) at ≡ i
  first-bytes h never =
      let both : take m s ++ drop m s ≡ s = take-append-drop m s in
      split (int-past (take m s) (drop m s) at h)
      (λ p. absurd (never (rw (both, e) at p)))
      (λ q. sym q ∙ rw both e)

-- A value is decided by the bytes before its next position.
pub value-decided : (s t : List ℕ) (at v next m : ℕ) → next ≤ m → read_int s at ≡ Ok (v, next) → read_int (take m s ++ t) at ≡ Ok (v, next)
unfolding Past
value-decided s t at v next m h e =
    let a = advance s at v next e in
    let l : next ≤ length (take m s) = rw length-take (omega arith) in
    int-value-behind (take m s) t at v next (first-bytes s at m _ e (omega arith) (λ p. omega arith))

-- An overflow is decided by the bytes that were looked at.
pub overflow-decided : (s t : List ℕ) (at k m : ℕ) → at + k ≤ m → read_int s at ≡ Err (Overflow k) → read_int (take m s ++ t) at ≡ Err (Overflow k)
unfolding Past
overflow-decided s t at k m h e =
    let a = overflow-inside s at k e in
    let l : at + k ≤ length (take m s) = rw length-take (omega arith) in
    int-overflow-behind (take m s) t at k (first-bytes s at m _ e (omega arith) (λ p. omega arith))
