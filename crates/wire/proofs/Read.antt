-- Reading, case by case, at a position of a list.
use Rattle.std.specs.Prelude.{Err, Ok, Result}
use Prim.Native.Nat.{ℕ, suc, ◌+◌, ◌*◌, ◌-◌, ◌^◌, ◌≤◌, ◌<◌}
use native.Mathlib.Omega.{arith}
use native.Mathlib.Numerals.{add-one}
use native.Mathlib.Nat.{pow-le-pow_right}
use mathlib.Core.Path.{◌≡◌, refl}
use mathlib.Core.List.{List, [], ◌∷◌}
use lib.Dec.{lit<}
use lib.ListN.{length, get_or, drop, drop_of_length-le}
use lib.Seq.{drop-cons}
use borrow.Author.Tests.{lt-ltb, le-ltb}
use Rattle.wire.specs.declared.IntError.{IntError}
use Rattle.wire.specs.declared.IntError.TheVariants.{Short, Overflow}
use Rattle.wire.specs.Integer.{Later, ended, cut, endless, before, later_bytes, weighted, fitting, with_later, read_first, read_int, tenth_byte}
use Rattle.lists.proofs.Cases.{lt-or-le, split}

-- ---- a value fits, or not
pub fitting-value : (v n next : ℕ) → v < 2 ^ 64 → fitting v n next ≡ Ok (v, next)
unfolding fitting
fitting-value v n next h = let l : v ≤ 2 ^ 64 - 1 = omega arith in simp (le-ltb _ _ l)

pub fitting-over : (v n next : ℕ) → 2 ^ 64 ≤ v → fitting v n next ≡ Err (Overflow n)
unfolding fitting
fitting-over v n next h = let l : 2 ^ 64 - 1 < v = omega arith in simp (lt-ltb _ _ l)

-- ---- the integer of which the k + 1 bytes below position i give acc, and the later bytes from number k on are these
unfoldable pub whole : ℕ → ℕ → ℕ → Later → Result (ℕ × ℕ) IntError
whole acc k i (ended bs) = fitting (acc + weighted k bs) (k + 1 + length bs) (i + length bs)
whole acc k i (cut j) = Err (Short (k + 1 + j))
whole acc k i endless = Err (Overflow 10)

pub whole-first : (at first : ℕ) (l : Later) → with_later at first l ≡ whole first 0 (at + 1) l
unfolding whole with_later
whole-first at first (ended bs) = refl
whole-first at first (cut j) = refl
whole-first at first endless = refl

pub whole_before : (acc k i b : ℕ) (l : Later) → whole acc k i (before b l) ≡ whole (acc + 16 * 128 ^ k * b) (k + 1) (i + 1) l
unfolding whole before weighted
whole_before acc k i b (ended bs) =
    let e₁ : acc + (16 * 128 ^ k * b + weighted (suc k) bs) ≡ acc + 16 * 128 ^ k * b + weighted (suc k) bs = omega arith in
    let e₂ : k + 1 + suc (length bs) ≡ k + 1 + 1 + length bs = omega arith in
    let e₃ : i + suc (length bs) ≡ i + 1 + length bs = omega arith in
    rw (e₁, e₂, e₃, add-one k)
whole_before acc k i b (cut j) = let e : k + 1 + suc j ≡ k + 1 + 1 + j = omega arith in rw e
whole_before acc k i b endless = refl

-- ---- at position i of s, where the byte is number k, of at most n
module _ (s : List ℕ) (i n m acc k : ℕ) (e : n ≡ suc m) where
  pub at-end : length s ≤ i → whole acc k i (later_bytes n (drop i s)) ≡ Err (Short (k + 1))
  unfolding whole later_bytes
  at-end h = let z : k + 1 + 0 ≡ k + 1 = omega arith in rw (e, drop_of_length-le s h, z)

  module _ (b : ℕ) (q : b ≡ get_or s i 0) (h : i < length s) where
    pub at_last : b < 128 → whole acc k i (later_bytes n (drop i s)) ≡ fitting (acc + 16 * 128 ^ k * b) (k + 2) (i + 1)
    unfolding whole later_bytes weighted
    at_last l =
        let z : 16 * 128 ^ k * b + 0 ≡ 16 * 128 ^ k * b = omega arith in
        let y : k + 1 + 1 ≡ k + 2 = omega arith in
        rw (e, drop-cons s i 0 h, ← q, lt-ltb b 128 l, z, y)

    pub at_more : 128 ≤ b
        → whole acc k i (later_bytes n (drop i s)) ≡ whole (acc + 16 * 128 ^ k * b) (k + 1) (i + 1) (later_bytes m (drop (i + 1) s))
    unfolding later_bytes
    at_more l = rw (e, drop-cons s i 0 h, ← q, le-ltb b 128 l, add-one i) (rw (← add-one i) (whole_before acc k i b _))

-- ---- the first byte
pub first-end : (s : List ℕ) (at : ℕ) → length s ≤ at → read_int s at ≡ Err (Short 0)
unfolding read_int read_first
first-end s at h = rw (drop_of_length-le s h)

pub first_alone : (s : List ℕ) (at b : ℕ) → b ≡ get_or s at 0 → at < length s → b < 240 → read_int s at ≡ Ok (b, (at + 1))
unfolding read_int read_first
first_alone s at b q h l = rw (drop-cons s at 0 h, ← q, lt-ltb b 240 l)

pub first_more : (s : List ℕ) (at b : ℕ) → b ≡ get_or s at 0 → at < length s → 240 ≤ b
    → read_int s at ≡ whole b 0 (at + 1) (later_bytes 9 (drop (at + 1) s))
unfolding read_int read_first
first_more s at b q h l = rw (drop-cons s at 0 h, ← q, le-ltb b 240 l, add-one) (rw (← add-one at) (whole-first at b _))

-- ---- the tenth byte
module _ (s : List ℕ) (i value : ℕ) where
  pub tenth-end : length s ≤ i → tenth_byte value i (drop i s) ≡ Err (Short 9)
  unfolding tenth_byte
  tenth-end h = rw (drop_of_length-le s h)

  module _ (b : ℕ) (q : b ≡ get_or s i 0) (h : i < length s) where
    pub tenth-low : b < 128 → tenth_byte value i (drop i s) ≡ fitting (value + 16 * 128 ^ 8 * b) 10 (i + 1)
    unfolding tenth_byte
    tenth-low l = rw (drop-cons s i 0 h, ← q, lt-ltb b 128 l)

    pub tenth-high : 128 ≤ b → tenth_byte value i (drop i s) ≡ Err (Overflow 10)
    unfolding tenth_byte
    tenth-high l = rw (drop-cons s i 0 h, ← q, le-ltb b 128 l)

pub tenth-whole : (acc i : ℕ) (s : List ℕ) → whole acc 8 i (later_bytes 1 s) ≡ tenth_byte acc i s
unfolding whole later_bytes tenth_byte weighted before
tenth-whole acc i [] = refl
tenth-whole acc i (b ∷ s) =
    let z : 16 * 128 ^ 8 * b + 0 ≡ 16 * 128 ^ 8 * b = omega arith in
    split (lt-or-le b 128) (λ l. rw (lt-ltb b 128 l, z)) (λ l. rw (le-ltb b 128 l))

-- ---- the weights
pub weight-le : (n k : ℕ) → n ≤ k → 16 * 128 ^ n ≤ 16 * 128 ^ k
weight-le n k h = omega (arith, pow-le-pow_right {n = 128} (lit< tt) h)
