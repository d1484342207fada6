-- A value read takes at least one byte, at most ten and none past the end, and is below 2^64. Too few bytes are all looked at, and they are
-- at most nine; of an overflow none past the end is looked at, and at most ten.
use Rattle.std.specs.Prelude.{Err, Ok, Result}
use Prim.Native.Nat.{ℕ, zero, suc, ◌+◌, ◌^◌, ◌≤◌, ◌<◌}
use native.Mathlib.Omega.{arith}
use mathlib.Core.Path.{◌≡◌, subst}
use mathlib.Core.List.{List, [], ◌∷◌}
use lib.ListN.{length, drop, length-drop}
use borrow.Author.Tests.{lt-ltb, le-ltb}
use Rattle.wire.specs.declared.IntError.{IntError}
use Rattle.wire.specs.declared.IntError.TheVariants.{Short, Overflow}
use Rattle.wire.specs.Integer.{Later, ended, cut, endless, before, later_bytes, weighted, with_later, read_first, read_int}
use Rattle.lists.proofs.Cases.{lt-or-le, split}
use Rattle.wire.proofs.Read.{fitting-value, fitting-over}

-- of at most n later bytes, where len bytes stand
Took : ℕ → ℕ → Later → Type 0
Took n len (ended bs) = (length bs ≤ n) × (length bs ≤ len)
Took n len (cut k) = (k ≡ len) × (k < n)
Took n len endless = n ≤ len

took-before : (n len b : ℕ) (l : Later) → Took n len l → Took (suc n) (suc len) (before b l)
unfolding Took before
took-before n len b (ended bs) q = omega arith
took-before n len b (cut k) q = omega arith
took-before n len b endless q = omega arith

later-took : (n : ℕ) (s : List ℕ) → Took n (length s) (later_bytes n s)
unfolding Took later_bytes
later-took zero s = omega arith
later-took (suc n) [] = omega arith
later-took (suc n) (b ∷ s) =
    split (lt-or-le b 128)
    (λ l. rw (lt-ltb b 128 l) (omega arith))
    (λ l. rw (le-ltb b 128 l) (took-before n (length s) b (later_bytes n s) (later-took n s)))

-- of an integer at position at, where len bytes stand
Within : ℕ → ℕ → Result (ℕ × ℕ) IntError → Type 0
Within at len (Ok (v, next)) = (v < 2 ^ 64) × (at < next) × (next ≤ at + 10) × (next ≤ at + len)
Within at len (Err (Short k)) = (k ≡ len) × (k ≤ 9)
Within at len (Err (Overflow k)) = (0 < k) × (k ≤ 10) × (k ≤ len)

within-later : (at len b : ℕ) (l : Later) → Took 9 len l → Within at (suc len) (with_later at b l)
unfolding Took Within with_later
within-later at len b (ended bs) q =
    split (lt-or-le (b + weighted 0 bs) (2 ^ 64))
    (λ f. rw (fitting-value (b + weighted 0 bs) (1 + length bs) (at + 1 + length bs) f) (omega arith))
    (λ f. rw (fitting-over (b + weighted 0 bs) (1 + length bs) (at + 1 + length bs) f) (omega arith))
within-later at len b (cut k) q = omega arith
within-later at len b endless q = omega arith

first-within : (at : ℕ) (s : List ℕ) → Within at (length s) (read_first at s)
unfolding Within read_first
first-within at [] = omega arith
first-within at (b ∷ s) =
    split (lt-or-le b 240)
    (λ l. rw (lt-ltb b 240 l) (omega arith))
    (λ l. rw (le-ltb b 240 l) (within-later at (length s) b (later_bytes 9 s) (later-took 9 s)))

within : (s : List ℕ) (at : ℕ) (i : (Result (ℕ × ℕ) IntError)) → read_int s at ≡ i → Within at (length (drop at s)) i
unfolding read_int
within s at i e = subst (Within at (length (drop at s))) e (first-within at (drop at s))

module _ (s : List ℕ) (at v next : ℕ) (e : read_int s at ≡ Ok (v, next)) where
  -- it takes at least one byte, and none past the end
  pub advance : (at < next) × (next ≤ length s)
  unfolding Within
  advance = let h = within s at _ e in omega (arith, length-drop at s)

  -- it takes at most ten
  pub at-most-ten : next ≤ at + 10
  unfolding Within
  at-most-ten = (within s at _ e).2

  -- it is a 64-bit value
  pub value-small : v < 2 ^ 64
  unfolding Within
  value-small = (within s at _ e).0

-- Of too few bytes all were looked at, and they are at most nine.
pub short-looked : (s : List ℕ) (at k : ℕ) → at ≤ length s → read_int s at ≡ Err (Short k) → (at + k ≡ length s) × (k ≤ 9)
unfolding Within
short-looked s at k h e = let w = within s at _ e in omega (arith, length-drop at s)

-- Of an overflow no byte past the end was looked at, and at most ten.
pub overflow-inside : (s : List ℕ) (at k : ℕ) → read_int s at ≡ Err (Overflow k) → (at + k ≤ length s) × (k ≤ 10)
unfolding Within
overflow-inside s at k e = let w = within s at _ e in omega (arith, length-drop at s)
