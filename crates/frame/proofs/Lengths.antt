-- The bytes of an encoded integer: how many are too few, and how many a small value takes.
use Rattle.std.specs.Prelude.{Err, Ok, Result}
use Prim.Native.Nat.{ℕ, zero, suc, ◌+◌, ◌^◌, ◌≤◌, ◌<◌}
use native.Mathlib.Omega.{arith}
use mathlib.Core.Path.{◌≡◌, subst}
use mathlib.Core.List.{List, [], ◌∷◌}
use lib.ListN.{length, drop}
use borrow.Author.Tests.{lt-ltb, le-ltb}
use Rattle.wire.specs.declared.IntError.{IntError}
use Rattle.wire.specs.declared.IntError.TheVariants.{Short, Overflow}
use Rattle.wire.specs.Integer.{Later, ended, cut, endless, before, later_bytes, weighted, with_later, read_first, read_int}
use Rattle.lists.proofs.Cases.{lt-or-le, split}
use Rattle.wire.proofs.Read.{fitting-value, fitting-over}
use Rattle.wire.proofs.Advance.{short-looked}

-- ---- an integer that is cut short has at most nine bytes
pub short-few : (s : List ℕ) (at k : ℕ) → read_int s at ≡ Err (Short k) → length s ≤ at + 9
short-few s at k e = split (lt-or-le (length s) at) (λ l. omega arith) (λ l. omega (arith, short-looked s at k l e))

-- ---- two later bytes or more are worth 2048 at least
Counted : Later → Type 0
Counted (ended bs) = weighted 0 bs < 2048 → length bs ≤ 1
Counted (cut k) = Unit {0}
Counted endless = Unit {0}

counted-before : (b : ℕ) (l : Later) → 128 ≤ b → Counted l → Counted (before b l)
unfolding Counted before weighted
counted-before b (ended bs) h q = λ w. omega arith
counted-before b (cut k) h q = tt
counted-before b endless h q = tt

later-counted : (n : ℕ) (s : List ℕ) → Counted (later_bytes n s)
unfolding Counted later_bytes
later-counted zero s = tt
later-counted (suc n) [] = tt
later-counted (suc n) (b ∷ s) =
    split (lt-or-le b 128)
    (λ l. rw (lt-ltb b 128 l) (λ w. omega arith))
    (λ l. rw (le-ltb b 128 l) (counted-before b (later_bytes n s) l (later-counted n s)))

-- of the integer at position at
Sized : ℕ → Result (ℕ × ℕ) IntError → Type 0
Sized at (Ok (v, next)) = v < 2288 → next ≤ at + 2
Sized at (Err (Short k)) = Unit {0}
Sized at (Err (Overflow k)) = Unit {0}

sized-later : (at b : ℕ) (l : Later) → 240 ≤ b → Counted l → Sized at (with_later at b l)
unfolding Counted Sized with_later
sized-later at b (ended bs) h q =
    split (lt-or-le (b + weighted 0 bs) (2 ^ 64))
    (λ f. rw (fitting-value (b + weighted 0 bs) (1 + length bs) (at + 1 + length bs) f) (λ w. omega (arith, q (omega arith))))
    (λ f. rw (fitting-over (b + weighted 0 bs) (1 + length bs) (at + 1 + length bs) f) tt)
sized-later at b (cut k) h q = tt
sized-later at b endless h q = tt

first-sized : (at : ℕ) (s : List ℕ) → Sized at (read_first at s)
unfolding Sized read_first
first-sized at [] = tt
first-sized at (b ∷ s) =
    split (lt-or-le b 240)
    (λ l. rw (lt-ltb b 240 l) (λ w. omega arith))
    (λ l. rw (le-ltb b 240 l) (sized-later at b (later_bytes 9 s) l (later-counted 9 s)))

-- A value below 2288 takes at most two bytes.
pub two_bytes : (s : List ℕ) (at v next : ℕ) → read_int s at ≡ Ok (v, next) → v < 2288 → next ≤ at + 2
unfolding read_int Sized
two_bytes s at v next e = subst (Sized at) e (first-sized at (drop at s))
