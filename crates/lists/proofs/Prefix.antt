-- The first n bytes of an array of m: where n is at most m they are as many, and where it is more they are the whole array.
use Prim.Native.Nat.{ℕ, ◌≤◌, ◌<◌, min}
use native.Mathlib.Omega.{arith}
use mathlib.Core.Path.{◌≡◌, sym, ap, ◌∙◌}
use mathlib.Core.List.{List}
use mathlib.Core.Logic.{⊎_elim}
use lib.ListN.{length, take}
use lib.Seq.{take_all, length-take-le}
use Rattle.lists.proofs.Cases.{lt-or-le}

pub prefix-within : (xs : List ℕ) (n m : ℕ) → length xs ≡ m → n ≤ m → n ≤ length xs
prefix-within xs n m e h = omega arith

pub prefix-length : (xs : List ℕ) (n m : ℕ) → length xs ≡ m → n ≤ m → n ≡ length (take n xs)
prefix-length xs n m e h = sym (length-take-le n xs (omega arith))

-- a test in code may tell it as less
pub prefix-below : (n m : ℕ) → n < m → n ≤ m
prefix-below n m h = omega arith

pub ruleset first-bytes = (prefix-within, prefix-length, prefix-below)

-- the shorter of two lengths
pub shorter-within : (n k m : ℕ) → n ≡ min k m → n ≤ m
shorter-within n k m e = omega arith

pub ruleset shorter-bytes = (prefix-within, prefix-length, shorter-within)

pub prefix-whole : (xs : List ℕ) (n m : ℕ) → length xs ≡ m → m ≤ n → xs ≡ take n xs
prefix-whole xs n m e h = sym (take_all n xs (omega arith))

pub prefix-shorter : (xs : List ℕ) (n m : ℕ) → length xs ≡ m → take (min n m) xs ≡ take n xs
prefix-shorter xs n m e =
    ⊎_elim
    (λ l. let z : min n m ≡ n = omega arith in ap (λ (k : ℕ). take k xs) z)
    (λ l. let z : min n m ≡ m = omega arith in ap (λ (k : ℕ). take k xs) z ∙ sym (prefix-whole xs m m e (omega arith)) ∙ prefix-whole xs n m e l)
    (lt-or-le n m)
