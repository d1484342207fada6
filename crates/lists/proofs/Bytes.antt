-- Byte strings: equality, padding with zeros, and a new front.
use Prim.Native.Nat.{ℕ, zero, suc, ◌+◌, ◌-◌, ◌≤◌, ◌<◌, min}
use native.Mathlib.Omega.{arith}
use mathlib.Core.Path.{◌≡◌, refl, sym, ap, ◌∙◌, subst}
use mathlib.Core.Bool.{true, false, ◌&&◌}
use mathlib.Core.List.{List, [], ◌∷◌, ◌++◌}
use lib.ListN.{length, take, drop, get_or, replicate, drop_of_length-le, length-append, length-drop}
use lib.Seq.{take-append_seam, drop-append_seam, take-nil}
use lib.Dec.{eqb}
use Rattle.std.proofs.lemmas.Grind.{common_steps}
use Rattle.std.specs.Cmp.Lexicographic.{pointwise}
use borrow.Author.Tests.{eqb-true, eq-eqb, ne_eqb}
use Rattle.lists.specs.Lists.{every, eq_bytes, pad_to, front, is_zero}
use Rattle.lists.proofs.Cases.{and_first, and_second, and_intro, and-true, and-false, never, not-passed}
use Rattle.lists.proofs.Every.{drop-step, every-cons, every-nil}

-- ---- equality

pub eq-bytes : (xs ys : List ℕ) → eq_bytes xs ys ≡ true → xs ≡ ys
unfolding eq_bytes
eq-bytes [] [] h = refl
eq-bytes [] (y ∷ ys) h = never refl (sym h)
eq-bytes (x ∷ xs) [] h = never refl (sym h)
eq-bytes (x ∷ xs) (y ∷ ys) h =
    let e = eqb-true x y (and_first (eqb x y) (eq_bytes xs ys) h) in
    let r = eq-bytes xs ys (and_second (eqb x y) (eq_bytes xs ys) h) in
    rw (e, r)

pub bytes-refl : (xs : List ℕ) → eq_bytes xs xs ≡ true
unfolding eq_bytes
bytes-refl [] = refl
bytes-refl (x ∷ xs) = and_intro (eqb x x) (eq_bytes xs xs) (eq-eqb x x refl) (bytes-refl xs)

pub bytes_eq : (xs ys : List ℕ) → xs ≡ ys → eq_bytes xs ys ≡ true
bytes_eq xs ys e = subst (λ (l : List ℕ). eq_bytes xs l ≡ true) e (bytes-refl xs)

pub bytes-ne : (xs ys : List ℕ) → (xs ≡ ys → ⊥) → eq_bytes xs ys ≡ false
bytes-ne xs ys f = not-passed (eq_bytes xs ys) (λ h. f (eq-bytes xs ys h))

-- byte strings of two lengths
pub bytes-longer : (xs ys : List ℕ) → (length xs ≡ length ys → ⊥) → eq_bytes xs ys ≡ false
bytes-longer xs ys f = bytes-ne xs ys (λ e. f (ap length e))

-- one byte on
module _ (xs ys : List ℕ) (i : ℕ) (l : i < length xs) (m : i < length ys) where
  bytes-step : eq_bytes (drop i xs) (drop i ys) ≡ (eqb (get_or xs i 0) (get_or ys i 0) && eq_bytes (drop (i + 1) xs) (drop (i + 1) ys))
  unfolding eq_bytes
  bytes-step = rw (drop-step xs i 0 l, drop-step ys i 0 m)

  pub bytes-stop : (get_or xs i 0 ≡ get_or ys i 0 → ⊥) → eq_bytes (drop i xs) (drop i ys) ≡ false
  bytes-stop f =
      bytes-step ∙ and-false (eqb (get_or xs i 0) (get_or ys i 0)) (eq_bytes (drop (i + 1) xs) (drop (i + 1) ys)) (ne_eqb (get_or xs i 0) (get_or ys i 0) f)

  pub bytes_next : get_or xs i 0 ≡ get_or ys i 0 → eq_bytes (drop i xs) (drop i ys) ≡ eq_bytes (drop (i + 1) xs) (drop (i + 1) ys)
  bytes_next e =
      bytes-step ∙ and-true (eqb (get_or xs i 0) (get_or ys i 0)) (eq_bytes (drop (i + 1) xs) (drop (i + 1) ys)) (eq-eqb (get_or xs i 0) (get_or ys i 0) e)

pub bytes-end : (xs ys : List ℕ) (i : ℕ) → length xs ≤ i → length ys ≤ i → eq_bytes (drop i xs) (drop i ys) ≡ true
unfolding eq_bytes
bytes-end xs ys i l m = rw (drop_of_length-le xs l, drop_of_length-le ys m)

-- which of two byte strings comes first in `==` is the same
eqb-sym : (x y : ℕ) → eqb x y ≡ eqb y x
eqb-sym x y = grind (arith, common_steps)

pub by_prefix : (xs ys : List ℕ) → pointwise eqb xs ys ≡ pointwise eqb ys xs
by_prefix [] [] = refl
by_prefix [] (y ∷ ys) = refl
by_prefix (x ∷ xs) [] = refl
by_prefix (x ∷ xs) (y ∷ ys) = rw (eqb-sym x y, by_prefix xs ys)

-- ---- padding

pub pad-length : (n : ℕ) (xs : List ℕ) → length (pad_to n xs) ≡ n
unfolding pad_to
pad-length zero xs = refl
pad-length (suc n) [] = ap suc (pad-length n [])
pad-length (suc n) (x ∷ xs) = ap suc (pad-length n xs)

pub pad-nil : (n : ℕ) → pad_to n [] ≡ replicate n 0
unfolding pad_to
pad-nil zero = refl
pad-nil (suc n) = ap (λ (l : List ℕ). 0 ∷ l) (pad-nil n)

pub pad-fits : (n : ℕ) (xs : List ℕ) → length xs ≤ n → pad_to n xs ≡ xs ++ replicate (n - length xs) 0
unfolding pad_to
pad-fits zero [] h = refl
pad-fits zero (x ∷ xs) h = absurd (omega arith)
pad-fits (suc n) [] h = let e : suc n ≡ suc n - 0 = omega arith in pad-nil (suc n) ∙ ap (λ (m : ℕ). replicate m 0) e
pad-fits (suc n) (x ∷ xs) h =
    let e : n - length xs ≡ suc n - suc (length xs) = omega arith in
    ap (λ (l : List ℕ). x ∷ l) (pad-fits n xs (omega arith)) ∙ ap (λ (m : ℕ). x ∷ (xs ++ replicate m 0)) e

pub pad-take : (n : ℕ) (xs : List ℕ) → length xs ≤ n → take (length xs) (pad_to n xs) ≡ xs
pad-take n xs h = ap (take (length xs)) (pad-fits n xs h) ∙ take-append_seam xs (replicate (n - length xs) 0)

pub pad-drop : (n : ℕ) (xs : List ℕ) → length xs ≤ n → drop (length xs) (pad_to n xs) ≡ replicate (n - length xs) 0
pad-drop n xs h = ap (drop (length xs)) (pad-fits n xs h) ∙ drop-append_seam xs (replicate (n - length xs) 0)

pub pad-at : (n : ℕ) (xs : List ℕ) (i d : ℕ) → i < n → get_or (pad_to n xs) i d ≡ get_or xs i 0
unfolding pad_to
pad-at zero xs i d h = absurd (omega arith)
pad-at (suc n) [] zero d h = refl
pad-at (suc n) [] (suc i) d h = pad-at n [] i d (omega arith)
pad-at (suc n) (x ∷ xs) zero d h = refl
pad-at (suc n) (x ∷ xs) (suc i) d h = pad-at n xs i d (omega arith)

-- a part that has all that the places hold
pub pad-part : (m n : ℕ) (xs : List ℕ) → min (length xs) m ≤ n → pad_to m (take n xs) ≡ pad_to m xs
unfolding pad_to
pad-part zero n xs h = refl
pad-part (suc m) n [] h = ap (pad_to (suc m)) (take-nil n)
pad-part (suc m) zero (x ∷ xs) h = absurd (omega arith)
pad-part (suc m) (suc n) (x ∷ xs) h = ap (λ (l : List ℕ). x ∷ l) (pad-part m n xs (omega arith))

pub zeros-zero : (n : ℕ) → every is_zero (replicate n 0) ≡ true
zeros-zero zero = every-nil is_zero
zeros-zero (suc n) = every-cons is_zero 0 (replicate n 0) ∙ zeros-zero n

-- ---- a new front

pub front_length : (xs room : List ℕ) → length xs ≤ length room → length (front xs room) ≡ length room
unfolding front
front_length xs room h = omega (arith, length-append xs (drop (length xs) room), length-drop (length xs) room)

pub front-take : (xs room : List ℕ) → take (length xs) (front xs room) ≡ xs
unfolding front
front-take xs room = take-append_seam xs (drop (length xs) room)

pub front-drop : (xs room : List ℕ) → drop (length xs) (front xs room) ≡ drop (length xs) room
unfolding front
front-drop xs room = drop-append_seam xs (drop (length xs) room)
