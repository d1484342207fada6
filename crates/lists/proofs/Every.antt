-- `every`: at a place, from all places, after a store, and along a loop.
use Prim.Native.Nat.{ℕ, zero, suc, ◌+◌, ◌<◌}
use native.Mathlib.Omega.{arith}
use native.Mathlib.Numerals.{add-one}
use mathlib.Core.Path.{◌≡◌, refl, sym, ap, ◌∙◌}
use mathlib.Core.Logic.{⊎_elim}
use mathlib.Core.Bool.{Bool, true, ◌&&◌}
use mathlib.Core.List.{List, [], ◌∷◌, ◌++◌}
use lib.ListN.{length, drop, get_or, length-append, get_or-append}
use lib.Seq.{drop-cons, get_or_at}
use Rattle.lists.specs.Lists.{every, up_to}
use Rattle.lists.proofs.Cases.{and_first, and_second, and_intro, and-true, and-false, by-test, lt-or-le}

-- an element within the list is the same whatever stands for those past its end
pub get_d_any {ℓ} : {A : Type ℓ} (xs : List A) (i : ℕ) (d e : A) → i < length xs → get_or xs i d ≡ get_or xs i e
get_d_any [] i d e h = absurd (omega arith)
get_d_any (x ∷ xs) zero d e h = refl
get_d_any (x ∷ xs) (suc i) d e h = get_d_any xs i d e (omega arith)

pub drop-step {ℓ} : {A : Type ℓ} (xs : List A) (i : ℕ) (d : A) → i < length xs → drop i xs ≡ get_or xs i d ∷ drop (i + 1) xs
drop-step xs i d h = rw (add-one, drop-cons xs i d)

module _ {A : Type 0} (p : A → Bool) where
  pub every-cons : (x : A) (xs : List A) → every p (x ∷ xs) ≡ (p x && every p xs)
  unfolding every
  every-cons x xs = refl

  pub every-nil : every p [] ≡ true
  unfolding every
  every-nil = refl

  pub every-at : (xs : List A) (d : A) (i : ℕ) → every p xs ≡ true → i < length xs → p (get_or xs i d) ≡ true
  unfolding every
  every-at [] d i h l = absurd (omega arith)
  every-at (x ∷ xs) d zero h l = and_first (p x) (every p xs) h
  every-at (x ∷ xs) d (suc i) h l = every-at xs d i (and_second (p x) (every p xs) h) (omega arith)

  pub every-from : (xs : List A) (d : A) → ((i : ℕ) → i < length xs → p (get_or xs i d) ≡ true) → every p xs ≡ true
  unfolding every
  every-from [] d f = refl
  every-from (x ∷ xs) d f = and_intro (p x) (every p xs) (f 0 (omega arith)) (every-from xs d (λ i l. f (suc i) (omega arith)))

  pub every_append : (xs ys : List A) → every p (xs ++ ys) ≡ (every p xs && every p ys)
  unfolding every
  every_append [] ys = refl
  every_append (x ∷ xs) ys =
      by-test (p x)
      (λ t. and-true (p x) (every p (xs ++ ys)) t ∙ every_append xs ys ∙ sym (ap (λ (b : Bool). b && every p ys) (and-true (p x) (every p xs) t)))
      (λ t. and-false (p x) (every p (xs ++ ys)) t ∙ sym (ap (λ (b : Bool). b && every p ys) (and-false (p x) (every p xs) t)))

-- tests of two lists that agree at every place
pub every-agree : {A B : Type 0} (p : A → Bool) (q : B → Bool) (d : A) (e : B) (xs : List A) (ys : List B) → length xs ≡ length ys
    → ((i : ℕ) → i < length xs → p (get_or xs i d) ≡ q (get_or ys i e)) → every p xs ≡ every q ys
unfolding every
every-agree p q d e [] [] n f = refl
every-agree p q d e [] (y ∷ ys) n f = absurd (omega arith)
every-agree p q d e (x ∷ xs) [] n f = absurd (omega arith)
every-agree p q d e (x ∷ xs) (y ∷ ys) n f =
    ap (λ (b : Bool). b && every p xs) (f 0 (omega arith))
    ∙ ap (λ (b : Bool). q y && b) (every-agree p q d e xs ys (omega arith) (λ i l. f (suc i) (omega arith)))

-- ---- the numbers below n

pub up-length : (n : ℕ) → length (up_to n) ≡ n
unfolding up_to
up-length zero = refl
up-length (suc n) = omega (arith, length-append (up_to n) (n ∷ []), up-length n)

pub up_at : (n i d : ℕ) → i < n → get_or (up_to n) i d ≡ i
unfolding up_to
up_at zero i d h = absurd (omega arith)
up_at (suc n) i d h =
    ⊎_elim
    (λ l. get_or-append (up_to n) (n ∷ []) d i (omega (arith, up-length n)) ∙ up_at n i d l)
    (λ l. let e : i ≡ n = omega arith in rw e (get_or_at (up_to n) n [] d n (up-length n)))
    (lt-or-le i n)
