-- A list put over the first places of another.
use Rattle.std.specs.Prelude.{None, Some}
use Prim.Native.Nat.{ℕ, suc, ◌+◌, ◌-◌, ◌≤◌, ◌<◌}
use native.Mathlib.Omega.{arith}
use mathlib.Core.Path.{◌≡◌, refl, sym, ap, ◌∙◌}
use mathlib.Core.List.{List, [], ◌∷◌, ◌++◌, append_assoc}
use mathlib.Core.Bool.{Bool, true, false, not}
use lib.ListN.{length, get_or, set, drop, length-append, get_or-append}
use lib.Seq.{set-append_seam, get_or-append-add, get_or-drop}
use borrow.Author.Tests.{not-true}
use Rattle.lists.specs.Lists.{every, distinct, first_from, first_place}
use Rattle.lists.proofs.Cases.{and_first, and_second, and_intro, cond-true, cond-false}
use Rattle.lists.proofs.Every.{drop-step, every-at}
use Rattle.streams.proofs.Basics.{every_drop}

module _ {A : Type 0} where
  -- the places of `base`, of which the first ones hold xs
  unfoldable pub filled : List A → List A → List A
  filled base xs = xs ++ drop (length xs) base

  -- the next one
  pub filled_put : (base : List A) (d : A) (xs : List A) (x : A) → length xs < length base
      → set (filled base xs) (length xs) x ≡ filled base (xs ++ (x ∷ []))
  unfolding filled
  filled_put base d xs x l =
      let e : length xs + 1 ≡ length (xs ++ (x ∷ [])) = omega (arith, length-append xs (x ∷ [])) in
      ap (λ (ys : List A). set (xs ++ ys) (length xs) x) (drop-step base (length xs) d l)
      ∙ (set-append_seam xs (get_or base (length xs) d) (drop (length xs + 1) base) x
      ∙ (ap (λ (k : ℕ). xs ++ (x ∷ drop k base)) e ∙ sym (append_assoc xs (x ∷ []) (drop (length (xs ++ (x ∷ []))) base))))

  pub filled_at : (base : List A) (d : A) (xs : List A) (i : ℕ) → i < length xs → get_or (filled base xs) i d ≡ get_or xs i d
  unfolding filled
  filled_at base d xs i l = get_or-append xs (drop (length xs) base) d i l

  pub filled-past : (base : List A) (d : A) (xs : List A) (i : ℕ) → length xs ≤ i → get_or (filled base xs) i d ≡ get_or base i d
  unfolding filled
  filled-past base d xs i l =
      let e : length xs + (i - length xs) ≡ i = omega arith in
      ap (λ (k : ℕ). get_or (xs ++ drop (length xs) base) k d) (sym e)
      ∙ (get_or-append-add xs (drop (length xs) base) (i - length xs) d
      ∙ (get_or-drop (length xs) base (i - length xs) d ∙ ap (λ (k : ℕ). get_or base k d) e))

  -- no element passes the test
  abbrev pub none : (A → Bool) → List A → Bool
  none p xs = every (λ x. not (p x)) xs

  from-behind : (p : A → Bool) (i : ℕ) (xs ys : List A) → none p xs ≡ true → first_from i p (xs ++ ys) ≡ first_from (i + length xs) p ys
  unfolding every first_from
  from-behind p i [] ys h = let e : i ≡ i + 0 = omega arith in ap (λ (k : ℕ). first_from k p ys) e
  from-behind p i (x ∷ xs) ys h =
      let e : i + 1 + length xs ≡ i + suc (length xs) = omega arith in
      let n : p x ≡ false = not-true (p x) (and_first (not (p x)) (none p xs) h) in
      cond-false (p x) (Some i) (first_from (i + 1) p (xs ++ ys)) n
      ∙ (from-behind p (i + 1) xs ys (and_second (not (p x)) (none p xs) h) ∙ ap (λ (k : ℕ). first_from k p ys) e)

  from-none : (p : A → Bool) (i : ℕ) (xs : List A) → none p xs ≡ true → first_from i p xs ≡ None
  unfolding every first_from
  from-none p i [] h = refl
  from-none p i (x ∷ xs) h =
      cond-false (p x) (Some i) (first_from (i + 1) p xs) (not-true (p x) (and_first (not (p x)) (none p xs) h))
      ∙ from-none p (i + 1) xs (and_second (not (p x)) (none p xs) h)

  -- the first place of the base that is left, where each of them passes the test
  pub filled-first : (p : A → Bool) (base : List A) (d : A) (xs : List A) → length xs < length base → none p xs ≡ true → every p base ≡ true
      → first_place p (filled base xs) ≡ Some (length xs)
  unfolding filled first_place first_from
  filled-first p base d xs l h t =
      let e : 0 + length xs ≡ length xs = omega arith in
      from-behind p 0 xs (drop (length xs) base) h
      ∙ (ap (first_from (0 + length xs) p) (drop-step base (length xs) d l)
      ∙ (cond-true (p (get_or base (length xs) d)) (Some (0 + length xs)) (first_from (0 + length xs + 1) p (drop (length xs + 1) base))
      (every-at p base d (length xs) t l)
      ∙ ap Some e))

  pub filled_none : (p : A → Bool) (base xs : List A) → none p xs ≡ true → none p base ≡ true → first_place p (filled base xs) ≡ None
  unfolding filled first_place first_from
  filled_none p base xs h t =
      from-behind p 0 xs (drop (length xs) base) h
      ∙ from-none p (0 + length xs) (drop (length xs) base) (every_drop (λ x. not (p x)) (length xs) base t)

  -- ---- in a list without two alike an element is alike to none before it
  pub none_before : (alike : A → A → Bool) (xs : List A) (y : A) (ys : List A) → distinct alike (xs ++ (y ∷ ys)) ≡ true
      → none (λ x. alike x y) xs ≡ true
  unfolding distinct every
  none_before alike [] y ys h = refl
  none_before alike (x ∷ xs) y ys h =
      let others = every (λ z. not (alike x z)) (xs ++ (y ∷ ys)) in
      and_intro (not (alike x y)) (none (λ z. alike z y) xs)
      (at-seam (λ z. not (alike x z)) xs y ys (and_first others (distinct alike (xs ++ (y ∷ ys))) h))
      (none_before alike xs y ys (and_second others (distinct alike (xs ++ (y ∷ ys))) h))
    where
      at-seam : (p : A → Bool) (xs : List A) (y : A) (ys : List A) → every p (xs ++ (y ∷ ys)) ≡ true → p y ≡ true
      at-seam p [] y ys h = and_first (p y) (every p ys) h
      at-seam p (x ∷ xs) y ys h = at-seam p xs y ys (and_second (p x) (every p (xs ++ (y ∷ ys))) h)

  -- a test of all holds of the first ones
  pub every-before : (p : A → Bool) (xs ys : List A) → every p (xs ++ ys) ≡ true → every p xs ≡ true
  unfolding every
  every-before p [] ys h = refl
  every-before p (x ∷ xs) ys h =
      and_intro (p x) (every p xs) (and_first (p x) (every p (xs ++ ys)) h) (every-before p xs ys (and_second (p x) (every p (xs ++ ys)) h))
