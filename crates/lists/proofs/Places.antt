-- `first_place`: the lowest place that passes a test, what it says of all places, after a store, and along a loop.
use Rattle.std.specs.Prelude.{None, Option, Some}
use Prim.Native.Nat.{ℕ, zero, suc, ◌+◌, ◌≤◌, ◌<◌}
use native.Mathlib.Omega.{arith}
use mathlib.Core.Path.{◌≡◌, refl, sym, ap, ◌∙◌, subst}
use mathlib.Core.Bool.{Bool, true, false, cond}
use mathlib.Core.Logic.{⊎_elim}
use mathlib.Core.List.{List, [], ◌∷◌}
use lib.ListN.{length, drop, get_or, drop_of_length-le}
use Rattle.lists.specs.Lists.{first_from, first_place}
use Rattle.lists.proofs.Cases.{by-test, never, not-passed, cond-true, cond-false, lt-or-le}
use Rattle.lists.proofs.Every.{drop-step}

-- what a search that starts to count at k says of its list
pub data Search {A : Type 0} (p : A → Bool) (xs : List A) (k : ℕ) : Option ℕ → Type 0 where
  lowest : (n i : ℕ) → n ≡ k + i → i < length xs → ((d : A) → p (get_or xs i d) ≡ true) → ((j : ℕ) (d : A) → j < i → p (get_or xs j d) ≡ false)
      → Search p xs k (Some n)
  none : ((j : ℕ) (d : A) → j < length xs → p (get_or xs j d) ≡ false) → Search p xs k None

-- place i passes, and no lower one does
pub record First {A : Type 0} (p : A → Bool) (xs : List A) (i : ℕ) : Type 0 where
  pub inside : i < length xs
  pub passes : (d : A) → p (get_or xs i d) ≡ true
  pub lower : (j : ℕ) (d : A) → j < i → p (get_or xs j d) ≡ false

module _ {A : Type 0} (p : A → Bool) where
  from_cons : (k : ℕ) (x : A) (xs : List A) → first_from k p (x ∷ xs) ≡ cond (p x) (Some k) (first_from (k + 1) p xs)
  unfolding first_from
  from_cons k x xs = refl

  from-nil : (k : ℕ) → first_from k p [] ≡ None
  unfolding first_from
  from-nil k = refl

  pub place-from : (xs : List A) → first_place p xs ≡ first_from 0 p xs
  unfolding first_place first_from
  place-from xs = refl

  failing : (x : A) (xs : List A) (n : ℕ) → p x ≡ false → ((j : ℕ) (d : A) → j < n → p (get_or xs j d) ≡ false) → (j : ℕ) (d : A) → j < suc n
      → p (get_or (x ∷ xs) j d) ≡ false
  failing x xs n t r zero d m = t
  failing x xs n t r (suc j) d m = r j d (omega arith)

  later : (x : A) (xs : List A) (k : ℕ) (f : (Option ℕ)) → p x ≡ false → Search p xs (k + 1) f → Search p (x ∷ xs) k f
  later x xs k f t (lowest n i e l q r) = lowest n (suc i) (omega arith) (omega arith) q (failing x xs i t r)
  later x xs k f t (none r) = none (failing x xs (length xs) t r)

  searched : (xs : List A) (k : ℕ) → Search p xs k (first_from k p xs)
  searched [] k = rw (from-nil k) (none (λ j d l. absurd (omega arith)))
  searched (x ∷ xs) k =
      by-test (p x)
      (λ t.
      subst (Search p (x ∷ xs) k)
      (sym (from_cons k x xs ∙ cond-true (p x) (Some k) (first_from (k + 1) p xs) t))
      (lowest k 0 (omega arith) (omega arith) (λ d. t) (λ j d l. absurd (omega arith))))
      (λ t.
      subst (Search p (x ∷ xs) k)
      (sym (from_cons k x xs ∙ cond-false (p x) (Some k) (first_from (k + 1) p xs) t))
      (later x xs k (first_from (k + 1) p xs) t (searched xs (k + 1))))

  place-searched : (xs : List A) (f : (Option ℕ)) → first_place p xs ≡ f → Search p xs 0 f
  place-searched xs f e = subst (Search p xs 0) (sym (place-from xs) ∙ e) (searched xs 0)

  place-first : (xs : List A) (i : ℕ) → Search p xs 0 (Some i) → First p xs i
  place-first xs i (lowest n k e l q r) =
      let z : k ≡ n = omega arith in
      record {
        inside = omega arith;
        passes = subst (λ (m : ℕ). (d : A) → p (get_or xs m d) ≡ true) z q;
        lower = λ j d m. r j d (omega arith);
      }

  place_none : (xs : List A) → Search p xs 0 None → (j : ℕ) (d : A) → j < length xs → p (get_or xs j d) ≡ false
  place_none xs (none r) = r

  -- the lowest place passes, and lower ones don't; without one, none passes
  pub first-at : (xs : List A) (i : ℕ) → first_place p xs ≡ Some i → First p xs i
  first-at xs i e = place-first xs i (place-searched xs (Some i) e)

  pub first-nothing : (xs : List A) → first_place p xs ≡ None → (j : ℕ) (d : A) → j < length xs → p (get_or xs j d) ≡ false
  first-nothing xs e = place_none xs (place-searched xs None e)

  -- and the other way round
  none_from : (xs : List A) (k : ℕ) → ((j : ℕ) (d : A) → j < length xs → p (get_or xs j d) ≡ false) → first_from k p xs ≡ None
  none_from [] k f = from-nil k
  none_from (x ∷ xs) k f =
      from_cons k x xs
      ∙ cond-false (p x) (Some k) (first_from (k + 1) p xs) (f 0 x (omega arith))
      ∙ none_from xs (k + 1) (λ j d l. f (suc j) d (omega arith))

  pub first-none : (xs : List A) → ((j : ℕ) (d : A) → j < length xs → p (get_or xs j d) ≡ false) → first_place p xs ≡ None
  first-none xs f = place-from xs ∙ none_from xs 0 f

  -- one element on
  module _ (xs : List A) (i : ℕ) (d : A) (l : i < length xs) where
    from_step : first_from i p (drop i xs) ≡ cond (p (get_or xs i d)) (Some i) (first_from (i + 1) p (drop (i + 1) xs))
    from_step = ap (first_from i p) (drop-step xs i d l) ∙ from_cons i (get_or xs i d) (drop (i + 1) xs)

    pub from-here : p (get_or xs i d) ≡ true → first_from i p (drop i xs) ≡ Some i
    from-here t = from_step ∙ cond-true (p (get_or xs i d)) (Some i) (first_from (i + 1) p (drop (i + 1) xs)) t

    pub from_next : p (get_or xs i d) ≡ false → first_from i p (drop i xs) ≡ first_from (i + 1) p (drop (i + 1) xs)
    from_next t = from_step ∙ cond-false (p (get_or xs i d)) (Some i) (first_from (i + 1) p (drop (i + 1) xs)) t

  pub from_end : (xs : List A) (i : ℕ) → length xs ≤ i → first_from i p (drop i xs) ≡ None
  from_end xs i h = ap (first_from i p) (drop_of_length-le xs h) ∙ from-nil i

-- tests of two lists that agree at every place find the same place
module _ {A B : Type 0} (p : A → Bool) (q : B → Bool) (d : A) (e : B) where
  agree-from : (xs : List A) (ys : List B) (k : ℕ) → length xs ≡ length ys → ((i : ℕ) → i < length xs → p (get_or xs i d) ≡ q (get_or ys i e))
      → first_from k p xs ≡ first_from k q ys
  agree-from [] [] k n f = from-nil p k ∙ sym (from-nil q k)
  agree-from [] (y ∷ ys) k n f = absurd (omega arith)
  agree-from (x ∷ xs) [] k n f = absurd (omega arith)
  agree-from (x ∷ xs) (y ∷ ys) k n f =
      from_cons p k x xs
      ∙ ap (λ (t : Bool). cond t (Some k) (first_from (k + 1) p xs)) (f 0 (omega arith))
      ∙ ap (λ (g : (Option ℕ)). cond (q y) (Some k) g) (agree-from xs ys (k + 1) (omega arith) (λ i l. f (suc i) (omega arith)))
      ∙ sym (from_cons q k y ys)

  pub first-agree : (xs : List A) (ys : List B) → length xs ≡ length ys → ((i : ℕ) → i < length xs → p (get_or xs i d) ≡ q (get_or ys i e))
      → first_place p xs ≡ first_place q ys
  first-agree xs ys n f = place-from p xs ∙ agree-from xs ys 0 n f ∙ sym (place-from q ys)

-- where no two elements are alike and all that pass a test are, the first that passes is the only one
pub first-only : {A : Type 0} (p : A → Bool) (alike : A → A → Bool) (xs : List A) (d : A) (i : ℕ) → First p xs i
    → ((x y : A) → p x ≡ true → p y ≡ true → alike x y ≡ true)
    → ((j k : ℕ) → j < k → k < length xs → alike (get_or xs j d) (get_or xs k d) ≡ false)
    → (j : ℕ) → j < length xs → (j ≡ i → ⊥) → p (get_or xs j d) ≡ false
first-only p alike xs d i w same apart j l f =
    not-passed (p (get_or xs j d))
    (λ h.
    ⊎_elim
    (λ m. never h (w.lower j d m))
    (λ m. let k : i < j = later i j m f in never (same (get_or xs i d) (get_or xs j d) (w.passes d) h) (apart i j k l))
    (lt-or-le j i))
  where
    later : (i j : ℕ) → i ≤ j → (j ≡ i → ⊥) → i < j
    later i j m f = omega arith
