-- `distinct`: at two places, from all pairs of places, and by each element with those behind it.
use Prim.Native.Nat.{ℕ, zero, suc, ◌<◌}
use native.Mathlib.Omega.{arith}
use mathlib.Core.Path.{◌≡◌, refl, sym, ap, ◌∙◌}
use mathlib.Core.Bool.{Bool, true, false, not, ◌&&◌}
use mathlib.Core.List.{List, [], ◌∷◌}
use lib.ListN.{length, get_or}
use borrow.Author.Tests.{not-true}
use Rattle.lists.specs.Lists.{every, distinct, behind}
use Rattle.lists.proofs.Cases.{and_first, and_second, and_intro}
use Rattle.lists.proofs.Every.{every-at, every-from}

module _ {A : Type 0} (alike : A → A → Bool) where
  -- no later element is alike to x
  abbrev pub unlike : A → A → Bool
  unlike x y = not (alike x y)

  pub distinct_cons : (x : A) (xs : List A) → distinct alike (x ∷ xs) ≡ (every (unlike x) xs && distinct alike xs)
  unfolding distinct
  distinct_cons x xs = refl

  pub distinct_nil : distinct alike [] ≡ true
  unfolding distinct
  distinct_nil = refl

  pub distinct-at : (xs : List A) (d : A) (i j : ℕ) → distinct alike xs ≡ true → i < j → j < length xs → alike (get_or xs i d) (get_or xs j d) ≡ false
  distinct-at [] d i j h l m = absurd (omega arith)
  distinct-at (x ∷ xs) d i zero h l m = absurd (omega arith)
  distinct-at (x ∷ xs) d zero (suc j) h l m =
      let e = sym (distinct_cons x xs) ∙ h in
      not-true _ (every-at (unlike x) xs d j (and_first (every (unlike x) xs) (distinct alike xs) e) (omega arith))
  distinct-at (x ∷ xs) d (suc i) (suc j) h l m =
      let e = sym (distinct_cons x xs) ∙ h in
      distinct-at xs d i j (and_second (every (unlike x) xs) (distinct alike xs) e) (omega arith) (omega arith)

  pub distinct_from : (xs : List A) (d : A) → ((i j : ℕ) → i < j → j < length xs → alike (get_or xs i d) (get_or xs j d) ≡ false) → distinct alike xs ≡ true
  distinct_from [] d f = distinct_nil
  distinct_from (x ∷ xs) d f =
      distinct_cons x xs
      ∙ and_intro (every (unlike x) xs) (distinct alike xs)
      (every-from (unlike x) xs d (λ i l. ap not (f 0 (suc i) (omega arith) (omega arith))))
      (distinct_from xs d (λ i j l m. f (suc i) (suc j) (omega arith) (omega arith)))

  -- so a test of each element beside those behind it, in `all` over a `Behind`, tells whether no two are alike
  pub distinct_behind : (xs : List A) → distinct alike xs ≡ every (λ p. every (unlike p.0) p.1) (behind xs)
  unfolding distinct every behind
  distinct_behind [] = refl
  distinct_behind (x ∷ xs) = ap (λ b. every (unlike x) xs && b) (distinct_behind xs)
