-- A test of each element of a list: it holds of all where it holds of every value, and two tests that agree hold of the same lists.
use mathlib.Core.Path.{◌≡◌, sym, ap, ◌∙◌}
use mathlib.Core.Bool.{Bool, true, ◌&&◌}
use mathlib.Core.List.{List, [], ◌∷◌}
use Rattle.lists.specs.Lists.{every}
use Rattle.lists.proofs.Cases.{and_intro}
use Rattle.lists.proofs.Every.{every-cons, every-nil}

module _ {A : Type 0} (p : A → Bool) where
  pub every_true : (xs : List A) → ((y : A) → p y ≡ true) → every p xs ≡ true
  every_true [] f = every-nil p
  every_true (x ∷ xs) f = every-cons p x xs ∙ and_intro (p x) (every p xs) (f x) (every_true xs f)

  pub every_same : (q : A → Bool) (xs : List A) → ((y : A) → p y ≡ q y) → every p xs ≡ every q xs
  every_same q [] f = every-nil p ∙ sym (every-nil q)
  every_same q (x ∷ xs) f =
      every-cons p x xs ∙ ap (λ (b : Bool). b && every p xs) (f x) ∙ ap (λ (b : Bool). q x && b) (every_same q xs f) ∙ sym (every-cons q x xs)
