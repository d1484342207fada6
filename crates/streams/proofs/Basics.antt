-- Cases of a byte, tests over lists, and the laws of the byte model over a timeline.
use mathlib.Core.Path.{◌≡◌, refl, sym, ap, ◌∙◌}
use Prim.Native.Nat.{ℕ}
use mathlib.Core.List.{List, [], ◌∷◌, ◌++◌}
use mathlib.Core.Bool.{Bool, true, ◌&&◌}
use lib.ListN.{take, drop, take-append-drop}
use Rattle.lists.specs.Lists.{every}
use Rattle.lists.proofs.Cases.{and_first, and_second}
use Rattle.std.proofs.lemmas.List.Folds.{list_all-append}
use Rattle.streams.specs.Model.{Fed, quiet, answered, Receiver, Item, byte, event, ended_by, ending, feed_all}

pub by-fed {ℓ} : {S A : Type 0} {P : Type ℓ} (f : Fed S A) → ((t : S) → f ≡ quiet t → P)
    → ((a : A) (r : List ℕ) (t : S) → f ≡ answered a r t → P) → P
by-fed (quiet t) p q = p t refl
by-fed (answered a r t) p q = q a r t refl

module _ {A : Type 0} (p : A → Bool) where
  pub every-cons : (x : A) (xs : List A) → every p (x ∷ xs) ≡ true → (p x ≡ true) × (every p xs ≡ true)
  unfolding every
  every-cons x xs h = (and_first (p x) (every p xs) h, and_second (p x) (every p xs) h)

  pub every-both : (x : A) (xs : List A) → p x ≡ true → every p xs ≡ true → every p (x ∷ xs) ≡ true
  unfolding every
  every-both x xs h t = rw (h, t)

  pub every_append : (xs ys : List A) → every p xs ≡ true → every p ys ≡ true → every p (xs ++ ys) ≡ true
  unfolding every
  every_append xs ys h t = rw (list_all-append p xs ys, h) t

  -- the first n elements, and the others
  parts : (n : ℕ) (xs : List A) → every p xs ≡ true → (every p (take n xs) && every p (drop n xs)) ≡ true
  unfolding every
  parts n xs h = sym (list_all-append p (take n xs) (drop n xs)) ∙ (ap (every p) (take-append-drop n xs) ∙ h)

  pub every_take : (n : ℕ) (xs : List A) → every p xs ≡ true → every p (take n xs) ≡ true
  every_take n xs h = and_first (every p (take n xs)) (every p (drop n xs)) (parts n xs h)

  pub every_drop : (n : ℕ) (xs : List A) → every p xs ≡ true → every p (drop n xs) ≡ true
  every_drop n xs h = and_second (every p (take n xs)) (every p (drop n xs)) (parts n xs h)

-- The byte model, case by case
module _ {S A E : Type 0} (R : Receiver S A E) where
  pub fed-none : (s : S) (u : List ℕ) → feed_all R s u [] ≡ record { ended = []; state = s }
  unfolding feed_all
  fed-none s u = refl

  pub fed-quiet : (s t : S) (u : List ℕ) (b : ℕ) (rest : List (Item E)) → R.feed s b ≡ quiet t
      → feed_all R s u (byte b ∷ rest) ≡ feed_all R t (u ++ (b ∷ [])) rest
  unfolding feed_all
  fed-quiet s t u b rest h = rw (h, feed_all)

  pub fed-answered : (s t : S) (u : List ℕ) (b : ℕ) (rest : List (Item E)) (a : A) (r : List ℕ) → R.feed s b ≡ answered a r t
      → feed_all R s u (byte b ∷ rest) ≡ ending (ended_by u b a r) (feed_all R t [] rest)
  unfolding feed_all
  fed-answered s t u b rest a r h = rw (h, feed_all)

  pub fed-event : (s : S) (u : List ℕ) (e : E) (rest : List (Item E)) → feed_all R s u (event e ∷ rest) ≡ feed_all R (R.act e s) u rest
  unfolding feed_all
  fed-event s u e rest = refl
