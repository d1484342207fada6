-- A map over a list: its length, and its elements; and one that is made in place, element by element.
use Prim.Native.Nat.{ℕ, zero, suc, ◌<◌}
use native.Mathlib.Omega.{arith}
use native.Mathlib.Nat.{not-suc-le-zero, le_of_suc-le-suc}
use mathlib.Core.Path.{◌≡◌, refl, sym, ap, ◌∙◌}
use mathlib.Core.List.{List, [], ◌∷◌, map}
use lib.ListN.{length, get_or, set, length-map, get_or-map}
use lib.Seq.{set-get_or}
use Rattle.lists.proofs.Every.{get_d_any}

pub length-mapped : (X Y : Type 0) (f : X → Y) (l : List X) (n : ℕ) → length (map f l) ≡ n → length l ≡ n
length-mapped X Y f l n h = sym (length-map l f) ∙ h

-- whatever stands for the elements past the end
pub mapped_at : {X Y : Type 0} (f : X → Y) (xs : List X) (k : ℕ) (d : X) (e : Y) → k < length xs → get_or (map f xs) k e ≡ f (get_or xs k d)
mapped_at f xs k d e l = get_d_any (map f xs) k e (f d) (omega (arith, length-map xs f)) ∙ get_or-map f xs k d

-- ---- a map in place: the first i elements are mapped, the others stay
unfoldable pub map_first : {X : Type 0} (f : X → X) → List X → ℕ → List X
map_first f [] i = []
map_first f (x ∷ xs) zero = x ∷ map_first f xs zero
map_first f (x ∷ xs) (suc i) = f x ∷ map_first f xs i

module _ {X : Type 0} (f : X → X) where
  pub first-none : (xs : List X) → map_first f xs 0 ≡ xs
  unfolding map_first
  first-none [] = refl
  first-none (x ∷ xs) = ap (λ (ys : List X). x ∷ ys) (first-none xs)

  pub first-all : (xs : List X) → map_first f xs (length xs) ≡ map f xs
  unfolding map_first
  first-all [] = refl
  first-all (x ∷ xs) = ap (λ (ys : List X). f x ∷ ys) (first-all xs)

  -- element i is overwritten
  pub first-put : (xs : List X) (i : ℕ) (d : X) → i < length xs → set (map_first f xs i) i (f (get_or (map_first f xs i) i d)) ≡ map_first f xs (suc i)
  unfolding map_first
  first-put [] i d l = absurd (not-suc-le-zero l)
  first-put (x ∷ xs) zero d l = refl
  first-put (x ∷ xs) (suc i) d l = ap (λ (ys : List X). f x ∷ ys) (first-put xs i d (le_of_suc-le-suc l))

  -- it is what the map makes of it
  pub first-stays : (xs : List X) (i : ℕ) (d : X) → i < length xs → get_or (map_first f xs i) i d ≡ f (get_or (map_first f xs i) i d) → map_first f xs i ≡ map_first f xs (suc i)
  first-stays xs i d l q = sym (set-get_or (map_first f xs i) i d) ∙ ap (set (map_first f xs i) i) q ∙ first-put xs i d l
