-- What a type says of its values, it says of every element of an array of it.
use mathlib.Core.Path.{◌≡◌, sym, ◌∙◌, subst}
use Prim.Native.Nat.{ℕ, zero, suc, ◌<◌}
use native.Mathlib.Omega.{arith}
use mathlib.Core.List.{List, [], ◌∷◌, map, map-id}
use lib.ListN.{length, get_or, length-map}
use mir.Val.{Val}
use denote.RattleType.{RattleType}
use denote.Laws.{Is}
use denote.Array.{each, Array}
use denote.Shadow.{shadow}

-- of an array that is a field of a struct, whose relation stands at a map over the list
module _ {X : Type 0} (R : RattleType) (f : X → R.Denot) (P : X → Type 0) (one : (x : X) (vs : List Val) → Is R (f x) vs → P x) where
  each-mapped : (xs : List X) (us : List Val) → shadow (each R.Denot R.own_val (map f xs) us) → (d : X) (i : ℕ) → i < length xs → P (get_or xs i d)
  each-mapped [] us s d i h = absurd (omega arith)
  each-mapped (x ∷ xs) [] s d i h = absurd s
  each-mapped (x ∷ xs) (u ∷ us) s d zero h = one x (u ∷ []) s.0
  each-mapped (x ∷ xs) (u ∷ us) s d (suc i) h = each-mapped xs us s.1 d i (omega arith)

  pub each-in-field : (n : ℕ) (xs : List X) (vs : List Val) → Is (Array R n) (map f xs) vs → (d : X) (i : ℕ) → i < n → P (get_or xs i d)
  each-in-field n xs vs p d i h =
      let l : length xs ≡ n = sym (length-map xs f) ∙ p.1.0.1 in
      each-mapped xs p.0 p.1.1 d i (omega arith)

-- of an array itself
pub each-element : (R : RattleType) (P : R.Denot → Type 0) → ((x : R.Denot) (vs : List Val) → Is R x vs → P x)
    → (n : ℕ) (xs : List R.Denot) (vs : List Val) → Is (Array R n) xs vs → (d : R.Denot) (i : ℕ) → i < n → P (get_or xs i d)
each-element R P one n xs vs p = each-in-field R (λ (x : R.Denot). x) P one n xs vs (subst (λ (ys : List R.Denot). Is (Array R n) ys vs) (sym (map-id xs)) p)
