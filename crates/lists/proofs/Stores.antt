-- A list after a store at a place: what holds of the new element and of the others holds of all.
use Prim.Native.Nat.{ℕ, ◌<◌}
use native.Mathlib.Omega.{arith}
use mathlib.Core.Path.{◌≡◌}
use mathlib.Core.Bool.{Bool, false}
use mathlib.Core.Logic.{⊎_elim}
use mathlib.Core.List.{List}
use lib.ListN.{length, get_or, set, length-set}
use lib.Seq.{get_or-set_same, get_or-set_other}
use Rattle.lists.proofs.Cases.{eq-or-ne}

module _ {A : Type 0} (xs : List A) (place : ℕ) (v d : A) where
  -- of each element
  pub stored-each : (P : A → Type 0) → P v → ((i : ℕ) → i < length xs → P (get_or xs i d)) → (i : ℕ) → i < length (set xs place v) → P (get_or (set xs place v) i d)
  stored-each P new old i l =
      let m : i < length xs = omega (arith, length-set xs place v) in
      ⊎_elim
      (λ z. rw (z, get_or-set_same xs place v d (omega arith)) new)
      (λ z. rw (get_or-set_other xs place i v d z) (old i m))
      (eq-or-ne i place)

  -- of each pair: no two are alike
  pub stored-apart : (alike : A → A → Bool)
      → ((j : ℕ) → j < length xs → (j ≡ place → ⊥) → (alike v (get_or xs j d) ≡ false) × (alike (get_or xs j d) v ≡ false))
      → ((i j : ℕ) → i < j → j < length xs → alike (get_or xs i d) (get_or xs j d) ≡ false)
      → (i j : ℕ) → i < j → j < length (set xs place v) → alike (get_or (set xs place v) i d) (get_or (set xs place v) j d) ≡ false
  stored-apart alike new old i j k l =
      let m : j < length xs = omega (arith, length-set xs place v) in
      ⊎_elim
      (λ z.
      let g : j ≡ place → ⊥ = λ y. omega arith in
      rw (z, get_or-set_same xs place v d (omega arith), get_or-set_other xs place j v d g) (new j m g).0)
      (λ z.
      rw (get_or-set_other xs place i v d z)
      (⊎_elim
      (λ y. rw (y, get_or-set_same xs place v d (omega arith)) (new i (omega arith) z).1)
      (λ y. rw (get_or-set_other xs place j v d y) (old i j k m))
      (eq-or-ne j place)))
      (eq-or-ne i place)
