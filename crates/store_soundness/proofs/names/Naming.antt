-- The name of a held table against those of others.
use Prim.Native.Nat.{ℕ, min}
use mathlib.Core.Path.{◌≡◌, sym, ap, ◌∙◌}
use mathlib.Core.Bool.{Bool, false, not}
use mathlib.Core.List.{List}
use lib.ListN.{length, take}
use lib.Dec.{eqb}
use borrow.Author.Tests.{eq-eqb, ne_eqb}
use Rattle.lists.specs.Lists.{every}
use Rattle.lists.proofs.Cases.{and-true, and-false}
use Rattle.lists.proofs.Prefix.{prefix-shorter}
use Rattle.store.specs.declared.Table.{Table}
use Rattle.store.specs.Store.{table_held, table_named, name_of}
use Rattle.store.specs.Sound.{same_name}
use Rattle.store_soundness.proofs.Pairs.{every_true, every_same}

module _ (t : Table) where
  free-name : (u : Table) → (t.held ≡ 1 → ⊥) → same_name t u ≡ false
  unfolding same_name table_held
  free-name u f = and-false (eqb t.held 1) (table_named (name_of t) u) (ne_eqb t.held 1 f)

  held-name : (n : ℕ) → t.held ≡ 1 → length t.name ≡ 32 → n ≡ min t.name_len 32
      → (u : Table) → same_name t u ≡ table_named (take n t.name) u
  unfolding same_name table_held name_of
  held-name n h z e u =
      and-true (eqb t.held 1) (table_named (name_of t) u) (eq-eqb t.held 1 h)
      ∙ ap (λ (l : List ℕ). table_named l u) (sym (ap (λ (k : ℕ). take k t.name) e ∙ prefix-shorter t.name t.name_len 32 z))

  module _ (us : List Table) where
    pub free_apart : (t.held ≡ 1 → ⊥) → not (eqb t.held 1) ≡ every (λ (u : Table). not (same_name t u)) us
    free_apart f = ap not (ne_eqb t.held 1 f) ∙ sym (every_true (λ (u : Table). not (same_name t u)) us (λ u. ap not (free-name u f)))

    pub held_apart : (n : ℕ) (b : Bool) → t.held ≡ 1 → length t.name ≡ 32 → n ≡ min t.name_len 32
        → b ≡ every (λ (u : Table). not (table_named (take n t.name) u)) us → b ≡ every (λ (u : Table). not (same_name t u)) us
    held_apart n b h z e q =
        q ∙ sym (every_same (λ (u : Table). not (same_name t u)) (λ (u : Table). not (table_named (take n t.name) u)) us (λ u. ap not (held-name n h z e u)))
