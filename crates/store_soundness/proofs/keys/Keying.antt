-- The table and key of a held entry against those of others.
use Prim.Native.Nat.{ℕ, min}
use mathlib.Core.Path.{◌≡◌, sym, ap, ◌∙◌}
use mathlib.Core.Bool.{Bool, false, not}
use mathlib.Core.List.{List}
use lib.ListN.{length, take}
use lib.Dec.{eqb}
use borrow.Author.Tests.{eq-eqb, ne_eqb}
use Rattle.lists.specs.Lists.{every}
use Rattle.lists.proofs.Cases.{and-true, and-false}
use Rattle.lists.proofs.Prefix.{prefix-shorter}
use Rattle.store.specs.declared.Entry.{Entry}
use Rattle.store.specs.Store.{entry_held, entry_keyed, key_of}
use Rattle.store.specs.Sound.{same_key}
use Rattle.store_soundness.proofs.Pairs.{every_true, every_same}

module _ (e : Entry) where
  free-key : (f : Entry) → (e.held ≡ 1 → ⊥) → same_key e f ≡ false
  unfolding same_key entry_held
  free-key f h = and-false (eqb e.held 1) (entry_keyed e.table (key_of e) f) (ne_eqb e.held 1 h)

  held-key : (n : ℕ) → e.held ≡ 1 → length e.key ≡ 64 → n ≡ min e.key_len 64
      → (f : Entry) → same_key e f ≡ entry_keyed e.table (take n e.key) f
  unfolding same_key entry_held key_of
  held-key n h z q f =
      and-true (eqb e.held 1) (entry_keyed e.table (key_of e) f) (eq-eqb e.held 1 h)
      ∙ ap (λ (l : List ℕ). entry_keyed e.table l f) (sym (ap (λ (k : ℕ). take k e.key) q ∙ prefix-shorter e.key e.key_len 64 z))

  module _ (fs : List Entry) where
    pub free_apart : (e.held ≡ 1 → ⊥) → not (eqb e.held 1) ≡ every (λ (f : Entry). not (same_key e f)) fs
    free_apart h = ap not (ne_eqb e.held 1 h) ∙ sym (every_true (λ (f : Entry). not (same_key e f)) fs (λ f. ap not (free-key f h)))

    pub held_apart : (n : ℕ) (b : Bool) → e.held ≡ 1 → length e.key ≡ 64 → n ≡ min e.key_len 64
        → b ≡ every (λ (f : Entry). not (entry_keyed e.table (take n e.key) f)) fs → b ≡ every (λ (f : Entry). not (same_key e f)) fs
    held_apart n b h z q p =
        p ∙ sym (every_same (λ (f : Entry). not (same_key e f)) (λ (f : Entry). not (entry_keyed e.table (take n e.key) f)) fs (λ f. ap not (held-key n h z q f)))
