-- Values below 2^32 fit every data type's width.
use Prim.Native.Nat.{ℕ, ◌^◌}
use mathlib.Core.Path.{◌≡◌, refl, sym, ◌∙◌}
use mathlib.Core.Bool.{Bool, true}
use mathlib.Core.List.{List, [], ◌∷◌}
use borrow.Author.Rules.{rules}
use borrow.Author.Tests.{ltb-true}
use Rattle.lists.specs.Lists.{every}
use Rattle.lists.proofs.Cases.{and_first, and_second, and_intro}
use Rattle.lists.proofs.Every.{every-cons}
use Rattle.store.specs.declared.Table.{Table}
use Rattle.store.specs.declared.Entry.{Entry}
use Rattle.store.specs.Limits.{slot_types}
use Rattle.store.specs.Sound.{slot_ok, slots_ok}
use Rattle.store_soundness.proofs.entry.EntryTests.{narrow-value}
use Rattle.store_soundness.specs.Narrow.{is_narrow}

narrow-slots : (types : ℕ) (ts vs : List ℕ) → every is_narrow vs ≡ true → slots_ok types ts vs ≡ true
unfolding slots_ok
narrow-slots types [] vs h = refl
narrow-slots types (t ∷ ts) [] h = refl
narrow-slots types (t ∷ ts) (v ∷ vs) h =
    let e = sym (every-cons is_narrow v vs) ∙ h in
    and_intro (slot_ok types t v) (slots_ok types ts vs)
    (narrow-value types t v (ltb-true v (2 ^ 32) (and_first (is_narrow v) (every is_narrow vs) e)))
    (narrow-slots types ts vs (and_second (is_narrow v) (every is_narrow vs) e))

pub narrow_values : (t : Table) (e : Entry) (b : Bool) → b ≡ every is_narrow e.values → b ≡ true → b ≡ slots_ok t.data_types slot_types e.values
narrow_values t e b q h = h ∙ sym (narrow-slots t.data_types slot_types e.values (sym q ∙ h))

pub ruleset values = (rules, narrow_values)
