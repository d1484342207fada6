-- The tests of an entry's soundness, in the cases of the code.
use Prim.Native.Nat.{ℕ, ◌+◌, ◌^◌, ◌≤◌, ◌<◌}
use native.Mathlib.Omega.{arith}
use mathlib.Core.Path.{◌≡◌, refl, sym, ap, ◌∙◌}
use mathlib.Core.Bool.{Bool, true, false, not, ◌&&◌, ◌||◌}
use mathlib.Core.List.{List, [], ◌∷◌}
use lib.ListN.{length, get_or, drop, drop_of_length-le}
use lib.Dec.{ltb, leb, eqb}
use borrow.Author.Rules.{rules}
use borrow.Author.Tests.{eq-eqb, ne_eqb, le-leb, lt-leb, lt-ltb, le-ltb, not-true, not-false}
use Rattle.lists.specs.Lists.{all_of}
use Rattle.lists.proofs.Cases.{and-true, and-false, or-second, unless-true, unless-false, all-false}
use Rattle.lists.proofs.Every.{get_d_any, drop-step}
use Rattle.store.specs.declared.Table.{Table}
use Rattle.store.specs.declared.Entry.{Entry}
use Rattle.store.specs.Limits.{present, is_wide, slot_types}
use Rattle.store.specs.Store.{table_held, entry_held, no_table}
use Rattle.store.specs.Sound.{entry_table_ok, entry_timed_ok, entry_key_length_ok, key_rest_zero, slot_ok, slots_ok, values_ok, entry_tests, sound_entry}
use Rattle.store.proofs.Rules.{slot-count}
use Rattle.store.proofs.Lookup.{blank_table}

-- ---- an entry's values

module _ (types t v : ℕ) where
  pub narrow-value : v < 2 ^ 32 → slot_ok types t v ≡ true
  unfolding slot_ok
  narrow-value l =
      let n = lt-ltb v (2 ^ 32) l in
      let w = or-second (is_wide t) (ltb v (2 ^ 32)) n ∙ n in
      or-second (not (present types t)) (is_wide t || ltb v (2 ^ 32)) w ∙ w

pub record Slots (types : ℕ) (vs : List ℕ) (i : ℕ) : Type 0 where
  pub size : length vs ≡ 34
  pub within : i ≤ 34
  pub rest : slots_ok types slot_types vs ≡ slots_ok types (drop i slot_types) (drop i vs)

pub slots-start : {types : ℕ} {vs : List ℕ} → length vs ≡ 34 → Slots types vs 0
slots-start e = record { size = e; within = omega arith; rest = refl }

module _ {types : ℕ} {vs : List ℕ} {i : ℕ} (r : Slots types vs i) where
  module _ {t : ℕ} {b : Bool} (l : i < 34) (q : t ≡ get_or slot_types i 0) (e : b ≡ slot_ok types t (get_or vs i 0)) where
    slots-step : slots_ok types slot_types vs ≡ (b && slots_ok types (drop (i + 1) slot_types) (drop (i + 1) vs))
    unfolding slots_ok
    slots-step =
        r.rest
        ∙ rw (drop-step slot_types i 0 (omega (arith, slot-count)), drop-step vs i 0 (omega (arith, r.size)))
        (ap (λ (x : Bool). x && slots_ok types (drop (i + 1) slot_types) (drop (i + 1) vs)) (ap (λ (n : ℕ). slot_ok types n (get_or vs i 0)) (sym q) ∙ sym e))

    pub slots-stop : not b ≡ true → false ≡ slots_ok types slot_types vs
    slots-stop h = sym (slots-step ∙ and-false b (slots_ok types (drop (i + 1) slot_types) (drop (i + 1) vs)) (not-true b h))

    pub slots_next : not b ≡ false → Slots types vs (i + 1)
    slots_next h =
        record {
          size = r.size;
          within = omega arith;
          rest = slots-step ∙ and-true b (slots_ok types (drop (i + 1) slot_types) (drop (i + 1) vs)) (not-false b h);
        }

  pub slots_end : 34 ≤ i → true ≡ slots_ok types slot_types vs
  unfolding slots_ok
  slots_end l = sym (r.rest ∙ rw (drop_of_length-le slot_types {i = i} (omega (arith, slot-count))))

pub ruleset slots = (rules, slots-start, slots-stop, slots_next, slots_end)

-- ---- an entry of a store

module _ (tables : List Table) (e : Entry) where
  pub free-entry-sound : e.held ≡ 0 → sound_entry tables e ≡ true
  unfolding sound_entry entry_held
  free-entry-sound h =
      and-true (leb e.held 1) (not (eqb e.held 1) || all_of (entry_tests tables e)) (le-leb e.held 1 (omega arith))
      ∙ unless-false (eqb e.held 1) (all_of (entry_tests tables e)) (ne_eqb e.held 1 (λ z. omega arith))

  pub entry-flag-unsound : (e.held ≡ 0 → ⊥) → (e.held ≡ 1 → ⊥) → sound_entry tables e ≡ false
  unfolding sound_entry
  entry-flag-unsound f g = and-false (leb e.held 1) (not (entry_held e) || all_of (entry_tests tables e)) (lt-leb e.held 1 (omega arith))

  module _ (h : e.held ≡ 1) where
    held_rows : sound_entry tables e ≡ all_of (entry_tests tables e)
    unfolding sound_entry entry_held
    held_rows =
        and-true (leb e.held 1) (not (eqb e.held 1) || all_of (entry_tests tables e)) (le-leb e.held 1 (omega arith))
        ∙ unless-true (eqb e.held 1) (all_of (entry_tests tables e)) (eq-eqb e.held 1 h)

    pub place-unsound : 8 ≤ e.table → sound_entry tables e ≡ false
    unfolding entry_table_ok
    place-unsound l =
        let t = get_or tables e.table no_table in
        held_rows
        ∙ all-false (ltb e.table 8 && table_held t) (entry_timed_ok e ∷ entry_key_length_ok t e ∷ key_rest_zero e ∷ values_ok t e ∷ [])
        (and-false (ltb e.table 8) (table_held t) (le-ltb e.table 8 l))

    pub rows-sound : (t : Table) (b : Bool) → e.table < 8 → length tables ≡ 8 → t ≡ get_or tables e.table blank_table
        → b ≡ (table_held t && all_of (entry_timed_ok e ∷ entry_key_length_ok t e ∷ key_rest_zero e ∷ values_ok t e ∷ [])) → sound_entry tables e ≡ b
    unfolding entry_table_ok all_of
    rows-sound t b l n q p =
        let u = get_or tables e.table no_table in
        held_rows
        ∙ ap (λ (x : Bool). x && all_of (entry_timed_ok e ∷ entry_key_length_ok u e ∷ key_rest_zero e ∷ values_ok u e ∷ [])) (and-true (ltb e.table 8) (table_held u) (lt-ltb e.table 8 l))
        ∙ ap (λ (x : Table). table_held x && all_of (entry_timed_ok e ∷ entry_key_length_ok x e ∷ key_rest_zero e ∷ values_ok x e ∷ []))
        (get_d_any tables e.table no_table blank_table (omega arith) ∙ sym q)
        ∙ sym p

  -- in the form of the code
  pub sound_free : e.held ≡ 0 → true ≡ sound_entry tables e
  sound_free h = sym (free-entry-sound h)

  pub sound_flag : (e.held ≡ 0 → ⊥) → (e.held ≡ 1 → ⊥) → false ≡ sound_entry tables e
  sound_flag f g = sym (entry-flag-unsound f g)

  pub sound_place : e.held ≡ 1 → 8 ≤ e.table → ltb e.table 8 ≡ sound_entry tables e
  sound_place h l = le-ltb e.table 8 l ∙ sym (place-unsound h l)

  pub sound_rows : (b : Bool) → e.held ≡ 1 → e.table < 8 → length tables ≡ 8
      → b ≡ (table_held (get_or tables e.table blank_table) && all_of (entry_timed_ok e ∷ entry_key_length_ok (get_or tables e.table blank_table) e ∷ key_rest_zero e ∷ values_ok (get_or tables e.table blank_table) e ∷ []))
      → b ≡ sound_entry tables e
  sound_rows b h l n p = sym (rows-sound h (get_or tables e.table blank_table) b l n refl p)

pub ruleset sounds = (rules, sound_free, sound_flag, sound_place, sound_rows)
