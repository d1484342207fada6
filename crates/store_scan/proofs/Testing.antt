-- A store's test in two parts: the tables, then the entries with their counts.
use Rattle.std.specs.Prelude.{Option, is_some}
use mathlib.Core.Path.{◌≡◌, refl, sym, ◌∙◌}
use mathlib.Core.Bool.{Bool, true, false, ◌&&◌}
use Rattle.lists.specs.Lists.{all_of, every, distinct}
use Rattle.lists.proofs.Cases.{and-true, and-false}
use Rattle.store.specs.declared.Entry.{Entry}
use Rattle.store.specs.declared.Store.{Store}
use Rattle.store.specs.declared.entries.Place.{Place}
use Rattle.store.specs.Sound.{sound_table, sound_entry, same_name, same_key, counts_right, sound_store}
use Rattle.store_scan.specs.Scan.{Scans}

parted : (a b c d f : Bool) → (a && (b && (c && (d && (f && true))))) ≡ ((a && b) && (c && (d && f)))
parted false b c d f = refl
parted true false c d f = refl
parted true true false d f = refl
parted true true true false f = refl
parted true true true true false = refl
parted true true true true true = refl

module _ (s : Store) where
  abbrev pub tables_sound : Bool
  tables_sound = every sound_table s.tables && distinct same_name s.tables

  abbrev entries_sound : Bool
  entries_sound = every (sound_entry s.tables) s.entries && (distinct same_key s.entries && counts_right s)

  in_parts : (tables_sound && entries_sound) ≡ sound_store s
  unfolding sound_store all_of
  in_parts = sym (parted (every sound_table s.tables) (distinct same_name s.tables) (every (sound_entry s.tables) s.entries) (distinct same_key s.entries) (counts_right s))

  pub tables-fail : (t : Bool) → t ≡ tables_sound → t ≡ false → false ≡ sound_store s
  tables-fail t p f = sym (and-false tables_sound entries_sound (sym p ∙ f)) ∙ in_parts

  -- the tables are sound, and all entries and the counts were tested
  pub entries-tell : (t : Bool) → t ≡ tables_sound → t ≡ true → (e : Entry) (r : (Option Place)) → Scans (record { tables = s.tables; entry = e }) s r → is_some r ≡ sound_store s
  entries-tell t p f e r q = q.sound ∙ sym (and-true tables_sound entries_sound (sym p ∙ f)) ∙ in_parts
