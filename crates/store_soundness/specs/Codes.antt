-- A number for each entry of a store, by which its entries are tested and looked up. No rule of document 01 speaks of it.
use Rattle.std.specs.Prelude.{ℕ, ◌^◌, List, map, Bool, cond, replicate, eqb, ltb}
use Rattle.lists.specs.Lists.{eq_bytes}
use Rattle.store.specs.declared.Table.{Table}
use Rattle.store.specs.declared.Entry.{Entry}
use Rattle.store.specs.declared.Store.{Store}
use Rattle.store.specs.Limits.{entry_places}
use Rattle.store.specs.Store.{counts_of}
use Rattle.store.specs.Sound.{sound_entry}
use Rattle.store_soundness.specs.Hashes.{entry_hash}

-- the code of an entry that isn't sound; every hash is less
abbrev pub unsound_code : ℕ
unsound_code = 2 ^ 31

-- the hash of an entry that is sound with these tables, else the code of one that isn't
unfoldable pub entry_code : List Table → Entry → ℕ
entry_code tables e = cond (sound_entry tables e) (entry_hash e) unsound_code

-- these codes, where a store's counts are those that were found; else no code is of a sound entry
unfoldable pub counted_codes : List ℕ → List ℕ → List ℕ → List ℕ
counted_codes codes found counts = cond (eq_bytes counts found) codes (replicate entry_places unsound_code)

-- the codes of a store's entries
unfoldable pub store_codes : List Table → Store → List ℕ
store_codes tables s = counted_codes (map (entry_code tables) s.entries) (counts_of s.entries) s.counts

-- the code of a sound entry
abbrev pub sound_code : ℕ → Bool
sound_code c = ltb c unsound_code

-- c is this code
abbrev pub is_code : ℕ → ℕ → Bool
is_code code c = eqb c code
