-- Soundness of a store: document 01's "Not sound means", as far as it concerns tables and entries, request 2's mark of a remaining time,
-- request 8's rule of names and request 9's counts. Each kind of fault is a test of its own; free places aren't looked at (but a free table
-- place has a count of 0), nor values that a table doesn't have.
use Rattle.std.specs.Prelude.{ℕ, ◌^◌, Bool, true, cond, not, ◌&&◌, ◌||◌, List, [], ◌∷◌, get_or, drop, ◌==◌, nat_le, nat_lt, slice_index_or}
use Rattle.lists.specs.Lists.{all_of, every, distinct, is_zero, eq_bytes}
use Rattle.store.specs.declared.Table.{Table}
use Rattle.store.specs.declared.Entry.{Entry}
use Rattle.store.specs.declared.Store.{Store}
use Rattle.store.specs.Limits.{name_max, plain_name, key_kind, is_known, is_string, key_length_ok, data_types_ok, present, is_wide, slot_types, table_places}
use Rattle.store.specs.Store.{table_held, entry_held, table_named, entry_keyed, name_of, key_of, counts_of, no_table}

-- ---- a table: "a count, length, place, field or value outside the limits here"

unfoldable pub name_length_ok : Table → Bool
name_length_ok t = nat_le 1 t.name_len && nat_le t.name_len name_max

-- request 8: "A new name or a held one may have only letters, digits, `.`, `_`, `-`, `/` and `:`"; bytes past the length aren't looked at
unfoldable pub name_plain : Table → Bool
name_plain t = plain_name (name_of t)

unfoldable pub key_type_ok : Table → Bool
key_type_ok t = is_known (key_kind t.key_type)

unfoldable pub table_key_length_ok : Table → Bool
table_key_length_ok t = key_length_ok t.key_type t.key_len

unfoldable pub table_types_ok : Table → Bool
table_types_ok t = data_types_ok t.data_types

unfoldable pub timed_ok : Table → Bool
timed_ok t = nat_le t.timed 1

abbrev pub table_tests : Table → List Bool
table_tests t = name_length_ok t ∷ name_plain t ∷ key_type_ok t ∷ table_key_length_ok t ∷ table_types_ok t ∷ timed_ok t ∷ []

-- a flag is 0 or 1; "Free places aren't looked at"
unfoldable pub sound_table : Table → Bool
sound_table t = nat_le t.held 1 && (not (table_held t) || all_of (table_tests t))

-- "two tables with one name"
unfoldable pub same_name : Table → Table → Bool
same_name t u = table_held t && table_named (name_of t) u

-- ---- an entry

-- "an entry .. whose table isn't held", or a place past the last
unfoldable pub entry_table_ok : List Table → Entry → Bool
entry_table_ok tables e = nat_lt e.table table_places && table_held (slice_index_or tables e.table no_table)

-- request 2: an entry has a remaining time or none, a mark of 1 or 0; where there is none, the number isn't looked at
unfoldable pub entry_timed_ok : Entry → Bool
entry_timed_ok e = nat_le e.timed 1

-- "Key: string: encoded length (0 up to the key length), bytes; else exactly key-length bytes"
unfoldable pub entry_key_length_ok : Table → Entry → Bool
entry_key_length_ok t e = cond (is_string (key_kind t.key_type)) (nat_le e.key_len t.key_len) (e.key_len == t.key_len)

-- "nonzero key bytes past the length"
unfoldable pub key_rest_zero : Entry → Bool
key_rest_zero e = every is_zero (drop e.key_len e.key)

-- "Types 13 and 15 .. take 64 bits, all others 32": a value of data type t, if the table has that type
unfoldable pub slot_ok : ℕ → ℕ → ℕ → Bool
slot_ok types t v = not (present types t) || (is_wide t || nat_lt v (2 ^ 32))

-- of each slot, where ts are the slots' data types
unfoldable pub slots_ok : ℕ → List ℕ → List ℕ → Bool
slots_ok types [] vs = true
slots_ok types (t ∷ ts) [] = true
slots_ok types (t ∷ ts) (v ∷ vs) = slot_ok types t v && slots_ok types ts vs

unfoldable pub values_ok : Table → Entry → Bool
values_ok t e = slots_ok t.data_types slot_types e.values

abbrev pub entry_tests : List Table → Entry → List Bool
entry_tests tables e =
    let t = get_or tables e.table no_table in
    entry_table_ok tables e ∷ entry_timed_ok e ∷ entry_key_length_ok t e ∷ key_rest_zero e ∷ values_ok t e ∷ []

unfoldable pub sound_entry : List Table → Entry → Bool
sound_entry tables e = nat_le e.held 1 && (not (entry_held e) || all_of (entry_tests tables e))

-- "two entries with one table and key"
unfoldable pub same_key : Entry → Entry → Bool
same_key e f = entry_held e && entry_keyed e.table (key_of e) f

-- ---- a store

-- request 9: "In a sound store it equals the number found by walking it, 0 at a free place, which is looked at for this"
unfoldable pub counts_right : Store → Bool
counts_right s = eq_bytes s.counts (counts_of s.entries)

abbrev pub store_tests : Store → List Bool
store_tests s =
    every sound_table s.tables
    ∷ distinct same_name s.tables
    ∷ every (sound_entry s.tables) s.entries
    ∷ distinct same_key s.entries
    ∷ counts_right s
    ∷ []

unfoldable pub sound_store : Store → Bool
sound_store s = all_of (store_tests s)
