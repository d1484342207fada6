-- What a store holds, places apart: "the same tables, keys, values and remaining times, places apart".
use Rattle.std.specs.Prelude.{◌≡◌, ℕ, ◌<◌, true, cond, ◌&&◌, List, [], ◌∷◌, map, replicate, ℤ, pos, ◌==◌, slice_index_or, refl}
use Rattle.std.proofs.Math.Option.{Option, some, none}
use Rattle.lists.specs.Lists.{among}
use Rattle.store.specs.declared.Table.{Table}
use Rattle.store.specs.declared.Entry.{Entry}
use Rattle.store.specs.declared.Store.{Store}
use Rattle.store.specs.Limits.{table_places, entry_places, present, is_rate, integers_of, slots_for, slot_types, rate_types}
use Rattle.store.specs.Store.{table_held, entry_held, name_of, key_of, no_table, no_entry, with_entries}

-- ---- what a place says

-- the numbers whose data type is present, in wire order, where ts are the types of all of them
unfoldable pub present_of : ℕ → List ℕ → List ℕ → List ℕ
present_of types [] vs = []
present_of types (t ∷ ts) [] = []
present_of types (t ∷ ts) (v ∷ vs) = cond (present types t) (v ∷ present_of types ts vs) (present_of types ts vs)

-- expiry, and the period of each rate type present
pub record TimesContents : Type 0 where
  pub expiry : ℕ
  pub periods : List ℕ

pub record TableContents : Type 0 where
  pub name : List ℕ
  pub key_type : ℕ
  pub key_length : ℕ
  pub data_types : ℕ
  pub times : Option TimesContents

unfoldable pub table_contents : Table → TableContents
table_contents t = record {
  name = name_of t;
  key_type = t.key_type;
  key_length = t.key_len;
  data_types = t.data_types;
  times = cond (t.timed == 1) (some (record { expiry = t.expiry; periods = present_of t.data_types rate_types t.periods })) none;
}

-- its table by name, its key, its remaining time, the server ID and the integers of the data types that the table has
pub record EntryContents : Type 0 where
  pub table : List ℕ
  pub key : List ℕ
  pub remaining : Option ℕ
  pub server : Option ℤ
  pub values : List ℕ

unfoldable pub entry_contents : Table → Entry → EntryContents
entry_contents t e = record {
  table = name_of t;
  key = key_of e;
  remaining = cond (e.timed == 1) (some e.remaining) none;
  server = cond (present t.data_types 0) (some e.server_id) none;
  values = present_of t.data_types slot_types e.values;
}

-- ---- what a store holds

abbrev pub table_at : Store → ℕ → Table
table_at s place = slice_index_or s.tables place no_table

abbrev pub entry_at : Store → ℕ → Entry
entry_at s place = slice_index_or s.entries place no_entry

-- a table with these contents is held at some place
pub record HoldsTable (s : Store) (c : TableContents) : Type 0 where
  pub place : ℕ
  pub within : place < table_places
  pub held : table_held (table_at s place) ≡ true
  pub is : table_contents (table_at s place) ≡ c

-- an entry with these contents is held at some place
pub record HoldsEntry (s : Store) (c : EntryContents) : Type 0 where
  pub place : ℕ
  pub within : place < entry_places
  pub held : entry_held (entry_at s place) ≡ true
  pub is : entry_contents (table_at s (entry_at s place).table) (entry_at s place) ≡ c

-- what one of two stores holds the other holds too. In a sound store no two tables have one name and no two entries one table and key, so that
-- each is held once in both
pub record SameContents (s t : Store) : Type 0 where
  pub tables : (c : TableContents) → HoldsTable s c → HoldsTable t c
  pub tables-back : (c : TableContents) → HoldsTable t c → HoldsTable s c
  pub entries : (c : EntryContents) → HoldsEntry s c → HoldsEntry t c
  pub entries-back : (c : EntryContents) → HoldsEntry t c → HoldsEntry s c

-- ---- request 3: "an entry without remaining time takes its table's expiry there, if any"

-- the entry with its table's expiry for its remaining time, where it has none and the table has one
unfoldable pub with_expiry : Table → Entry → Entry
with_expiry t e =
    cond (e.timed == 0 && t.timed == 1)
    (record {
      held = e.held;
      server_id = e.server_id;
      timed = 1;
      remaining = t.expiry;
      table = e.table;
      key_len = e.key_len;
      key = e.key;
      values = e.values;
    })
    e

-- of every entry
unfoldable pub with_expiries : Store → Store
with_expiries s = with_entries s (map (λ (e : Entry). with_expiry (table_at s e.table) e) s.entries)

-- ---- worked examples

-- a table `t1` with data types 0, 2 and 3, of which 3 is a rate; with an expiry of 60000, or without, though numbers stand there
abbrev t1 : ℕ → Table
t1 timed = record {
  held = 1;
  key_type = 2;
  timed = timed;
  data_types = 13;
  name_len = 2;
  key_len = 4;
  expiry = 60000;
  periods = 1000 ∷ replicate 7 9;
  name = 0x74 ∷ 0x31 ∷ 0x7A ∷ [];
}

-- an entry of it with 10 milliseconds left, or without a time; numbers stand in slots of absent types too
abbrev e1 : ℕ → Entry
e1 timed = record {
  held = 1;
  server_id = pos 4;
  timed = timed;
  remaining = 10;
  table = 0;
  key_len = 4;
  key = 0 ∷ 0 ∷ 0 ∷ 42 ∷ 0 ∷ [];
  values = 8 ∷ 5 ∷ 11 ∷ 12 ∷ 13 ∷ replicate 29 7;
}

tables-say : map table_contents (t1 1 ∷ t1 0 ∷ [])
    ≡ record { name = 0x74 ∷ 0x31 ∷ []; key_type = 2; key_length = 4; data_types = 13; times = some (record { expiry = 60000; periods = 1000 ∷ [] }) }
    ∷ record { name = 0x74 ∷ 0x31 ∷ []; key_type = 2; key_length = 4; data_types = 13; times = none }
    ∷ []
unfolding table_contents name_of present_of present rate_types
tables-say = refl

entries-say : map (entry_contents (t1 1)) (e1 1 ∷ e1 0 ∷ [])
    ≡ record { table = 0x74 ∷ 0x31 ∷ []; key = 0 ∷ 0 ∷ 0 ∷ 42 ∷ []; remaining = some 10; server = some (pos 4); values = 5 ∷ 11 ∷ 12 ∷ 13 ∷ [] }
    ∷ record { table = 0x74 ∷ 0x31 ∷ []; key = 0 ∷ 0 ∷ 0 ∷ 42 ∷ []; remaining = none; server = some (pos 4); values = 5 ∷ 11 ∷ 12 ∷ 13 ∷ [] }
    ∷ []
unfolding entry_contents name_of key_of present_of present slot_types slots_for integers_of is_rate rate_types among
entries-say = refl

-- its own time is kept; without one it takes the expiry, if there is one
expiries : map (λ (e : Entry). e.remaining) (with_expiry (t1 1) (e1 1) ∷ with_expiry (t1 1) (e1 0) ∷ []) ≡ 10 ∷ 60000 ∷ []
unfolding with_expiry
expiries = refl

marks : map (λ (e : Entry). e.timed) (with_expiry (t1 0) (e1 1) ∷ with_expiry (t1 1) (e1 0) ∷ with_expiry (t1 0) (e1 0) ∷ []) ≡ 1 ∷ 1 ∷ 0 ∷ []
unfolding with_expiry
marks = refl
