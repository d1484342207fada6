-- Tables, counts and entries: what is held, lookup, the lowest free place, how many entries each table has, and what putting one makes.
use Rattle.std.specs.Prelude.{ℕ, ◌+◌, ◌%◌, ◌^◌, Bool, cond, ◌&&◌, List, [], ◌∷◌, map, length, take, replicate, ℤ, pos, ◌==◌, slice_index, slice_set, Option}
use Rattle.lists.specs.Lists.{first_place, up_to, eq_bytes, pad_to}
use Rattle.store.specs.declared.Table.{Table}
use Rattle.store.specs.declared.Entry.{Entry}
use Rattle.store.specs.declared.Store.{Store}
use Rattle.store.specs.declared.Definition.{Definition}
use Rattle.store.specs.Limits.{name_max, key_max, table_places, entry_places, rate_count, value_count}

-- ---- what a place holds

unfoldable pub table_held : Table → Bool
table_held t = t.held == 1

unfoldable pub entry_held : Entry → Bool
entry_held e = e.held == 1

unfoldable pub table_free : Table → Bool
table_free t = t.held == 0

unfoldable pub entry_free : Entry → Bool
entry_free e = e.held == 0

-- a table's name and an entry's key: the first bytes of their arrays
unfoldable pub name_of : Table → List ℕ
name_of t = take t.name_len t.name

unfoldable pub key_of : Entry → List ℕ
key_of e = take e.key_len e.key

-- ---- lookup

-- a held table of this name: names are compared by length and bytes
unfoldable pub table_named : List ℕ → Table → Bool
table_named name t = table_held t && (t.name_len == length name && eq_bytes (name_of t) name)

-- a held entry of the table at this place, with a key of n bytes
unfoldable pub entry_of : ℕ → ℕ → Entry → Bool
entry_of table n e = entry_held e && (e.table == table && e.key_len == n)

-- and with this key
unfoldable pub entry_keyed : ℕ → List ℕ → Entry → Bool
entry_keyed table key e = entry_of table (length key) e && eq_bytes (key_of e) key

-- the first held table of this name
unfoldable pub find_table : Store → List ℕ → Option ℕ
find_table s name = first_place (table_named name) s.tables

-- "Lookup goes over the held entries and over key bytes, and leaves both at the first equal key"
unfoldable pub find_entry : Store → ℕ → List ℕ → Option ℕ
find_entry s table key = first_place (entry_keyed table key) s.entries

-- "A name not held takes the lowest free of 8 table places"; "Otherwise the entry takes the lowest free place"
unfoldable pub free_table : Store → Option ℕ
free_table s = first_place table_free s.tables

unfoldable pub free_entry : Store → Option ℕ
free_entry s = first_place entry_free s.entries

-- ---- request 9: the number of entries of each table

-- a held entry of the table at this place
unfoldable pub owned_by : ℕ → Entry → Bool
owned_by table e = entry_held e && e.table == table

-- how many there are
unfoldable pub count_of : ℕ → List Entry → ℕ
count_of table [] = 0
count_of table (e ∷ es) = cond (owned_by table e) 1 0 + count_of table es

-- "Keep beside each table the number of its entries": of each table place, of a free one too
unfoldable pub counts_of : List Entry → List ℕ
counts_of entries = map (λ table. count_of table entries) (up_to table_places)

-- "kept right by every call on a sound store": the store with these entries, and with the counts that they have
unfoldable pub with_entries : Store → List Entry → Store
with_entries s entries = record { tables = s.tables; counts = counts_of entries; entries = entries }

-- ---- counts, one entry after another

-- counts with one more at a table's place, as 32 bits hold it; past the last place there is none
unfoldable pub raised : ℕ → List ℕ → List ℕ
raised table counts = slice_set counts table ((slice_index counts table + 1) % 2 ^ 32)

-- with one more entry, which may be held
unfoldable pub counted : ℕ → ℕ → List ℕ → List ℕ
counted held table counts = cond (held == 1) (raised table counts) counts

-- ---- putting a table or an entry at a place

-- request 2: an entry has a remaining time in milliseconds, marked by 1, or none, marked by 0; where there is none, 0 is written
unfoldable pub time_left : ℕ → ℕ → ℕ
time_left timed remaining = cond (timed == 0) 0 remaining

-- "Key bytes past the length are zero"
unfoldable pub make_entry : ℕ → List ℕ → ℤ → ℕ → ℕ → List ℕ → Entry
make_entry table key server timed remaining values = record {
  held = 1;
  server_id = server;
  timed = timed;
  remaining = time_left timed remaining;
  table = table;
  key_len = length key;
  key = pad_to key_max key;
  values = values;
}

-- a held table of this name, with what its definition says
unfoldable pub make_table : List ℕ → Definition → Table
make_table name d = record {
  held = 1;
  key_type = d.key_type;
  timed = d.timed;
  data_types = d.data_types;
  name_len = length name;
  key_len = d.key_len;
  expiry = d.expiry;
  periods = d.periods;
  name = pad_to name_max name;
}

unfoldable pub put_table : Store → ℕ → Table → Store
put_table s place t = record { tables = slice_set s.tables place t; counts = s.counts; entries = s.entries }

unfoldable pub put_entry : Store → ℕ → Entry → Store
put_entry s place e = with_entries s (slice_set s.entries place e)

-- ---- the empty store, and what its places hold

unfoldable pub no_table : Table
no_table = record {
  held = 0;
  key_type = 0;
  timed = 0;
  data_types = 0;
  name_len = 0;
  key_len = 0;
  expiry = 0;
  periods = replicate rate_count 0;
  name = replicate name_max 0;
}

unfoldable pub no_entry : Entry
no_entry = record {
  held = 0;
  server_id = pos 0;
  timed = 0;
  remaining = 0;
  table = 0;
  key_len = 0;
  key = replicate key_max 0;
  values = replicate value_count 0;
}

unfoldable pub empty_store : Store
empty_store = record { tables = replicate table_places no_table; counts = replicate table_places 0; entries = replicate entry_places no_entry }
