-- The shape of Rattle's values: how many elements each array has, and how large each number can be.
use Rattle.std.specs.Prelude.{◌≡◌, ℕ, ◌^◌, ◌<◌, List, length, slice_index, slice_index_or}
use Rattle.std.specs.Int.Signed.{mag}
use Rattle.store.specs.declared.Table.{Table}
use Rattle.store.specs.declared.Entry.{Entry}
use Rattle.store.specs.declared.Store.{Store}
use Rattle.store.specs.Limits.{name_max, key_max, table_places, entry_places, rate_count, value_count}
use Rattle.store.specs.Store.{no_table, no_entry}

-- n numbers of so many bits
pub record Cells (n bits : ℕ) (xs : List ℕ) : Type 0 where
  pub size : length xs ≡ n
  pub small : (i : ℕ) → slice_index xs i < 2 ^ bits

pub record TableShape (t : Table) : Type 0 where
  pub held : t.held < 2 ^ 32
  pub key_type : t.key_type < 2 ^ 32
  pub timed : t.timed < 2 ^ 32
  pub data_types : t.data_types < 2 ^ 32
  pub name_length : t.name_len < 2 ^ 64
  pub key_length : t.key_len < 2 ^ 32
  pub expiry : t.expiry < 2 ^ 32
  pub periods : Cells rate_count 32 t.periods
  pub name : Cells name_max 8 t.name

pub record EntryShape (e : Entry) : Type 0 where
  pub held : e.held < 2 ^ 32
  pub server : mag e.server_id < 2 ^ 31
  pub timed : e.timed < 2 ^ 32
  pub remaining : e.remaining < 2 ^ 32
  pub table : e.table < 2 ^ 64
  pub key_length : e.key_len < 2 ^ 64
  pub key : Cells key_max 8 e.key
  pub values : Cells value_count 64 e.values

pub record StoreShape (s : Store) : Type 0 where
  pub tables : length s.tables ≡ table_places
  pub counts : Cells table_places 32 s.counts
  pub entries : length s.entries ≡ entry_places
  pub table : (i : ℕ) → i < table_places → TableShape (slice_index_or s.tables i no_table)
  pub entry : (i : ℕ) → i < entry_places → EntryShape (slice_index_or s.entries i no_entry)
