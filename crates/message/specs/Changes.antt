-- What a message puts into the store.
use Rattle.std.specs.Prelude.{ℕ}
use Rattle.store.specs.declared.Table.{Table}
use Rattle.store.specs.declared.Entry.{Entry}
use Rattle.store.specs.declared.Store.{Store}
use Rattle.store.specs.Store.{put_table, put_entry}
use Rattle.message.specs.declared.Change.{Change}
use Rattle.message.specs.declared.Change.TheVariants as change

-- the store stays as it is
unfoldable pub no_change : Change
no_change = change.Nothing

-- the table goes to the place
unfoldable pub table_change : ℕ → Table → Change
table_change place t = change.Table place t

-- the entry goes to the place
unfoldable pub entry_change : ℕ → Entry → Change
entry_change place e = change.Entry place e

-- the store with the change made
unfoldable pub changed : Store → Change → Store
changed s change.Nothing = s
changed s (change.Table place t) = put_table s place t
changed s (change.Entry place e) = put_entry s place e
