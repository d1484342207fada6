-- Where the entry of an update goes.
use Rattle.std.specs.Prelude.{Bool, ◌&&◌, List, nat_le}
use Rattle.lists.specs.Lists.{first_place}
use Rattle.store.specs.declared.Entry.{Entry}
use Rattle.store.specs.Limits.{key_max}
use Rattle.store.specs.Store.{entry_keyed, entry_free, key_of}
use Rattle.store.specs.declared.entries.Place.{Place}
use Rattle.store.specs.Places.{place_of}

-- e is held with the table and the key of `entry`; none is where the length of that key is past the longest
unfoldable pub keyed_as : Entry → Entry → Bool
keyed_as entry e = nat_le entry.key_len key_max && entry_keyed entry.table (key_of entry) e

-- where an entry goes among the entries
unfoldable pub goes_to : List Entry → Entry → Place
goes_to entries entry = place_of (first_place (keyed_as entry) entries) (first_place entry_free entries)
