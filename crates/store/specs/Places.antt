-- Where an entry goes.
use Rattle.std.specs.Prelude.{None, Option, Some, ℕ}
use Rattle.store.specs.declared.entries.Place.{Place}
use Rattle.store.specs.declared.entries.Place.TheVariants as place

-- where its key isn't held
unfoldable pub free_of : Option ℕ → Place
free_of (Some k) = place.Free k
free_of None = place.Full

-- from the place of the entry held with its key, and the lowest free place
unfoldable pub place_of : Option ℕ → Option ℕ → Place
place_of (Some i) free = place.Held i
place_of None free = free_of free
