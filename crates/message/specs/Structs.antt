-- What is looked for among the entries, and what was asked done.
use Rattle.store.specs.declared.Entry.{Entry}
use Rattle.store.specs.Store.{no_entry}
use Rattle.store.specs.declared.entries.Place.{Place}
use Rattle.session.specs.declared.Connection.{Connection}
use Rattle.message.specs.Effects.{Effect, Asks, does, commits, commit_entry}

-- the entry whose place is looked for; where none is committed, that of a free place
unfoldable pub sought : Asks → Entry
sought (does e) = no_entry
sought (commits id e) = e

-- what was asked is done, where a committed entry goes to the place
unfoldable pub finished : Connection → Place → Asks → Effect
finished c p (does e) = e
finished c p (commits id e) = commit_entry c id e p
