-- The end of a sending call, whose code has tables and one entry in place of a store.
use Rattle.std.specs.Prelude.{◌≡◌, ℕ, Bool, cond, List, [], ◌∷◌, length, ◌==◌, Result, Ok, Err}
use Rattle.store.specs.declared.Table.{Table}
use Rattle.store.specs.declared.Entry.{Entry}
use Rattle.store.specs.declared.Store.{Store}
use Rattle.session.specs.declared.Sending.{Sending}
use Rattle.session.specs.declared.Session.{Session}
use Rattle.sending.specs.declared.Ask.{Ask}
use Rattle.sending.specs.declared.Ask.TheVariants as ask
use Rattle.sending.specs.Sending.{Message, Asked, definition, entry, send_number, room_after}

-- what the host asks for, as the code has it
unfoldable pub asked_by : Ask → Asked
asked_by (ask.Definition place id) = definition place id
asked_by (ask.Entry place id) = entry place id

-- the place that is asked for
unfoldable pub place_of : Ask → ℕ
place_of (ask.Definition place id) = place
place_of (ask.Entry place id) = place

-- a store of these tables and one entry, at place 0
abbrev pub one_entry : List Table → Entry → Store
one_entry tables e = record { tables = tables; counts = []; entries = e ∷ [] }

-- the same asked of such a store, which has the entry at the place
unfoldable pub asked_of_one : Ask → Asked
asked_of_one (ask.Definition place id) = definition place id
asked_of_one (ask.Entry place id) = entry 0 id

-- the message's length and the sending state afterwards, or the refusal's number
unfoldable pub finished_as : ℕ → Message → Result (ℕ × Sending) ℕ
finished_as number m = cond (number == 0) (Ok (length m.bytes, m.sending)) (Err number)

-- the end of a call on a room that was as `room` and is as `final`, where m is the message that is sent if there is no refusal
pub record Finishes (allowed : Bool) (s : Session) (there : Bool) (m : Message) (room : List ℕ) (r : Result (ℕ × Sending) ℕ) (final : List ℕ) : Type 0 where
  pub finished : r ≡ finished_as (send_number allowed s (length room) there) m
  pub content : final ≡ room_after (send_number allowed s (length room) there) m room
