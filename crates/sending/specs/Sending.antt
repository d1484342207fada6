-- Request 3, "The sending half": what one sending call writes, and what it leaves.
use Rattle.std.specs.Prelude.{◌≡◌, ℕ, ◌+◌, ◌^◌, ◌<◌, Bool, cond, not, ◌&&◌, List, length, ◌==◌, nat_lt, Result, Ok, Err}
use Rattle.lists.specs.Lists.{front}
use Rattle.frame.specs.Frame.{update_type, incremental_type, definition_type, timed_type, timed_incremental_type}
use Rattle.store.specs.declared.Entry.{Entry}
use Rattle.store.specs.declared.Store.{Store}
use Rattle.store.specs.Store.{table_held, entry_held}
use Rattle.store.specs.Contents.{table_at, entry_at}
use Rattle.store.specs.Shape.{StoreShape}
use Rattle.session.specs.declared.Sending.{Sending}
use Rattle.session.specs.declared.Session.{Session}
use Rattle.session.specs.Session.{is_closed, established, with_sending}
use Rattle.session.specs.Shape.{SessionShape}
use Rattle.session_soundness.specs.Sound.{sound}
use Rattle.body.specs.declared.update.Form.{Form}
use Rattle.body.specs.Encodings.{message_bytes, definition_bytes, update_bytes}
use Rattle.message.specs.Effects.{following_id}

-- ---- refusals

-- "31 room under 1,036 bytes"
abbrev pub send_room : ℕ
send_room = 1036

-- "Refusals: 31 room under 1,036 bytes, 34 handshake unfinished, 32 table place not held, or entry place not of the table defined last, in that
-- order after 4 and 2": the number, or 0 where the message is sent. `there` says that the place is such a one
unfoldable pub send_number : Bool → Session → ℕ → Bool → ℕ
send_number allowed s room there =
    cond allowed
    (cond (is_closed s.connection) 2
    (cond (nat_lt room send_room) 31
    (cond (s.connection.phase == established)
    (cond there 0 32)
    34)))
    4

-- the refusal with this number, where 0 is none
unfoldable pub refused_as : ℕ → Result Unit ℕ
refused_as number = cond (number == 0) (Ok tt) (Err number)

-- ---- messages

-- a message, and the sending state when it is sent
pub record Message : Type 0 where
  pub bytes : List ℕ
  pub sending : Sending

-- "write the definition of a table": "The host gives the table's ID". A table without expiry is written without expiry and pairs. No entry
-- is sent since
unfoldable pub definition_message : Store → ℕ → ℕ → Message
definition_message t place id = record {
  bytes = message_bytes definition_type (definition_bytes id (table_at t place));
  sending = record { defined = place + 1; sent = 0; last = 0 };
}

-- "if its ID follows the last by one (0 after 4294967295)": an entry was sent since the definition
unfoldable pub follows : Sending → ℕ → Bool
follows x id = x.sent == 1 && id == following_id x.last

-- "After a definition the first goes explicitly, each later one as incremental if its ID follows the last by one .., else explicitly; timed forms
-- are for entries with remaining time."
unfoldable pub form_for : Sending → Entry → ℕ → Form
form_for x e id = record { explicit = not (follows x id); timed = (e.timed == 1) }

-- the type of an update of this form
unfoldable pub type_of : Form → ℕ
type_of form = cond form.timed (cond form.explicit timed_type timed_incremental_type) (cond form.explicit update_type incremental_type)

-- ".. and then its entries": "The host gives .. an update ID per entry"
unfoldable pub entry_message : Store → Sending → ℕ → ℕ → Message
entry_message t x place id =
    let e = entry_at t place in
    let form = form_for x e id in
    record {
      bytes = message_bytes (type_of form) (update_bytes form (table_at t e.table) id e);
      sending = record { defined = x.defined; sent = 1; last = id };
    }

-- "entry place not of the table defined last": the place is held, by the table at that place
unfoldable pub is_of : Sending → Entry → Bool
is_of x e = entry_held e && e.table + 1 == x.defined

-- ---- a call

-- what the host asks for: the definition of the table at a place, with this ID, or the entry at a place, with this update ID
pub data Asked : Type 0 where
  definition : (place id : ℕ) → Asked
  entry : (place id : ℕ) → Asked

-- the place is one that the call may send
unfoldable pub can_send : Store → Sending → Asked → Bool
can_send t x (definition place id) = table_held (table_at t place)
can_send t x (entry place id) = is_of x (entry_at t place)

unfoldable pub message_for : Store → Sending → Asked → Message
message_for t x (definition place id) = definition_message t place id
message_for t x (entry place id) = entry_message t x place id

-- a call's number, by record, store and room
unfoldable pub number_for : Session → Store → ℕ → Asked → ℕ
number_for s t room asked = send_number (sound s t) s room (can_send t s.sending asked)

-- the length of the message, or the refusal
unfoldable pub sent_as : ℕ → Message → Result ℕ ℕ
sent_as number m = cond (number == 0) (Ok (length m.bytes)) (Err number)

-- "A sending call leaves the store, and all of the record that reading uses, as it was"; a refused one changes nothing
unfoldable pub session_after : ℕ → Session → Message → Session
session_after number s m = cond (number == 0) (with_sending s m.sending) s

-- the message at the front, and the room past it as it came; "nothing written" by a refused call
unfoldable pub room_after : ℕ → Message → List ℕ → List ℕ
room_after number m room = cond (number == 0) (front m.bytes room) room

-- one call: what was asked, its room, what it returned, and record and room afterwards. The store is lent to be read alone
pub record SendMade : Type 0 where
  pub asked : Asked
  pub room : List ℕ
  pub result : Result ℕ ℕ
  pub session : Session
  pub final : List ℕ

-- a place and an ID are numbers of their types
unfoldable pub Askable : Asked → Type 0
Askable (definition place id) = (place < 2 ^ 64) × (id < 2 ^ 32)
Askable (entry place id) = (place < 2 ^ 64) × (id < 2 ^ 32)

-- the promise of `send_lent` and `send`, on a record and a store
pub record SendPromise (s : Session) (t : Store) (m : SendMade) : Type 0 where
  pub result : m.result ≡ sent_as (number_for s t (length m.room) m.asked) (message_for t s.sending m.asked)
  pub session : m.session ≡ session_after (number_for s t (length m.room) m.asked) s (message_for t s.sending m.asked)
  pub final : m.final ≡ room_after (number_for s t (length m.room) m.asked) (message_for t s.sending m.asked) m.room
  -- the shape of what came in
  pub session-shape : SessionShape s
  pub store-shape : StoreShape t
  pub askable : Askable m.asked
