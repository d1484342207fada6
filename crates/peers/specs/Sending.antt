-- What the exported sending calls promise: what `send_lent` does, with numbers for what it returns.
use Rattle.std.specs.Prelude.{ℕ, ◌≡◌, List, cond, length, take, eqb}
use Rattle.store.specs.declared.Store.{Store}
use Rattle.store.specs.Shape.{StoreShape}
use Rattle.session.specs.declared.Session.{Session}
use Rattle.session.specs.Shape.{SessionShape}
use Rattle.sending.specs.Sending.{Asked, Askable, Message, message_for, number_for, session_after, room_after}
use Rattle.peers.specs.declared.numbers.RawSent.{RawSent}

-- one call: what was asked, its room, the numbers that it returned, and record and room afterwards. The store is lent to be read alone
pub record RawSendMade : Type 0 where
  pub asked : Asked
  pub room : List ℕ
  pub outcome : RawSent
  pub session : Session
  pub final : List ℕ

-- with number 0 the length, with a refusal's number 0
unfoldable pub sent_length : ℕ → Message → ℕ
sent_length number m = cond (eqb number 0) (length m.bytes) 0

-- the promise of `peers_send_definition` and `peers_send_entry`, on a record and a store
pub record RawSendPromise (s : Session) (t : Store) (m : RawSendMade) : Type 0 where
  pub number : m.outcome.number ≡ number_for s t (length m.room) m.asked
  pub len : m.outcome.len ≡ sent_length (number_for s t (length m.room) m.asked) (message_for t s.sending m.asked)
  -- "A sending call leaves the store, and all of the record that reading uses, as it was"
  pub session : m.session ≡ session_after (number_for s t (length m.room) m.asked) s (message_for t s.sending m.asked)
  pub final : m.final ≡ room_after (number_for s t (length m.room) m.asked) (message_for t s.sending m.asked) m.room
  -- the shape of what came in
  pub session-shape : SessionShape s
  pub store-shape : StoreShape t
  pub askable : Askable m.asked

-- the message that a call wrote: the front of its room
unfoldable pub sent_bytes : RawSendMade → List ℕ
sent_bytes m = take m.outcome.len m.final
