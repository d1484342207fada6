-- What one reading call promises: "What a call gives back" and "A reading call is the call above" of document 01.
use Rattle.std.specs.Prelude.{ℕ, ◌≡◌, List, true, cond, length, ltb, eqb}
use Rattle.lists.specs.Lists.{front, every}
use Rattle.store.specs.declared.Store.{Store}
use Rattle.store.specs.Shape.{StoreShape}
use Rattle.session.specs.declared.Session.{Session}
use Rattle.session.specs.declared.Answer.{Answer}
use Rattle.session.specs.declared.Answer.TheVariants as answer
use Rattle.session.specs.declared.Outcome.{Outcome}
use Rattle.session.specs.Session.{is_closed, holding}
use Rattle.session.specs.Shape.{SessionShape}
use Rattle.session_soundness.specs.Sound.{sound}
use Rattle.streams.specs.Calls.{Call, stay, scan}
use Rattle.receiver.specs.Model.{State, held_by, reply_room, is_byte, peers}

-- "A call tests 1, then 4, then 2 .. A call's 1, 4 and 2 take nothing and change nothing"; "Any other takes its piece up to and with the
-- first byte at which the model answers, and gives that answer and reply; if there is no such byte, it takes the whole piece and answers
-- more wanted, with no reply."
unfoldable pub call_of : Session → Store → List ℕ → ℕ → Call State Answer
call_of s t piece room =
    let held = held_by s t in
    cond (ltb room reply_room) (stay held (answer.Refused 1))
    (cond (sound s t)
    (cond (is_closed s.connection) (stay held (answer.Refused 2)) (scan peers held piece))
    (stay held (answer.Refused 4)))

-- "It returns the bytes taken, the reply's length and the answer"
unfoldable pub outcome_of : Call State Answer → Outcome
outcome_of c = record { taken = c.taken; reply_len = length c.reply; answer = c.answer }

-- "one session record per connection and lends it to each call, which leaves the new state there": the very record that came where nothing was taken, else the record that holds
-- the new state, with zeros behind its unfinished bytes; the sending state stays
unfoldable pub session_of : Session → Call State Answer → Session
session_of s c = cond (eqb c.taken 0) s (holding s.sending c.state.connection c.state.unfinished)

-- one call: its piece, its reply room, what it returned, and record, store and room afterwards
pub record Made : Type 0 where
  pub piece : List ℕ
  pub room : List ℕ
  pub outcome : Outcome
  pub session : Session
  pub store : Store
  pub final : List ℕ

-- the shape that every value of these types has
pub record Shaped (s : Session) (t : Store) : Type 0 where
  pub session : SessionShape s
  pub store : StoreShape t

-- the promise of `read` and of `read_lent`, on a record and a store
pub record ReadPromise (s : Session) (t : Store) (m : Made) : Type 0 where
  pub outcome : m.outcome ≡ outcome_of (call_of s t m.piece (length m.room))
  pub session : m.session ≡ session_of s (call_of s t m.piece (length m.room))
  pub store : m.store ≡ (call_of s t m.piece (length m.room)).state.store
  -- "Reply room past the reply stays as it came, in every call."
  pub final : m.final ≡ front (call_of s t m.piece (length m.room)).reply m.room
  -- the shape of what came in
  pub shaped : Shaped s t
  pub bytes : every is_byte m.piece ≡ true
