-- "The byte model" of document 01.
use Rattle.std.specs.Prelude.{ℕ, ◌^◌, List, [], ◌∷◌, ◌++◌, Bool, true, false, cond, not, ◌||◌, ltb, eqb}
use Rattle.store.specs.declared.Store.{Store}
use Rattle.store.specs.Time.{pass_time}
use Rattle.session.specs.declared.Connection.{Connection}
use Rattle.session.specs.declared.Session.{Session}
use Rattle.session.specs.declared.Answer.{Answer}
use Rattle.session.specs.declared.Answer.TheVariants as answer
use Rattle.session.specs.Session.{unfinished, is_closed, holding, nothing_sent}
use Rattle.session_soundness.specs.Sound.{sound}
use Rattle.message.specs.Changes.{changed}
use Rattle.message.specs.declared.Effect.{Effect}
use Rattle.reassembly.specs.Judge.{Judged, waiting, settled, judge}
use Rattle.streams.specs.Model.{Fed, quiet, answered, Receiver}

-- what a record and a store hold, as far as reading uses it: the unfinished bytes as a list, the rest as it is; the sending state is left out
pub record State : Type 0 where
  pub connection : Connection
  pub unfinished : List ℕ
  pub store : Store

-- "It starts from what a sound record and store hold"
unfoldable pub held_by : Session → Store → State
held_by s t = record { connection = s.connection; unfinished = unfinished s; store = t }

-- ---- one byte

-- "If these now end a message (hello and status too) or show a refusal, the rules here give answer, reply and new state, and no byte stays
-- unfinished. All else stays."
unfoldable pub joined : Connection → Store → List ℕ → Judged Effect → Fed State Answer
joined c s u waiting = quiet (record { connection = c; unfinished = u; store = s })
joined c s u (settled e) = answered e.answer e.reply (record { connection = e.connection; unfinished = []; store = changed s e.change })

-- "On a closed session a byte changes nothing. On an open one it joins the unfinished bytes."
unfoldable pub feed : State → ℕ → Fed State Answer
feed s b =
    let u = s.unfinished ++ (b ∷ []) in
    cond (is_closed s.connection) (quiet s) (joined s.connection s.store u (judge s.connection s.store u))

-- ---- passing time

-- a step of a list of calls that reads nothing: milliseconds that pass
abbrev pub Event : Type 0
Event = ℕ

-- a call is given them as a 32-bit number
abbrev pub is_time : ℕ → Bool
is_time e = ltb e (2 ^ 32)

-- "In the byte model a time is a step on the store alone, session closed or not, and stands at its position in the stream, counted in bytes
-- taken, several at one position in call order."
unfoldable pub pass : ℕ → State → State
pass e s = record { connection = s.connection; unfinished = s.unfinished; store = pass_time e s.store }

-- ---- the receiver

-- of the refusals, by their number: all but 1, 2 and 4
unfoldable pub ends_refused : ℕ → Bool
ends_refused n = not (eqb n 1 || (eqb n 2 || eqb n 4))

-- the answers that end a message or close the session: all but more wanted, 1, 2 and 4
unfoldable pub ends : Answer → Bool
ends answer.More = false
ends (answer.Hello process relative) = true
ends answer.Status = true
ends answer.Request = true
ends answer.Finished = true
ends answer.Partial = true
ends answer.Confirmed = true
ends answer.Heartbeat = true
ends (answer.Error type) = true
ends (answer.Table place) = true
ends (answer.Switch place) = true
ends (answer.Update table id entry how) = true
ends (answer.Acknowledgement id update) = true
ends (answer.Skipped kind) = true
ends (answer.Refused n) = ends_refused n
ends (answer.RefusedAt n offset) = ends_refused n

-- "1 | reply room under 12"
abbrev pub reply_room : ℕ
reply_room = 12

-- a record that holds the state, with nothing sent, is sound with its store
unfoldable pub sound_state : State → Bool
sound_state s = sound (holding nothing_sent s.connection s.unfinished) s.store

abbrev pub is_byte : ℕ → Bool
is_byte b = ltb b 256

abbrev pub peers : Receiver State Answer Event
peers = record {
  feed = feed;
  closed = λ s. is_closed s.connection;
  sound = sound_state;
  more = answer.More;
  refused = answer.Refused;
  ends = ends;
  least = reply_room;
  is_byte = is_byte;
  act = pass;
}
