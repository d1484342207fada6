-- Demand 3 for the exported calls: one claim over every list of calls of `peers_read` and `peers_pass_time`, any pieces, any room, any times, said
-- of what a host in C has: the numbers returned, the reply in its room, the record and the store.
use Rattle.std.specs.Prelude.{ℕ, ◌-◌, ◌≤◌, ◌≡◌, ◌⊎◌, List, [], ◌∷◌, ◌++◌, map, Bool, true, false, cond, not, ◌||◌, length, take, drop, get_or, replicate, eqb}
use Rattle.lists.specs.Lists.{every}
use Rattle.store.specs.declared.Store.{Store}
use Rattle.store.specs.Time.{Passed, PassPromise}
use Rattle.session.specs.declared.Session.{Session}
use Rattle.session.specs.declared.Answer.{Answer}
use Rattle.session.specs.Answers.{answer_number, answer_values}
use Rattle.session.specs.Session.{unfinished, is_closed, holding}
use Rattle.session_soundness.specs.Sound.{sound}
use Rattle.streams.specs.Model.{Item, event, bytes, bytes_in}
use Rattle.streams.specs.Calls.{Call, Response, Result, result_of, Part, moment, on_part, timeline, begun, current, without, reachable}
use Rattle.streams.specs.Claim.{AsModel}
use Rattle.streams.specs.Fold.{AllAlong}
use Rattle.receiver.specs.Model.{State, Event, held_by, reply_room, is_byte, is_time, peers}
use Rattle.receiver.specs.Promise.{Shaped}
use Rattle.receiver.specs.Ledger.{Ledger, start_ledger, post, at, table_id, update_id, defines, switches, commits, Carried, Switched, NoAcknowledgement, Acknowledged}
use Rattle.receiver.specs.Demand3.{model_ran, PassAsModel}
use Rattle.peers.specs.Reading.{RawMade, RawPromise}

-- ---- a list of exported calls

-- "Demand 3's lists then hold this call too": a call of `peers_read`, or one of `peers_pass_time`
pub data RawCalled : Type 0 where
  raw_reads : RawMade → RawCalled
  raw_passes : Passed → RawCalled

-- each call kept its promise, and got the store that the last call left and, to read, the record that the last reading call left. A passing
-- call isn't given the record
unfoldable pub RawChain : Session → Store → List RawCalled → Type 0
RawChain s t [] = Unit {0}
RawChain s t (raw_reads m ∷ cs) = RawPromise s t m × RawChain m.session m.store cs
RawChain s t (raw_passes p ∷ cs) = PassPromise t p × RawChain s p.store cs

-- the values that a call returned: the first `count` of the four numbers
unfoldable pub raw_values : RawMade → List ℕ
raw_values m = take m.outcome.count m.outcome.values

-- the reply that a call wrote: the front of its room
unfoldable pub raw_reply : RawMade → List ℕ
raw_reply m = take m.outcome.reply_len m.final

-- the bytes that the calls took, and the times where they passed, in order: a time "stands at its position in the stream, counted in bytes taken,
-- several at one position in call order"
unfoldable pub raw_taken : List RawCalled → List (Item Event)
raw_taken [] = []
raw_taken (raw_reads m ∷ cs) = bytes (take m.outcome.taken m.piece) ++ raw_taken cs
raw_taken (raw_passes p ∷ cs) = event p.milliseconds ∷ raw_taken cs

-- record and store at the end
unfoldable pub raw_last_session : Session → List RawCalled → Session
raw_last_session s [] = s
raw_last_session s (raw_reads m ∷ cs) = raw_last_session m.session cs
raw_last_session s (raw_passes p ∷ cs) = raw_last_session s cs

unfoldable pub raw_last_store : Store → List RawCalled → Store
raw_last_store t [] = t
raw_last_store t (raw_reads m ∷ cs) = raw_last_store m.store cs
raw_last_store t (raw_passes p ∷ cs) = raw_last_store p.store cs

-- the numbers of answers that end a message or close the session: all but 256, more wanted, and the refusals 1, 2 and 4
unfoldable pub ends_number : ℕ → Bool
ends_number n = not (eqb n 256 || (eqb n 1 || (eqb n 2 || eqb n 4)))

-- an answer in numbers, with its reply
pub record RawResponse : Type 0 where
  pub number : ℕ
  pub values : List ℕ
  pub reply : List ℕ

-- the answers that end a message or close the session, in order, each with its reply
unfoldable pub raw_responses : List RawCalled → List RawResponse
raw_responses [] = []
raw_responses (raw_reads m ∷ cs) =
    cond (ends_number m.outcome.number) (record { number = m.outcome.number; values = raw_values m; reply = raw_reply m } ∷ raw_responses cs)
    (raw_responses cs)
raw_responses (raw_passes p ∷ cs) = raw_responses cs

-- the replies of all calls, joined
unfoldable pub raw_replies : List RawCalled → List ℕ
raw_replies [] = []
raw_replies (raw_reads m ∷ cs) = raw_reply m ++ raw_replies cs
raw_replies (raw_passes p ∷ cs) = raw_replies cs

-- the answers that end a message or close the session with their replies, the joined replies, and the end state
pub record RawResult : Type 0 where
  pub responses : List RawResponse
  pub replies : List ℕ
  pub state : State

-- what the calls came to
unfoldable pub raw_came_to : Session → Store → List RawCalled → RawResult
raw_came_to s t cs = record {
  responses = raw_responses cs;
  replies = raw_replies cs;
  state = held_by (raw_last_session s cs) (raw_last_store t cs);
}

-- "a definition gives this paper's number and values for each of the enum's cases"
abbrev pub response_in_numbers : Response Answer → RawResponse
response_in_numbers r = record { number = answer_number r.answer; values = answer_values r.answer; reply = r.reply }

-- what the byte model came to, each answer as its number and values
unfoldable pub in_numbers : Result State Answer → RawResult
in_numbers r = record { responses = map response_in_numbers r.responses; replies = r.replies; state = r.state }

-- ---- 1: each call, refused ones included

-- one call as the byte model says, with what it left
pub record RawCallAsModel (s : Session) (t : Store) (m : RawMade) : Type 0 where
  -- a call by the byte model
  pub call : Call State Answer
  pub model : AsModel peers (held_by s t) m.piece (length m.room) call
  -- "It returns the bytes taken, the reply's length and the answer"
  pub taken : m.outcome.taken ≡ call.taken
  pub number : m.outcome.number ≡ answer_number call.answer
  pub values : raw_values m ≡ answer_values call.answer
  pub reply : raw_reply m ≡ call.reply
  -- "which leaves the new state there"
  pub state : held_by m.session m.store ≡ call.state
  -- the count of values is how many the answer has, and zeros stand after them
  pub values-count : m.outcome.count ≡ length (raw_values m)
  pub zeros : drop m.outcome.count m.outcome.values ≡ replicate (4 - m.outcome.count) 0
  -- the count of reply bytes is the reply's length
  pub count : m.outcome.reply_len ≡ length (raw_reply m)
  -- "Reply room past the reply stays as it came, in every call."
  pub room : drop m.outcome.reply_len m.final ≡ drop m.outcome.reply_len m.room
  pub size : length m.final ≡ length m.room
  -- where nothing was taken, nothing changed
  pub kept : m.outcome.taken ≡ 0 → (m.session ≡ s) × (m.store ≡ t)

-- a passing call returned 0 and left the store with the time passed, as the model says
unfoldable pub RawEachCall : Session → Store → List RawCalled → Type 0
RawEachCall s t [] = Unit {0}
RawEachCall s t (raw_reads m ∷ cs) = RawCallAsModel s t m × RawEachCall m.session m.store cs
RawEachCall s t (raw_passes p ∷ cs) = PassAsModel t p × RawEachCall s p.store cs

-- ---- 3: a stream of bytes and times that is offered to its end or until the session closes

-- "Until the session closes, the host offers untaken bytes again.": until then each piece is a first part of the bytes that are left, and after
-- that any piece. With room under 12 a call takes nothing, and all is offered again. What a call takes stands before the next time, and what it
-- leaves may stand behind it. A time passes where it is next, session closed or not, so that bytes alone may be left over
unfoldable pub RawOffersTo : Session → List (Item Event) → List RawCalled → Type 0
RawOffersTo s rest [] = (rest ≡ []) ⊎ ((is_closed s.connection ≡ true) × ((last : List ℕ) × (rest ≡ bytes last)))
RawOffersTo s rest (raw_reads m ∷ cs) =
    ((is_closed s.connection ≡ true) ⊎ ((more : List ℕ) × (m.piece ++ more ≡ bytes_in rest)))
    × (later : List (Item Event)) × (bytes (take m.outcome.taken m.piece) ++ later ≡ rest) × RawOffersTo m.session later cs
RawOffersTo s rest (raw_passes p ∷ cs) = (later : List (Item Event)) × (event p.milliseconds ∷ later ≡ rest) × RawOffersTo s later cs

-- each piece is all that is left up to the next cut or time: no piece crosses one, and none is cut further
unfoldable pub RawWithinCuts : List (Part Event) → List RawCalled → Type 0
RawWithinCuts parts [] = Unit {0}
RawWithinCuts parts (raw_reads m ∷ cs) = (m.piece ≡ current parts) × RawWithinCuts (without m.outcome.taken parts) cs
RawWithinCuts parts (raw_passes p ∷ cs) =
    (later : List (Part Event)) × (begun parts ≡ moment p.milliseconds ∷ later) × RawWithinCuts later cs

unfoldable pub RawRooms : List ℕ → List RawCalled → Type 0
RawRooms room [] = Unit {0}
RawRooms room (raw_reads m ∷ cs) = (m.room ≡ room) × RawRooms room cs
RawRooms room (raw_passes p ∷ cs) = RawRooms room cs

-- calls that offer the stream of the parts, each reading call with this reply room
pub record RawOffering (s : Session) (t : Store) (parts : List (Part Event)) (room : List ℕ) : Type 0 where
  pub calls : List RawCalled
  pub rooms : RawRooms room calls
  pub chain : RawChain s t calls
  pub offers : RawOffersTo s (timeline parts) calls
  pub within : RawWithinCuts parts calls

-- ---- 4: the ledger along the calls, by the numbers returned

-- the ledger after a message that ended with this number and these values. 265 is a definition, with its table's place; 266 a switch, with its
-- table's place; 267 an update. No other number changes it
unfoldable pub raw_post : Ledger → List ℕ → ℕ → List ℕ → Ledger
raw_post l message number values =
    cond (eqb number 265) (defines l (get_or values 0 0) (table_id message))
    (cond (eqb number 266) (switches l (get_or values 0 0))
    (cond (eqb number 267) (commits l l.current (update_id message (at l.last l.current))) l))

-- "a committed update gives one acknowledgement"; no other message's reply is one. An update's first value is its table's place, its second
-- its ID; a switch's value is the place of the table that is bound to the ID in its message
unfoldable pub RawRightReply : Ledger → List ℕ → List ℕ → ℕ → List ℕ → Type 0
RawRightReply l message reply number values =
    cond (eqb number 267) (Carried l reply (get_or values 0 0) (get_or values 1 0))
    (cond (eqb number 266) (Switched l message reply (get_or values 0 0)) (NoAcknowledgement reply))

-- each reply that is an acknowledgement carries its table's IDs, by the ledger of the messages up to and with this one; a call that ends no
-- message sends nothing, and one that passes time is none of the ledger's. u are the bytes that earlier calls left unfinished
unfoldable pub RawAcknowledgedCalls : Ledger → List ℕ → List RawCalled → Type 0
RawAcknowledgedCalls l u [] = Unit {0}
RawAcknowledgedCalls l u (raw_reads m ∷ cs) =
    let message = u ++ take m.outcome.taken m.piece in
    let after = raw_post l message m.outcome.number (raw_values m) in
    cond (ends_number m.outcome.number)
    (RawRightReply after message (raw_reply m) m.outcome.number (raw_values m) × RawAcknowledgedCalls after [] cs)
    ((raw_reply m ≡ []) × RawAcknowledgedCalls l message cs)
RawAcknowledgedCalls l u (raw_passes p ∷ cs) = RawAcknowledgedCalls l u cs

-- ---- 5: 4 is never answered

unfoldable pub RawNeverUnsound : List RawCalled → Type 0
RawNeverUnsound [] = Unit {0}
RawNeverUnsound (raw_reads m ∷ cs) = (m.outcome.number ≡ 4 → ⊥) × RawNeverUnsound cs
RawNeverUnsound (raw_passes p ∷ cs) = (p.number ≡ 0) × RawNeverUnsound cs

-- ---- the claim

pub record ExportedDemand3 (s : Session) (t : Store) (cs : List RawCalled) : Type 0 where
  -- 1. each call took the bytes and gave the numbers and the reply that the byte model says; each time passed as the model says
  pub each : RawEachCall s t cs
  -- 2. answers, replies, store and end record are the byte model's for the bytes taken and the times passed
  pub taken : raw_came_to s t cs ≡ in_numbers (result_of (model_ran s t (raw_taken cs)))
  -- the numbers left out of `taken` are more wanted, 1, 2 and 4 alone; the model's list has every answer that it gave
  pub left_out : (n : ℕ) → ends_number n ≡ false → (n ≡ 256) ⊎ ((n ≡ 1) ⊎ ((n ≡ 2) ⊎ (n ≡ 4)))
  -- the end record itself: the start record where no byte was taken, else the record that holds the model's state; the sending state stays
  pub record_is : raw_last_session s cs
      ≡ (let end = (model_ran s t (raw_taken cs)).state in
      cond (eqb (length (bytes_in (raw_taken cs))) 0) s (holding s.sending end.connection end.unfinished))
  -- 3. where a stream is offered to its end or until the session closes, they are the model's for the whole stream
  pub whole : (stream : List (Item Event)) → RawOffersTo s stream cs → raw_came_to s t cs ≡ in_numbers (result_of (model_ran s t stream))
  -- and the record itself: the start record where the stream has no byte or the session was closed, else the one that holds the model's state
  pub whole-record : (stream : List (Item Event)) → RawOffersTo s stream cs
      → raw_last_session s cs
      ≡ (let end = (model_ran s t stream).state in
      cond (eqb (length (bytes_in stream)) 0 || is_closed s.connection) s (holding s.sending end.connection end.unfinished))
  -- such a list of calls exists, for every cutting of every stream into pieces, with times between them at any positions that calls come to, and
  -- every room that is large enough
  pub exists : Shaped s t → (parts : List (Part Event)) (room : List ℕ) → every (on_part (every is_byte) is_time) parts ≡ true → reply_room ≤ length room
      → reachable peers (held_by s t) (timeline parts) ≡ true → RawOffering s t parts room
  -- 4. each acknowledgement carries its table's bound ID and its last committed update ID: those of the model, and those of the calls
  pub acknowledged : AllAlong post Acknowledged (start_ledger s.connection) (model_ran s t (raw_taken cs)).ended
  pub acknowledged-calls : RawAcknowledgedCalls (start_ledger s.connection) (unfinished s) cs
  -- 5. soundness is kept, and 4 is never answered
  pub sound : sound (raw_last_session s cs) (raw_last_store t cs) ≡ true
  pub never-4 : RawNeverUnsound cs

-- "Demand 3 is a single claim about the whole list, not one for each call."
abbrev pub EveryListOfCalls : Type 0
EveryListOfCalls = (s : Session) (t : Store) (cs : List RawCalled) → sound s t ≡ true → RawChain s t cs → ExportedDemand3 s t cs
