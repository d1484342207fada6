-- Demand 3: one claim over every list of calls, any pieces, any room, any times.
use Rattle.std.specs.Prelude.{ℕ, ◌≤◌, ◌≡◌, ◌⊎◌, List, [], ◌∷◌, ◌++◌, true, false, cond, ◌||◌, length, take, drop, eqb}
use Rattle.std.proofs.Math.Option.{some}
use Rattle.lists.specs.Lists.{every}
use Rattle.store.specs.declared.Store.{Store}
use Rattle.store.specs.Time.{pass_time, Passed, PassPromise}
use Rattle.session.specs.declared.Session.{Session}
use Rattle.session.specs.Answers.{refusal_of}
use Rattle.session.specs.declared.Answer.{Answer}
use Rattle.session.specs.declared.Answer.TheVariants as answer
use Rattle.session.specs.Session.{unfinished, is_closed, holding}
use Rattle.session_soundness.specs.Sound.{sound}
use Rattle.streams.specs.Model.{Item, event, Ended, Ran, bytes, bytes_in, feed_all}
use Rattle.streams.specs.Calls.{Call, Response, Result, result_of, Part, moment, on_part, timeline, begun, current, without, reachable}
use Rattle.streams.specs.Claim.{AsModel}
use Rattle.streams.specs.Fold.{AllAlong}
use Rattle.receiver.specs.Model.{State, Event, held_by, ends, reply_room, is_byte, is_time, peers}
use Rattle.receiver.specs.Promise.{Made, Shaped, ReadPromise}
use Rattle.receiver.specs.Ledger.{Ledger, start_ledger, post, RightReply, Acknowledged}

-- ---- a list of real calls

-- "Demand 3's lists then hold this call too": a call reads, or it passes time
pub data Called : Type 0 where
  reads : Made → Called
  passes : Passed → Called

-- each call kept its promise, and got the store that the last call left and, to read, the record that the last reading call left. A passing
-- call isn't given the record
unfoldable pub Chain : Session → Store → List Called → Type 0
Chain s t [] = Unit {0}
Chain s t (reads m ∷ cs) = ReadPromise s t m × Chain m.session m.store cs
Chain s t (passes p ∷ cs) = PassPromise t p × Chain s p.store cs

-- the reply that a call wrote: the front of its room
unfoldable pub reply_in : Made → List ℕ
reply_in m = take m.outcome.reply_len m.final

-- the bytes that the calls took, and the times where they passed, in order: a time "stands at its position in the stream, counted in bytes taken,
-- several at one position in call order"
unfoldable pub taken_by : List Called → List (Item Event)
taken_by [] = []
taken_by (reads m ∷ cs) = bytes (take m.outcome.taken m.piece) ++ taken_by cs
taken_by (passes p ∷ cs) = event p.milliseconds ∷ taken_by cs

-- record and store at the end
unfoldable pub last_session : Session → List Called → Session
last_session s [] = s
last_session s (reads m ∷ cs) = last_session m.session cs
last_session s (passes p ∷ cs) = last_session s cs

unfoldable pub last_store : Store → List Called → Store
last_store t [] = t
last_store t (reads m ∷ cs) = last_store m.store cs
last_store t (passes p ∷ cs) = last_store p.store cs

-- the answers that end a message or close the session, in order, each with its reply
unfoldable pub responses_of : List Called → List (Response Answer)
responses_of [] = []
responses_of (reads m ∷ cs) =
    cond (ends m.outcome.answer) (record { answer = m.outcome.answer; reply = reply_in m } ∷ responses_of cs) (responses_of cs)
responses_of (passes p ∷ cs) = responses_of cs

-- the replies of all calls, joined
unfoldable pub replies_of : List Called → List ℕ
replies_of [] = []
replies_of (reads m ∷ cs) = reply_in m ++ replies_of cs
replies_of (passes p ∷ cs) = replies_of cs

-- what the calls came to
unfoldable pub came_to : Session → Store → List Called → Result State Answer
came_to s t cs = record {
  responses = responses_of cs;
  replies = replies_of cs;
  state = held_by (last_session s cs) (last_store t cs);
}

-- what the byte model comes to, fed these bytes and times
unfoldable pub model_ran : Session → Store → List (Item Event) → Ran State Answer
model_ran s t stream = feed_all peers (held_by s t) (unfinished s) stream

-- ---- 1: each call, refused ones included

-- one call as the byte model says, with what it left
abbrev pub call_made : Made → Call State Answer
call_made m = record {
  taken = m.outcome.taken;
  answer = m.outcome.answer;
  reply = reply_in m;
  state = held_by m.session m.store;
}

pub record CallAsModel (s : Session) (t : Store) (m : Made) : Type 0 where
  pub model : AsModel peers (held_by s t) m.piece (length m.room) (call_made m)
  -- the count of reply bytes is the reply's length
  pub count : m.outcome.reply_len ≡ length (reply_in m)
  -- "Reply room past the reply stays as it came, in every call."
  pub room : drop m.outcome.reply_len m.final ≡ drop m.outcome.reply_len m.room
  pub size : length m.final ≡ length m.room
  -- where nothing was taken, nothing changed
  pub kept : m.outcome.taken ≡ 0 → (m.session ≡ s) × (m.store ≡ t)

-- "passing time gives 4 on an unsound store, unchanged, else 0": the model's time passed, and 0 was returned
pub record PassAsModel (t : Store) (p : Passed) : Type 0 where
  pub number : p.number ≡ 0
  pub store : p.store ≡ pass_time p.milliseconds t

unfoldable pub EachCall : Session → Store → List Called → Type 0
EachCall s t [] = Unit {0}
EachCall s t (reads m ∷ cs) = CallAsModel s t m × EachCall m.session m.store cs
EachCall s t (passes p ∷ cs) = PassAsModel t p × EachCall s p.store cs

-- ---- 3: a stream of bytes and times that is offered to its end or until the session closes

-- "Until the session closes, the host offers untaken bytes again.": until then each piece is a first part of the bytes that are left, and after
-- that any piece. With room under 12 a call takes nothing, and all is offered again. What a call takes stands before the next time, and what it
-- leaves may stand behind it. A time passes where it is next, session closed or not, so that bytes alone may be left over
unfoldable pub OffersTo : Session → List (Item Event) → List Called → Type 0
OffersTo s rest [] = (rest ≡ []) ⊎ ((is_closed s.connection ≡ true) × ((last : List ℕ) × (rest ≡ bytes last)))
OffersTo s rest (reads m ∷ cs) =
    ((is_closed s.connection ≡ true) ⊎ ((more : List ℕ) × (m.piece ++ more ≡ bytes_in rest)))
    × (later : List (Item Event)) × (bytes (take m.outcome.taken m.piece) ++ later ≡ rest) × OffersTo m.session later cs
OffersTo s rest (passes p ∷ cs) = (later : List (Item Event)) × (event p.milliseconds ∷ later ≡ rest) × OffersTo s later cs

-- each piece is all that is left up to the next cut or time: no piece crosses one, and none is cut further
unfoldable pub WithinCutsOf : List (Part Event) → List Called → Type 0
WithinCutsOf parts [] = Unit {0}
WithinCutsOf parts (reads m ∷ cs) = (m.piece ≡ current parts) × WithinCutsOf (without m.outcome.taken parts) cs
WithinCutsOf parts (passes p ∷ cs) =
    (later : List (Part Event)) × (begun parts ≡ moment p.milliseconds ∷ later) × WithinCutsOf later cs

unfoldable pub RoomsAre : List ℕ → List Called → Type 0
RoomsAre room [] = Unit {0}
RoomsAre room (reads m ∷ cs) = (m.room ≡ room) × RoomsAre room cs
RoomsAre room (passes p ∷ cs) = RoomsAre room cs

-- calls that offer the stream of the parts, each reading call with this reply room
pub record Offering (s : Session) (t : Store) (parts : List (Part Event)) (room : List ℕ) : Type 0 where
  pub calls : List Called
  pub rooms : RoomsAre room calls
  pub chain : Chain s t calls
  pub offers : OffersTo s (timeline parts) calls
  pub within : WithinCutsOf parts calls

-- ---- 4: the ledger along the calls

-- the message that a call ended, where u are the bytes that earlier calls left unfinished
abbrev pub ended_by : List ℕ → Made → Ended Answer
ended_by u m = record { message = u ++ take m.outcome.taken m.piece; answer = m.outcome.answer; reply = reply_in m }

-- each reply that is an acknowledgement carries its table's IDs, by the ledger of the messages up to and with this one; a call that ends no
-- message sends nothing, and one that passes time is none of the ledger's
unfoldable pub AcknowledgedCalls : Ledger → List ℕ → List Called → Type 0
AcknowledgedCalls l u [] = Unit {0}
AcknowledgedCalls l u (reads m ∷ cs) =
    let e = ended_by u m in
    cond (ends m.outcome.answer)
    (RightReply (post l e) e.message e.reply e.answer × AcknowledgedCalls (post l e) [] cs)
    ((reply_in m ≡ []) × AcknowledgedCalls l e.message cs)
AcknowledgedCalls l u (passes p ∷ cs) = AcknowledgedCalls l u cs

-- ---- 5: 4 is never answered

unfoldable pub NeverUnsound : List Called → Type 0
NeverUnsound [] = Unit {0}
NeverUnsound (reads m ∷ cs) = (refusal_of m.outcome.answer ≡ some 4 → ⊥) × NeverUnsound cs
NeverUnsound (passes p ∷ cs) = (p.number ≡ 0) × NeverUnsound cs

-- ---- the claim

pub record Demand3 (s : Session) (t : Store) (cs : List Called) : Type 0 where
  -- 1. each call took the bytes and gave the answer and reply that the byte model says; each time passed as the model says
  pub each : EachCall s t cs
  -- 2. answers, replies, store and end record are the byte model's for the bytes taken and the times passed
  pub taken : came_to s t cs ≡ result_of (model_ran s t (taken_by cs))
  -- the answers left out of `taken` are more wanted, 1, 2 and 4 alone; the model's list has every answer that it gave
  pub left_out : (a : Answer) → ends a ≡ false → (a ≡ answer.More) ⊎ ((refusal_of a ≡ some 1) ⊎ ((refusal_of a ≡ some 2) ⊎ (refusal_of a ≡ some 4)))
  -- the end record itself: the start record where no byte was taken, else the record that holds the model's state; the sending state stays
  pub record_is : last_session s cs
      ≡ (let end = (model_ran s t (taken_by cs)).state in
      cond (eqb (length (bytes_in (taken_by cs))) 0) s (holding s.sending end.connection end.unfinished))
  -- 3. where a stream is offered to its end or until the session closes, they are the model's for the whole stream
  pub whole : (stream : List (Item Event)) → OffersTo s stream cs → came_to s t cs ≡ result_of (model_ran s t stream)
  -- and the record itself: the start record where the stream has no byte or the session was closed, else the one that holds the model's state
  pub whole-record : (stream : List (Item Event)) → OffersTo s stream cs
      → last_session s cs
      ≡ (let end = (model_ran s t stream).state in
      cond (eqb (length (bytes_in stream)) 0 || is_closed s.connection) s (holding s.sending end.connection end.unfinished))
  -- such a list of calls exists, for every cutting of every stream into pieces, with times between them at any positions that calls come to, and
  -- every room that is large enough
  pub exists : Shaped s t → (parts : List (Part Event)) (room : List ℕ) → every (on_part (every is_byte) is_time) parts ≡ true → reply_room ≤ length room
      → reachable peers (held_by s t) (timeline parts) ≡ true → Offering s t parts room
  -- 4. each acknowledgement carries its table's bound ID and its last committed update ID
  pub acknowledged : AllAlong post Acknowledged (start_ledger s.connection) (model_ran s t (taken_by cs)).ended
  pub acknowledged-calls : AcknowledgedCalls (start_ledger s.connection) (unfinished s) cs
  -- 5. soundness is kept, and 4 is never answered
  pub sound : sound (last_session s cs) (last_store t cs) ≡ true
  pub never-4 : NeverUnsound cs
