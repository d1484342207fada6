-- Request 3, said of the exported calls: a whole store taught, and sending calls among reading ones.
use Rattle.std.specs.Prelude.{ℕ, ◌≤◌, ◌≡◌, ◌⊎◌, true, false, cond, length, drop, eqb}
use mathlib.Core.List.{List, [], ◌∷◌, map, flatten}
use Rattle.store.specs.declared.Store.{Store}
use Rattle.store.specs.Contents.{SameContents, with_expiries}
use Rattle.store.specs.Time.{Passed, PassPromise}
use Rattle.session.specs.declared.Sending.{Sending}
use Rattle.session.specs.declared.Session.{Session}
use Rattle.session.specs.Session.{is_closed, established, unfinished, with_sending}
use Rattle.session_soundness.specs.Sound.{sound}
use Rattle.streams.specs.Model.{bytes}
use Rattle.streams.specs.Calls.{pieces}
use Rattle.receiver.specs.Model.{reply_room}
use Rattle.receiver.specs.Promise.{Shaped}
use Rattle.sending.specs.Sending.{send_room, message_for, number_for}
use Rattle.teaching.specs.Teaching.{TableIds, SendsAll, asked_for, acknowledgements_for, is_empty, message_most}
use Rattle.teaching.specs.ReadBack.{MessageBack}
use Rattle.peers.specs.Reading.{RawMade, RawPromise}
use Rattle.peers.specs.Sending.{RawSendMade, RawSendPromise, sent_bytes}
use Rattle.peers.specs.ExportedDemand3.{RawCalled, raw_reads, raw_passes, RawChain, raw_last_session, raw_last_store, raw_replies, RawOffersTo, RawWithinCuts, RawRooms}

-- ---- one call, on any record and store

-- a refused call, "nothing written, no change": by 4, 2, 31, 34 or 32, in this order by `number_for`
pub record RawSendRefused (s : Session) (t : Store) (m : RawSendMade) : Type 0 where
  pub number : (m.outcome.number ≡ 4) ⊎ ((m.outcome.number ≡ 2) ⊎ ((m.outcome.number ≡ 31) ⊎ ((m.outcome.number ≡ 34) ⊎ (m.outcome.number ≡ 32))))
  pub in_order : m.outcome.number ≡ number_for s t (length m.room) m.asked
  pub len : m.outcome.len ≡ 0
  pub session : m.session ≡ s
  pub room : m.final ≡ m.room

-- a call that wrote its message: all of the record but `sending` is as it was, and the room past the message
pub record RawMessageSent (s : Session) (t : Store) (m : RawSendMade) : Type 0 where
  pub number : m.outcome.number ≡ 0
  -- the message that the definitions say, of the store and the sending state alone
  pub message : sent_bytes m ≡ (message_for t s.sending m.asked).bytes
  -- "one whole message": a reader waits at each shorter first part of these bytes, and all of them are one message, with the fields of the table, or of
  -- the entry, which reads without a remaining time as its table says
  pub back : MessageBack t s.sending m.asked
  pub session : with_sending m.session s.sending ≡ s
  -- a law gives the greatest length: every message fits the room that is asked for
  pub len : m.outcome.len ≤ message_most
  pub room : drop m.outcome.len m.final ≡ drop m.outcome.len m.room
  pub size : length m.final ≡ length m.room

abbrev pub RawSentOrRefused : Type 0
RawSentOrRefused = (s : Session) (t : Store) (m : RawSendMade) → RawSendPromise s t m → RawMessageSent s t m ⊎ RawSendRefused s t m

-- a record that was sound with the store stays sound with it. No other record and no store is lent to be written
abbrev pub RawSentSound : Type 0
RawSentSound = (s : Session) (t : Store) (m : RawSendMade) → RawSendPromise s t m → sound s t ≡ true → sound m.session t ≡ true

-- ---- lists of calls

-- a call of any kind on one record
pub data AnyCall : Type 0 where
  reads : RawMade → AnyCall
  passes : Passed → AnyCall
  sends : RawSendMade → AnyCall

unfoldable pub AnyChain : Session → Store → List AnyCall → Type 0
AnyChain s t [] = Unit {0}
AnyChain s t (reads m ∷ cs) = RawPromise s t m × AnyChain m.session m.store cs
AnyChain s t (passes p ∷ cs) = PassPromise t p × AnyChain s p.store cs
AnyChain s t (sends m ∷ cs) = RawSendPromise s t m × AnyChain m.session t cs

-- record and store at the end
unfoldable pub any_last_session : Session → List AnyCall → Session
any_last_session s [] = s
any_last_session s (reads m ∷ cs) = any_last_session m.session cs
any_last_session s (passes p ∷ cs) = any_last_session s cs
any_last_session s (sends m ∷ cs) = any_last_session m.session cs

unfoldable pub any_last_store : Store → List AnyCall → Store
any_last_store t [] = t
any_last_store t (reads m ∷ cs) = any_last_store m.store cs
any_last_store t (passes p ∷ cs) = any_last_store p.store cs
any_last_store t (sends m ∷ cs) = any_last_store t cs

-- ---- a store taught

-- the sending calls
unfoldable pub sends_in : List AnyCall → List RawSendMade
sends_in [] = []
sends_in (reads m ∷ cs) = sends_in cs
sends_in (passes p ∷ cs) = sends_in cs
sends_in (sends m ∷ cs) = m ∷ sends_in cs

-- those with number 0, which wrote their message; a refused one has "nothing written, no change", so the host may ask again
unfoldable pub sent_in : List AnyCall → List RawSendMade
sent_in [] = []
sent_in (reads m ∷ cs) = sent_in cs
sent_in (passes p ∷ cs) = sent_in cs
sent_in (sends m ∷ cs) = cond (eqb m.outcome.number 0) (m ∷ sent_in cs) (sent_in cs)

-- "nothing else writing": other calls may stand between the sending ones, of acknowledgements and heartbeats that are read for instance, where they
-- leave the store as it was
unfoldable pub NothingElseWrites : Store → List AnyCall → Type 0
NothingElseWrites t [] = Unit {0}
NothingElseWrites t (reads m ∷ cs) = (m.store ≡ t) × NothingElseWrites t cs
NothingElseWrites t (passes p ∷ cs) = (p.store ≡ t) × NothingElseWrites t cs
NothingElseWrites t (sends m ∷ cs) = NothingElseWrites t cs

-- "With every table and entry sent once, nothing else writing": the calls of any kind that sent each of them once, whatever was refused between.
-- "Given a session past its handshake": each that wrote met one, since its number isn't 34
pub record Teaching (s : Session) (t : Store) (ids : List TableIds) (calls : List AnyCall) : Type 0 where
  pub sound : sound s t ≡ true
  pub sends-all : SendsAll t ids
  pub asked : map (λ (m : RawSendMade). m.asked) (sent_in calls) ≡ asked_for t ids
  pub chain : AnyChain s t calls
  pub others : NothingElseWrites t calls

-- the messages of all sending calls, joined: a refused one's has no bytes
abbrev pub joined_messages : List AnyCall → List ℕ
joined_messages calls = flatten (map sent_bytes (sends_in calls))

-- "a session past its handshake": open, and established
pub record PastHandshake (s : Session) : Type 0 where
  pub opened : is_closed s.connection ≡ false
  pub established : s.connection.phase ≡ established

-- the reader: "a second open session past its handshake, with no unfinished bytes and an empty store"
pub record Reader (q : Session) (e : Store) : Type 0 where
  pub sound : sound q e ≡ true
  pub past : PastHandshake q
  pub none-unfinished : unfinished q ≡ []
  pub empty : is_empty e ≡ true

-- and reading calls that offer it these bytes, in any division
pub record BeingTaught (q : Session) (e : Store) (offered : List ℕ) (calls : List RawCalled) : Type 0 where
  pub reader : Reader q e
  pub chain : RawChain q e calls
  pub offers : RawOffersTo q (bytes offered) calls

-- the reader's end: "the same tables, keys, values and remaining times, places apart, and acknowledges each ID sent; an entry without remaining time
-- takes its table's expiry there, if any". Record and store are sound, so that each table and entry is held once
pub record Taught (t : Store) (ids : List TableIds) (q : Session) (e : Store) (calls : List RawCalled) : Type 0 where
  pub opened : is_closed (raw_last_session q calls).connection ≡ false
  pub none-unfinished : unfinished (raw_last_session q calls) ≡ []
  pub sound : sound (raw_last_session q calls) (raw_last_store e calls) ≡ true
  pub same : SameContents (with_expiries t) (raw_last_store e calls)
  pub replies : raw_replies calls ≡ acknowledgements_for ids

-- any sound store, any IDs, any calls that were refused, any division of the joined messages into reading calls
abbrev pub EveryStoreTaught : Type 0
EveryStoreTaught =
    (s : Session) (t : Store) (ids : List TableIds) (teaching : List AnyCall) → Teaching s t ids teaching
    → (q : Session) (e : Store) (reading : List RawCalled) → BeingTaught q e (joined_messages teaching) reading
    → Taught t ids q e reading

-- ---- none is refused

-- "31 room under 1,036 bytes": each call has as much
unfoldable pub RoomsSuffice : List RawSendMade → Type 0
RoomsSuffice [] = Unit {0}
RoomsSuffice (m ∷ ms) = (send_room ≤ length m.room) × RoomsSuffice ms

unfoldable pub NoneRefused : List RawSendMade → Type 0
NoneRefused [] = Unit {0}
NoneRefused (m ∷ ms) = (m.outcome.number ≡ 0) × NoneRefused ms

-- no reading call closes the session
unfoldable pub StaysOpen : List AnyCall → Type 0
StaysOpen [] = Unit {0}
StaysOpen (reads m ∷ cs) = (is_closed m.session.connection ≡ false) × StaysOpen cs
StaysOpen (passes p ∷ cs) = StaysOpen cs
StaysOpen (sends m ∷ cs) = StaysOpen cs

-- the sender: "a session past its handshake and a store", sound
pub record Sender (s : Session) (t : Store) : Type 0 where
  pub sound : sound s t ≡ true
  pub past : PastHandshake s

-- and calls that ask for each table and entry once, each with room enough, while the session stays open and nothing else changes the store
pub record AskedOnce (s : Session) (t : Store) (ids : List TableIds) (calls : List AnyCall) : Type 0 where
  pub sender : Sender s t
  pub sends-all : SendsAll t ids
  pub asked : map (λ (m : RawSendMade). m.asked) (sends_in calls) ≡ asked_for t ids
  pub rooms : RoomsSuffice (sends_in calls)
  pub chain : AnyChain s t calls
  pub others : NothingElseWrites t calls
  pub opened : StaysOpen calls

-- none of them is refused, so that they teach the store
abbrev pub TeachingNotRefused : Type 0
TeachingNotRefused =
    (s : Session) (t : Store) (ids : List TableIds) (calls : List AnyCall) → AskedOnce s t ids calls → NoneRefused (sends_in calls) × Teaching s t ids calls

-- ---- such calls exist

-- each call has this room
unfoldable pub SendRooms : List ℕ → List RawSendMade → Type 0
SendRooms room [] = Unit {0}
SendRooms room (m ∷ ms) = (m.room ≡ room) × SendRooms room ms

-- reading calls that offer the cuts' bytes, each with this reply room: no piece crosses a cut
pub record ReadingExists (q : Session) (e : Store) (cuts : List (List ℕ)) (room : List ℕ) : Type 0 where
  pub calls : List RawCalled
  pub rooms : RawRooms room calls
  pub within : RawWithinCuts (pieces cuts) calls
  pub taught : BeingTaught q e (flatten cuts) calls

-- sending calls, each with this room, and for every cutting of their joined messages reading calls, each with this reply room
pub record TeachingExists (s : Session) (t : Store) (ids : List TableIds) (room : List ℕ) (q : Session) (e : Store) (reply : List ℕ) : Type 0 where
  pub made : List RawSendMade
  pub rooms : SendRooms room made
  pub once : AskedOnce s t ids (map sends made)
  pub none-refused : NoneRefused (sends_in (map sends made))
  pub teaching : Teaching s t ids (map sends made)
  pub reading : (cuts : List (List ℕ)) → flatten cuts ≡ joined_messages (map sends made) → ReadingExists q e cuts reply

-- for every sender, all IDs and every reader, with any rooms that are large enough, there are calls as `EveryStoreTaught` asks for, none of them
-- refused
abbrev pub EveryTeachingExists : Type 0
EveryTeachingExists =
    (s : Session) (t : Store) (ids : List TableIds) (room : List ℕ) → Shaped s t → Sender s t → SendsAll t ids → send_room ≤ length room
    → (q : Session) (e : Store) (reply : List ℕ) → Shaped q e → Reader q e → reply_room ≤ length reply
    → TeachingExists s t ids room q e reply

-- ---- "demand 3's lists hold no sending calls"

-- a reading call as it is made on the same record with this `sending`
abbrev pub reads_with : Sending → RawMade → RawMade
reads_with x m = record {
  piece = m.piece;
  room = m.room;
  outcome = m.outcome;
  session = with_sending m.session x;
  store = m.store;
  final = m.final;
}

-- the list with the sending calls left out
unfoldable pub left_out : Sending → List AnyCall → List RawCalled
left_out x [] = []
left_out x (reads m ∷ cs) = raw_reads (reads_with x m) ∷ left_out x cs
left_out x (passes p ∷ cs) = raw_passes p ∷ left_out x cs
left_out x (sends m ∷ cs) = left_out x cs

-- it is a list of reading and passing calls, with the same numbers, replies and stores, on records that are equal but for `sending`; so all that demand
-- 3 says of it holds of the calls among the sending ones
pub record SendingApart (s : Session) (t : Store) (cs : List AnyCall) : Type 0 where
  pub chain : RawChain s t (left_out s.sending cs)
  pub session : raw_last_session s (left_out s.sending cs) ≡ with_sending (any_last_session s cs) s.sending
  pub store : raw_last_store t (left_out s.sending cs) ≡ any_last_store t cs
  pub sound : sound (any_last_session s cs) (any_last_store t cs) ≡ true

abbrev pub SendingLeftOut : Type 0
SendingLeftOut = (s : Session) (t : Store) (cs : List AnyCall) → sound s t ≡ true → AnyChain s t cs → SendingApart s t cs
