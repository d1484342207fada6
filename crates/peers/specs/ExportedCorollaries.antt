-- What follows from the exported calls' promises and from their demand 3, in the auditor's words and in the numbers that a host has.
use Rattle.std.specs.Prelude.{ℕ, ◌+◌, ◌-◌, ◌≤◌, ◌<◌, ◌≡◌, ◌⊎◌, true, cond, ◌&&◌, ◌||◌, length, take, drop, get_or, eqb, None, Some}
use mathlib.Core.List.{List, [], ◌∷◌, ◌++◌, map, flatten}
use Rattle.std.proofs.Math.Option.{some}
use Rattle.lists.specs.Lists.{every, first_place}
use Rattle.store.specs.declared.Entry.{Entry}
use Rattle.store.specs.declared.Store.{Store}
use Rattle.store.specs.declared.entries.Place.TheVariants as places
use Rattle.store.specs.Store.{entry_free, find_entry, free_entry, counts_of, raised, make_entry, no_entry, no_table, empty_store}
use Rattle.store.specs.Shape.{StoreShape}
use Rattle.store.specs.Sound.{sound_store}
use Rattle.store.specs.Time.{entry_timed, Passed, PassPromise, PassedTwice}
use Rattle.frame.specs.declared.Frame.TheVariants as frame
use Rattle.frame.specs.Frame.{judge_frame}
use Rattle.session.specs.declared.Session.{Session}
use Rattle.session.specs.declared.Commit.{Commit}
use Rattle.session.specs.declared.Answer.{Answer}
use Rattle.session.specs.declared.Answer.TheVariants as answer
use Rattle.session.specs.Answers.{commit_number, refusal_reply}
use Rattle.session.specs.Session.{unfinished, binding_at, is_closed, holding, closed_with}
use Rattle.session_soundness.specs.Sound.{sound}
use Rattle.opening.specs.Opening.{Role, «open», opened_of, open_room, refused_opening}
use Rattle.body.specs.declared.update.Form.{Form}
use Rattle.body.specs.Fields.{got, span_in}
use Rattle.body.specs.declared.update.Update.{Update}
use Rattle.body.specs.Bodies.{form_of}
use Rattle.message.specs.Effects.{acknowledge}
use Rattle.message.specs.Targets.{keyed_as, goes_to}
use Rattle.streams.specs.Model.{Item, bytes, bytes_in}
use Rattle.streams.specs.Calls.{Part, pieces, on_part, timeline, reachable}
use Rattle.receiver.specs.Model.{Event, held_by, reply_room, is_byte, is_time, peers}
use Rattle.receiver.specs.Promise.{Made, Shaped}
use Rattle.receiver.specs.Ledger.{is_acknowledgement}
use Rattle.receiver.specs.Demand3.{model_ran}
use Rattle.receiver.specs.Corollaries.{fields_of, EntryWent, closes, TestedInOrder, OffsetGiven, RefusedPassUntouched, PassedRecordsSound}
use Rattle.message_bytes.specs.MessageBytes.{UpdateMessage, EntryPlaced, TableDefined}
use Rattle.message_bytes.specs.LastUpdates.{Since}
use Rattle.peers.specs.declared.numbers.RawOpened.{RawOpened}
use Rattle.peers.specs.Numbers.{raw_opened}
use Rattle.peers.specs.Reading.{RawMade, RawPromise}
use Rattle.peers.specs.ExportedDemand3.{RawCalled, raw_reads, raw_passes, RawChain, raw_values, raw_reply, raw_taken, raw_last_session, raw_last_store, raw_replies, raw_came_to, RawOffersTo, RawOffering, ExportedDemand3}

-- ---- from where a connection starts: a record that `peers_open_answerer` or `peers_open_caller` gave, and any sound store

-- demand 3 holds of every list of calls from there, and for every cutting of every stream into pieces, with times between them at any positions that
-- calls come to, and every room that is large enough there is such a list
pub record Started (s : Session) (t : Store) (calls : List RawCalled) : Type 0 where
  pub sound : sound s t ≡ true
  pub demand : ExportedDemand3 s t calls
  pub exists : (parts : List (Part Event)) (room : List ℕ) → every (on_part (every is_byte) is_time) parts ≡ true → reply_room ≤ length room
      → reachable peers (held_by s t) (timeline parts) ≡ true → RawOffering s t parts room
  -- without times, for every cutting
  pub offered : (cuts : List (List ℕ)) (room : List ℕ) → every (every is_byte) cuts ≡ true → reply_room ≤ length room
      → RawOffering s t (pieces cuts) room

-- in either role, with any names and any room: a refused opening too, since "1 and 3 in opening return a closed record .. which counts as sound". The
-- store has the shape that every value of its type has; one that calls left of a sound store is such a store (`KeptStore`)
abbrev pub FromTheStart : Type 0
FromTheStart =
    (role : Role) (local remote room : List ℕ) (o : RawOpened) (t : Store) (calls : List RawCalled)
    → o ≡ raw_opened (opened_of («open» role local remote (length room))) → sound_store t ≡ true → StoreShape t → RawChain o.session t calls
    → Started o.session t calls

-- where a host starts: the store is what `peers_empty_store` ensures
abbrev pub FromTheEmptyStore : Type 0
FromTheEmptyStore =
    (role : Role) (local remote room : List ℕ) (o : RawOpened) (t : Store) (calls : List RawCalled)
    → o ≡ raw_opened (opened_of («open» role local remote (length room))) → t ≡ empty_store → RawChain o.session t calls → Started o.session t calls

-- ---- "would another division of the same traffic by TCP have left another table?"

-- two lists of calls that offer one stream, the same bytes and the same times at the same positions, from one record and store come to the same
-- answers, replies, record and store
pub record RawSameByAnyDivision (s : Session) (t : Store) (stream : List (Item Event)) (calls others : List RawCalled) : Type 0 where
  pub came : raw_came_to s t calls ≡ raw_came_to s t others
  pub store : raw_last_store t calls ≡ raw_last_store t others
  pub session : raw_last_session s calls ≡ raw_last_session s others
  pub replies : raw_replies calls ≡ raw_replies others

abbrev pub RawAnyDivision : Type 0
RawAnyDivision =
    (s : Session) (t : Store) (stream : List (Item Event)) (calls others : List RawCalled) → sound s t ≡ true → RawChain s t calls → RawChain s t others
    → RawOffersTo s stream calls → RawOffersTo s stream others → RawSameByAnyDivision s t stream calls others

-- a list of calls offers no stream but those for which one exists by demand 3
abbrev pub RawOfferedReachable : Type 0
RawOfferedReachable =
    (s : Session) (t : Store) (stream : List (Item Event)) (calls : List RawCalled) → sound s t ≡ true → RawChain s t calls → RawOffersTo s stream calls
    → reachable peers (held_by s t) stream ≡ true

-- ---- a stream of bytes alone, without times

-- for every cutting there is a list of calls, and every list that offers it is of reading calls
abbrev pub RawBytesOffered : Type 0
RawBytesOffered =
    (s : Session) (t : Store) → sound s t ≡ true → Shaped s t → (cuts : List (List ℕ)) (room : List ℕ) → every (every is_byte) cuts ≡ true
    → reply_room ≤ length room → RawOffering s t (pieces cuts) room

abbrev pub RawBytesByReading : Type 0
RawBytesByReading =
    (s : Session) (t : Store) (stream : List ℕ) (calls : List RawCalled) → RawChain s t calls → RawOffersTo s (bytes stream) calls
    → (ms : List RawMade) × (calls ≡ map raw_reads ms)

-- the record at the end
abbrev pub RawBytesRecord : Type 0
RawBytesRecord =
    (s : Session) (t : Store) (stream : List ℕ) (calls : List RawCalled) → sound s t ≡ true → RawChain s t calls → RawOffersTo s (bytes stream) calls
    → raw_last_session s calls
    ≡ (let end = (model_ran s t (bytes stream)).state in
    cond (eqb (length stream) 0 || is_closed s.connection) s (holding s.sending end.connection end.unfinished))

-- the bytes that reading calls took are their timeline
abbrev pub RawReadingTakes : Type 0
RawReadingTakes =
    (ms : List RawMade) → raw_taken (map raw_reads ms) ≡ bytes (flatten (map (λ (m : RawMade). take m.outcome.taken m.piece) ms))

-- ---- "which entries did you hold when this acknowledgement went out?"

-- the message that a call ended: the record's unfinished bytes and the bytes taken
abbrev pub raw_message : Session → RawMade → List ℕ
raw_message s m = unfinished s ++ take m.outcome.taken m.piece

-- "An update shows table place, update ID and entry place", and new or replaced as 0 or 1; its number is 267
pub record ToldUpdate (m : RawMade) (table id place : ℕ) (how : Commit) : Type 0 where
  pub number : m.outcome.number ≡ 267
  pub values : raw_values m ≡ table ∷ id ∷ place ∷ commit_number how ∷ []

-- the store that the call left holds the entry with the message's key and values and its remaining time, and else what it held before, with
-- the counts of its entries; the entry replaced the one that was held with its table and key, or took the lowest free place; the reply is the
-- acknowledgement of this update with the table's ID
pub record RawEntryHeld (s : Session) (t : Store) (m : RawMade) : Type 0 where
  pub table : ℕ
  pub id : ℕ
  pub place : ℕ
  pub how : Commit
  pub told : ToldUpdate m table id place how
  pub kind : ℕ
  pub start : ℕ
  pub end : ℕ
  pub framed : judge_frame (raw_message s m) ≡ frame.Body kind start end
  pub form : Form
  pub type : form_of kind ≡ some form
  pub current : s.connection.current ≡ table + 1
  pub body : List ℕ
  pub body_is : body ≡ take (end - start) (drop start (raw_message s m))
  pub fields : Update
  pub after : ℕ
  pub read : fields_of s.connection t table form body ≡ got fields after
  pub own-id : fields.id ≡ id
  pub holds : get_or m.store.entries place no_entry
      ≡ make_entry table (span_in body fields.key) fields.server fields.time.timed fields.time.remaining fields.values
  -- "A known table and key has its values replaced. Otherwise the entry takes the lowest free place."
  pub went : EntryWent how place (find_entry t table (span_in body fields.key)) (free_entry t)
  pub others : (i : ℕ) → (i ≡ place → ⊥) → get_or m.store.entries i no_entry ≡ get_or t.entries i no_entry
  pub tables : m.store.tables ≡ t.tables
  -- request 9: "kept right by every call on a sound store"
  pub counts : m.store.counts ≡ counts_of m.store.entries
  pub reply : raw_reply m ≡ acknowledge (binding_at s.connection table).id id

abbrev pub RawHeldWhenAcknowledged : Type 0
RawHeldWhenAcknowledged = (s : Session) (t : Store) (m : RawMade) → RawPromise s t m → is_acknowledgement (raw_reply m) ≡ true → RawEntryHeld s t m

-- ---- "which bytes stood for this counter?"

-- the call with this answer for its numbers
abbrev pub answering : Answer → RawMade → Made
answering a m = record {
  piece = m.piece;
  room = m.room;
  outcome = record { taken = m.outcome.taken; reply_len = m.outcome.reply_len; answer = a };
  session = m.session;
  store = m.store;
  final = m.final;
}

-- the entry at a place of the store that the calls left
abbrev pub raw_last_entry : Store → List RawCalled → ℕ → Entry
raw_last_entry t calls place = get_or (raw_last_store t calls).entries place no_entry

-- no call answered an update at the place: 267 with this place for its third value
unfoldable pub RawNoneUpdates : ℕ → List RawCalled → Type 0
RawNoneUpdates place [] = Unit {0}
RawNoneUpdates place (raw_reads m ∷ calls) = (m.outcome.number ≡ 267 → get_or (raw_values m) 2 0 ≡ place → ⊥) × RawNoneUpdates place calls
RawNoneUpdates place (raw_passes p ∷ calls) = RawNoneUpdates place calls

-- the passing calls, in order
unfoldable pub raw_passing : List RawCalled → List Passed
raw_passing [] = []
raw_passing (raw_reads m ∷ calls) = raw_passing calls
raw_passing (raw_passes p ∷ calls) = p ∷ raw_passing calls

-- no call updated the place, and it holds what it held before the first one, less the time that passed
pub record RawNeverUpdated (t : Store) (calls : List RawCalled) (place : ℕ) : Type 0 where
  pub none : RawNoneUpdates place calls
  pub since : Since (raw_passing calls) (get_or t.entries place no_entry) (raw_last_entry t calls place)

-- this call was the last one to update the place, and the message that it ended is the update with the entry that stands there, less the time
-- that passed since
pub record RawLastUpdate (s : Session) (t : Store) (calls : List RawCalled) (place : ℕ) : Type 0 where
  pub before : List RawCalled
  pub call : RawMade
  pub after : List RawCalled
  pub among : calls ≡ before ++ (raw_reads call ∷ after)
  pub table : ℕ
  pub id : ℕ
  pub how : Commit
  pub told : ToldUpdate call table id place how
  pub last : RawNoneUpdates place after
  pub since : Since (raw_passing after) (get_or call.store.entries place no_entry) (raw_last_entry t calls place)
  -- with the record that this call got, and the table that it left
  pub message : UpdateMessage (raw_last_session s before) (answering (answer.Update table id place how) call) table id
      (get_or call.store.tables table no_table) (get_or call.store.entries place no_entry)
  -- how its entry came to the place, in the store that this call got
  pub placed : EntryPlaced (raw_last_store t before) table (get_or call.store.entries place no_entry) how place
  -- where it stood: among the bytes unfinished at the start and then all bytes that the calls took, behind these
  pub earlier : List ℕ
  pub stood : unfinished s ++ bytes_in (raw_taken calls) ≡ earlier ++ (raw_message (raw_last_session s before) call ++ bytes_in (raw_taken after))

-- every place of the store that a list of calls left, whatever record and store they started with, with no other writer between the calls
abbrev pub RawBytesOfEveryEntry : Type 0
RawBytesOfEveryEntry =
    (s : Session) (t : Store) (calls : List RawCalled) (place : ℕ) → RawChain s t calls → RawNeverUpdated t calls place ⊎ RawLastUpdate s t calls place

-- the answer of a definition: its number is 265, its value the table's place
pub record ToldTable (m : RawMade) (place : ℕ) : Type 0 where
  pub number : m.outcome.number ≡ 265
  pub values : raw_values m ≡ place ∷ []

-- the message that the call ended is a definition: its body is the encoding of the ID and of the table that the call left at the answered place,
-- and then ignored bytes; `TableDefined` says where the table went and what else the call left
pub record RawDefinition (s : Session) (t : Store) (m : RawMade) : Type 0 where
  pub place : ℕ
  pub told : ToldTable m place
  pub defined : TableDefined s t (answering (answer.Table place) m) place (binding_at m.session.connection place).id
      (get_or m.store.tables place no_table)

-- every call that answered a table, on any record and store
abbrev pub RawBytesOfDefinition : Type 0
RawBytesOfDefinition = (s : Session) (t : Store) (m : RawMade) → RawPromise s t m → m.outcome.number ≡ 265 → RawDefinition s t m

-- ---- any refused call, on any record and store, sound or not, leaves the store and the room past the reply as they were

-- "A call's 1, 4 and 2 take nothing and change nothing"
pub record RawNothingChanged (s : Session) (t : Store) (m : RawMade) : Type 0 where
  pub taken : m.outcome.taken ≡ 0
  pub count : m.outcome.reply_len ≡ 0
  pub session : m.session ≡ s
  pub store : m.store ≡ t
  pub room : m.final ≡ m.room

-- "From 10 up the record is closed with that number and its unfinished bytes are dropped."
pub record RawOnlyClosed (s : Session) (t : Store) (m : RawMade) : Type 0 where
  pub session : m.session ≡ holding s.sending (closed_with s.connection m.outcome.number) []
  pub store : m.store ≡ t
  pub reply : raw_reply m ≡ refusal_reply m.outcome.number
  pub room : drop m.outcome.reply_len m.final ≡ drop m.outcome.reply_len m.room

-- "No refusal is given in any other case.": a number below 256 is 1, 2 or 4, or one that closes
abbrev pub RawRefusedCall : Session → Store → RawMade → Type 0
RawRefusedCall s t m =
    let n = m.outcome.number in
    (((n ≡ 1) ⊎ ((n ≡ 2) ⊎ (n ≡ 4))) × RawNothingChanged s t m) ⊎ ((closes n ≡ true) × RawOnlyClosed s t m)

-- the numbers below 256 are the refusals
abbrev pub RawRefusedUntouched : Type 0
RawRefusedUntouched = (s : Session) (t : Store) (m : RawMade) → RawPromise s t m → m.outcome.number < 256 → RawRefusedCall s t m

-- "A call tests 1, then 4, then 2": which of them comes, of every call, refused or not
abbrev pub RawTestsInOrder : Type 0
RawTestsInOrder = (s : Session) (t : Store) (m : RawMade) → RawPromise s t m → TestedInOrder s t (length m.room) m.outcome.number

pub record RawUntouched (t : Store) (m : RawMade) : Type 0 where
  pub store : m.store ≡ t
  pub room : drop m.outcome.reply_len m.final ≡ drop m.outcome.reply_len m.room

-- the store is the very store that came for every number but 265, a table, and 267, an update
abbrev pub RawOthersUntouched : Type 0
RawOthersUntouched =
    (s : Session) (t : Store) (m : RawMade) → RawPromise s t m → (m.outcome.number ≡ 265 → ⊥) → (m.outcome.number ≡ 267 → ⊥) → RawUntouched t m

-- ---- request 10: "Say where the body broke.", of any refused call, on any record and store, sound or not

-- "refusals 23, 24 and 30 give the offset in the body, from 0, at which the failing field starts": it is their only value, and the message that the
-- call ended has a body with a field that fails there. No other refusal has a value
abbrev pub RawBodyBroke : Type 0
RawBodyBroke =
    (s : Session) (t : Store) (m : RawMade) → RawPromise s t m → m.outcome.number < 256
    → OffsetGiven s.connection t (raw_message s m) m.outcome.number (raw_values m)

-- ---- the counts after any call, on any record and store, sound or not

-- request 9: a new entry adds one to its table; every other answer leaves the counts. 267 is an update's number, its first value the table's
-- place, its fourth 0 for new
unfoldable pub raw_counts : ℕ → List ℕ → List ℕ → List ℕ
raw_counts number values counts = cond (eqb number 267 && eqb (get_or values 3 0) 0) (raised (get_or values 0 0) counts) counts

abbrev pub RawCountsKept : Type 0
RawCountsKept = (s : Session) (t : Store) (m : RawMade) → RawPromise s t m → m.store.counts ≡ raw_counts m.outcome.number (raw_values m) t.counts

-- ---- request 9: "kept right by every call on a sound store"

-- a store that a call left: sound, and each count is the number that walking finds. It has the shape of its type, so that other calls may start with it
pub record KeptStore (t : Store) : Type 0 where
  pub sound : sound_store t ≡ true
  pub counts : t.counts ≡ counts_of t.entries
  pub shape : StoreShape t

-- whatever the record holds, sound or not, and whatever was answered
abbrev pub RawStoreSound : Type 0
RawStoreSound = (s : Session) (t : Store) (m : RawMade) → RawPromise s t m → sound_store t ≡ true → KeptStore m.store

-- ---- a refused opening, in either role, with any names and any room

-- "1 and 3 in opening return a closed record with that number, all else empty or zero, .. and write nothing"
pub record RawRefusedOpening (o : RawOpened) (before after : List ℕ) : Type 0 where
  pub taken : o.outcome.taken ≡ 0
  pub number : (o.outcome.number ≡ 1) ⊎ (o.outcome.number ≡ 3)
  pub session : o.session ≡ refused_opening o.outcome.number
  pub count : o.outcome.reply_len ≡ 0
  pub room : after ≡ before

-- the premises on o and `final` are what `peers_open_answerer` and `peers_open_caller` ensure
abbrev pub RawRefusedOpeningUntouched : Type 0
RawRefusedOpeningUntouched =
    (role : Role) (local remote room final : List ℕ) (o : RawOpened) → o ≡ raw_opened (opened_of («open» role local remote (length room)))
    → final ≡ open_room role local remote room → o.outcome.number < 256 → RawRefusedOpening o room final

-- ---- several records and one store

-- a call on one record leaves every other record sound with the store
abbrev pub RawOtherRecordsSound : Type 0
RawOtherRecordsSound =
    (s : Session) (t : Store) (m : RawMade) (other : Session) → RawPromise s t m → sound other t ≡ true → sound other m.store ≡ true

-- ---- a call that passes time, on any store, sound or not: `peers_pass_time` promises `PassPromise`, of which these are said

-- "removed places are cleared and used again as the lowest free": the place is the empty store's, the lowest free one isn't above it, and an entry
-- whose key isn't held goes to that one
pub record FreedPlace (t : Store) (place : ℕ) : Type 0 where
  pub cleared : get_or t.entries place no_entry ≡ no_entry
  pub free : entry_free (get_or t.entries place no_entry) ≡ true
  pub lowest : ℕ
  pub next : free_entry t ≡ Some lowest
  pub not-above : lowest ≤ place
  pub used : (e : Entry) → first_place (keyed_as e) t.entries ≡ None → goes_to t.entries e ≡ places.Free lowest

pub record PassingCalls : Type 0 where
  -- "passing time gives 4 on an unsound store, unchanged, else 0"
  pub refused : RefusedPassUntouched
  -- every record that was sound with the store is sound with it afterwards
  pub records : PassedRecordsSound
  -- and without a record: request 9's "kept right by every call on a sound store"
  pub sound : (t : Store) (p : Passed) → PassPromise t p → sound_store t ≡ true → KeptStore p.store
  -- where 0 is returned, each held entry "with at most e remaining" has left its place free
  pub freed : (t : Store) (p : Passed) (place : ℕ) → PassPromise t p → p.number ≡ 0 → entry_timed (get_or t.entries place no_entry) ≡ true
      → (get_or t.entries place no_entry).remaining ≤ p.milliseconds → FreedPlace p.store place
  -- "Passing a and then b leaves what passing a + b leaves, where the sum fits 32 bits."
  pub twice : PassedTwice

-- ---- request 3: the sending state

-- a reading call, also one that closes, leaves the sending state as it was, on any record and store
abbrev pub RawSendingStays : Type 0
RawSendingStays = (s : Session) (t : Store) (m : RawMade) → RawPromise s t m → m.session.sending ≡ s.sending
