-- What follows from the promise and from demand 3, in the auditor's words.
use Rattle.std.specs.Prelude.{ℕ, ◌+◌, ◌-◌, ◌≤◌, ◌<◌, ◌^◌, ◌≡◌, ◌⊎◌, Bool, true, false, cond, ◌&&◌, ◌||◌, length, take, drop, get_or, eqb, leb, ltb, None, Option, Some}
use mathlib.Core.List.{List, [], ◌∷◌, ◌++◌, map, flatten}
use Rattle.std.proofs.Math.Option.{some}
use Rattle.lists.specs.Lists.{every}
use Rattle.store.specs.declared.Table.{Table}
use Rattle.store.specs.declared.Store.{Store}
use Rattle.store.specs.Store.{counts_of, find_table, find_entry, free_table, free_entry, make_entry, no_entry, no_table}
use Rattle.store.specs.Sound.{sound_store}
use Rattle.store.specs.Time.{pass_time, Passed, PassPromise}
use Rattle.frame.specs.declared.Frame.TheVariants as frame
use Rattle.frame.specs.Frame.{definition_type, switch_type, acknowledgement_type, judge_frame}
use Rattle.session.specs.declared.Session.{Session}
use Rattle.session.specs.declared.Connection.{Connection}
use Rattle.session.specs.declared.Commit.{Commit}
use Rattle.session.specs.declared.Commit.TheVariants as commit
use Rattle.session.specs.declared.Sending.{Sending}
use Rattle.session.specs.declared.Answer.{Answer}
use Rattle.session.specs.declared.Answer.TheVariants as answer
use Rattle.session.specs.Answers.{refusal_of, refusal_reply, answer_number, answer_values}
use Rattle.session.specs.Session.{unfinished, binding_at, is_updated, is_closed, holding, closed_with, with_sending}
use Rattle.session_soundness.specs.Sound.{sound}
use Rattle.opening.specs.Opening.{Role, refused_opening, «open», open_room}
use Rattle.body.specs.declared.update.Form.{Form}
use Rattle.body.specs.declared.Fault.{Fault}
use Rattle.body.specs.Fields.{Read, got, failed, span_in}
use Rattle.body.specs.declared.update.Update.{Update}
use Rattle.body.specs.Bodies.{update_fields, form_of, definition_fields, switch_fields, acknowledgement_fields}
use Rattle.body.specs.Breaks.{Sized, none_sized, definition_sized, acknowledgement_sized, update_sized, Broke}
use Rattle.message.specs.Effects.{acknowledge, agrees, following_id, failure_number}
use Rattle.streams.specs.Model.{Item, bytes}
use Rattle.streams.specs.Calls.{Call, pieces, reachable}
use Rattle.receiver.specs.Model.{State, Event, held_by, reply_room, is_byte, peers}
use Rattle.receiver.specs.Promise.{Made, Shaped, ReadPromise, call_of, session_of}
use Rattle.receiver.specs.Ledger.{is_acknowledgement}
use Rattle.receiver.specs.Demand3.{Called, reads, Chain, OffersTo, Offering, taken_by, model_ran, came_to, last_session, last_store, replies_of, reply_in}

-- ---- "would another division of the same traffic by TCP have left another table?"

-- two lists of calls that offer one stream, the same bytes and the same times at the same positions, from one record and store come to the same
-- answers, replies, record and store
pub record SameByAnyDivision (s : Session) (t : Store) (stream : List (Item Event)) (calls others : List Called) : Type 0 where
  pub came : came_to s t calls ≡ came_to s t others
  pub store : last_store t calls ≡ last_store t others
  pub session : last_session s calls ≡ last_session s others
  pub replies : replies_of calls ≡ replies_of others

abbrev pub AnyDivision : Type 0
AnyDivision =
    (s : Session) (t : Store) (stream : List (Item Event)) (calls others : List Called) → sound s t ≡ true → Chain s t calls → Chain s t others
    → OffersTo s stream calls → OffersTo s stream others → SameByAnyDivision s t stream calls others

-- a list of calls offers no stream but those for which one exists by demand 3
abbrev pub OfferedReachable : Type 0
OfferedReachable =
    (s : Session) (t : Store) (stream : List (Item Event)) (calls : List Called) → sound s t ≡ true → Chain s t calls → OffersTo s stream calls
    → reachable peers (held_by s t) stream ≡ true

-- ---- a stream of bytes alone, without times

-- for every cutting there is a list of calls, and every list that offers it is of reading calls
abbrev pub BytesOffered : Type 0
BytesOffered =
    (s : Session) (t : Store) → sound s t ≡ true → Shaped s t → (cuts : List (List ℕ)) (room : List ℕ) → every (every is_byte) cuts ≡ true
    → reply_room ≤ length room → Offering s t (pieces cuts) room

abbrev pub BytesByReading : Type 0
BytesByReading = (s : Session) (stream : List ℕ) (calls : List Called) → OffersTo s (bytes stream) calls → (ms : List Made) × (calls ≡ map reads ms)

-- the record at the end
abbrev pub BytesRecord : Type 0
BytesRecord =
    (s : Session) (t : Store) (stream : List ℕ) (calls : List Called) → sound s t ≡ true → Chain s t calls → OffersTo s (bytes stream) calls
    → last_session s calls
    ≡ (let end = (model_ran s t (bytes stream)).state in
    cond (eqb (length stream) 0 || is_closed s.connection) s (holding s.sending end.connection end.unfinished))

-- the bytes that reading calls took are their timeline
abbrev pub ReadingTakes : Type 0
ReadingTakes = (ms : List Made) → taken_by (map reads ms) ≡ bytes (flatten (map (λ (m : Made). take m.outcome.taken m.piece) ms))

-- ---- "which entries did you hold when this acknowledgement went out?"

-- the message that a call ended: the record's unfinished bytes and the bytes taken
abbrev pub message_of : Session → Made → List ℕ
message_of s m = unfinished s ++ take m.outcome.taken m.piece

-- the fields of an update of this form for the table at a place
abbrev pub fields_of : Connection → Store → ℕ → Form → List ℕ → Read Update
fields_of c t table form body = update_fields form (get_or t.tables table no_table) (following_id (binding_at c table).previous) body

-- "A known table and key has its values replaced. Otherwise the entry takes the lowest free place.": in the store that came, `held` is the first
-- place with this table and key, and `free` the lowest free one
unfoldable pub EntryWent : Commit → (place : ℕ) (held free : (Option ℕ)) → Type 0
EntryWent commit.Replaced place held free = held ≡ Some place
EntryWent commit.New place held free = (held ≡ None) × (free ≡ Some place)

-- the store that the call left holds the entry with the message's key and values and its remaining time, and else what it held before, with
-- the counts of its entries; the entry replaced the one that was held with its table and key, or took the lowest free place; the reply is the
-- acknowledgement of this update with the table's ID
pub record EntryHeld (s : Session) (t : Store) (m : Made) : Type 0 where
  pub table : ℕ
  pub id : ℕ
  pub place : ℕ
  pub how : Commit
  pub answer : m.outcome.answer ≡ answer.Update table id place how
  pub kind : ℕ
  pub start : ℕ
  pub end : ℕ
  pub framed : judge_frame (message_of s m) ≡ frame.Body kind start end
  pub form : Form
  pub type : form_of kind ≡ some form
  pub current : s.connection.current ≡ table + 1
  pub body : List ℕ
  pub body_is : body ≡ take (end - start) (drop start (message_of s m))
  pub fields : Update
  pub after : ℕ
  pub read : fields_of s.connection t table form body ≡ got fields after
  pub own-id : fields.id ≡ id
  pub holds : get_or m.store.entries place no_entry
      ≡ make_entry table (span_in body fields.key) fields.server fields.time.timed fields.time.remaining fields.values
  pub went : EntryWent how place (find_entry t table (span_in body fields.key)) (free_entry t)
  pub others : (i : ℕ) → (i ≡ place → ⊥) → get_or m.store.entries i no_entry ≡ get_or t.entries i no_entry
  pub tables : m.store.tables ≡ t.tables
  -- request 9: "kept right by every call on a sound store"
  pub counts : m.store.counts ≡ counts_of m.store.entries
  pub reply : reply_in m ≡ acknowledge (binding_at s.connection table).id id

abbrev pub HeldWhenAcknowledged : Type 0
HeldWhenAcknowledged = (s : Session) (t : Store) (m : Made) → ReadPromise s t m → is_acknowledgement (reply_in m) ≡ true → EntryHeld s t m

-- an acknowledgement is told as one and, read as a message, says its ID and its update ID
pub record ReadBack (id update : ℕ) : Type 0 where
  pub told : is_acknowledgement (acknowledge id update) ≡ true
  pub end : ℕ
  pub whole : end ≡ length (acknowledge id update)
  pub framed : judge_frame (acknowledge id update) ≡ frame.Body acknowledgement_type 3 end
  pub fields : acknowledgement_fields (take (end - 3) (drop 3 (acknowledge id update))) ≡ got (record { id = id; update = update }) (end - 3)

abbrev pub AcknowledgementReadBack : Type 0
AcknowledgementReadBack = (id update : ℕ) → id < 2 ^ 32 → update < 2 ^ 32 → ReadBack id update

-- ---- where a definition's table goes

-- "A name not held takes the lowest free of 8 table places. A held name must agree in key type, key length and data types": in the store that came
pub data TableWent (t : Store) (name : List ℕ) (new : Table) (place : ℕ) : Type 0 where
  held_name : find_table t name ≡ Some place → agrees (get_or t.tables place no_table) new ≡ true → TableWent t name new place
  new_name : find_table t name ≡ None → free_table t ≡ Some place → TableWent t name new place

-- ---- any refused call, on any record and store, sound or not, leaves the store and the room past the reply as they were

-- the refusals that close the session: the table's from 10 up, and request 8's 30; opening's 1 and 3 aside
unfoldable pub closes : ℕ → Bool
closes n = (leb 10 n && leb n 15) || (leb 20 n && leb n 30)

-- "A call's 1, 4 and 2 take nothing and change nothing"
pub record NothingChanged (s : Session) (t : Store) (m : Made) : Type 0 where
  pub taken : m.outcome.taken ≡ 0
  pub count : m.outcome.reply_len ≡ 0
  pub session : m.session ≡ s
  pub store : m.store ≡ t
  pub room : m.final ≡ m.room

-- "From 10 up the record is closed with that number and its unfinished bytes are dropped."
pub record OnlyClosed (s : Session) (t : Store) (m : Made) (n : ℕ) : Type 0 where
  pub session : m.session ≡ holding s.sending (closed_with s.connection n) []
  pub store : m.store ≡ t
  pub reply : reply_in m ≡ refusal_reply n
  pub room : drop m.outcome.reply_len m.final ≡ drop m.outcome.reply_len m.room

-- "No refusal is given in any other case.": the number is 1, 2 or 4, or one that closes
abbrev pub RefusedCall : Session → Store → Made → ℕ → Type 0
RefusedCall s t m n =
    (((n ≡ 1) ⊎ ((n ≡ 2) ⊎ (n ≡ 4))) × NothingChanged s t m) ⊎ ((closes n ≡ true) × OnlyClosed s t m n)

abbrev pub RefusedUntouched : Type 0
RefusedUntouched = (s : Session) (t : Store) (m : Made) (n : ℕ) → ReadPromise s t m → refusal_of m.outcome.answer ≡ some n → RefusedCall s t m n

-- "A call tests 1, then 4, then 2": room under 12, a record or store that isn't sound, a closed session. Each of these numbers is given where its
-- test is the first that fails, and nowhere else
abbrev pub TestedInOrder : Session → Store → (room number : ℕ) → Type 0
TestedInOrder s t room n =
    cond (ltb room reply_room) (n ≡ 1)
    (cond (sound s t)
    (cond (is_closed s.connection) (n ≡ 2) ((n ≡ 1 → ⊥) × ((n ≡ 4 → ⊥) × (n ≡ 2 → ⊥))))
    (n ≡ 4))

-- of every call, refused or not
abbrev pub TestsInOrder : Type 0
TestsInOrder = (s : Session) (t : Store) (m : Made) → ReadPromise s t m → TestedInOrder s t (length m.room) (answer_number m.outcome.answer)

pub record Untouched (t : Store) (m : Made) : Type 0 where
  pub store : m.store ≡ t
  pub room : drop m.outcome.reply_len m.final ≡ drop m.outcome.reply_len m.room

-- the store is the very store that came for every answer but a table or an update
abbrev pub OthersUntouched : Type 0
OthersUntouched =
    (s : Session) (t : Store) (m : Made) → ReadPromise s t m → ((place : ℕ) → m.outcome.answer ≡ answer.Table place → ⊥)
    → ((table id place : ℕ) (how : Commit) → m.outcome.answer ≡ answer.Update table id place how → ⊥) → Untouched t m

-- ---- request 10: "Say where the body broke."

-- "refusals 23, 24 and 30 give the offset"
unfoldable pub gives_offset : ℕ → Bool
gives_offset n = eqb n 23 || (eqb n 24 || eqb n 30)

-- reading these fields of the body fails by f, whose failure is the reason. `Broke` says where: all before the offset is read; by 23 the body ends
-- inside the field that starts there, by 24 and 30 that field is whole and decides
abbrev pub FailsBy : {A : Type 0} → (List ℕ → Read A) → Sized → List ℕ → Fault → Type 0
FailsBy fields sized body f = (fields body ≡ failed f) × Broke fields sized body f

-- a field of the body fails, by the message's type. An update is one of the current table, and an incremental one has a previous ID: "In an update 27
-- comes first, then 28, then fields"
pub data FieldFails (c : Connection) (t : Store) (kind : ℕ) (body : List ℕ) (f : Fault) : Type 0 where
  in_definition : kind ≡ definition_type → FailsBy definition_fields definition_sized body f → FieldFails c t kind body f
  in_switch : kind ≡ switch_type → FailsBy switch_fields none_sized body f → FieldFails c t kind body f
  in_acknowledgement : kind ≡ acknowledgement_type → FailsBy acknowledgement_fields acknowledgement_sized body f → FieldFails c t kind body f
  in_update : (form : Form) (table : ℕ) → form_of kind ≡ some form → c.current ≡ table + 1
      → (form.explicit ≡ false → is_updated (binding_at c table) ≡ true)
      → FailsBy (fields_of c t table form) (update_sized form (get_or t.tables table no_table)) body f → FieldFails c t kind body f

-- the message is one with a body; a field of it fails; the number is that of the failure, and "the offset in the body, from 0, at which the
-- failing field starts" is the only value
pub record BodyBroke (c : Connection) (t : Store) (message : List ℕ) (number : ℕ) (values : List ℕ) : Type 0 where
  pub kind : ℕ
  pub start : ℕ
  pub end : ℕ
  pub framed : judge_frame message ≡ frame.Body kind start end
  pub body : List ℕ
  pub body_is : body ≡ take (end - start) (drop start message)
  pub fault : Fault
  pub number_is : number ≡ failure_number fault.failure
  pub offset : values ≡ fault.start ∷ []
  pub fails : FieldFails c t kind body fault

-- of a refusal with this number and these values: 23, 24 and 30 have the offset of a field of this message's body, every other number has no value
abbrev pub OffsetGiven : Connection → Store → List ℕ → ℕ → List ℕ → Type 0
OffsetGiven c t message number values = cond (gives_offset number) (BodyBroke c t message number values) (values ≡ [])

abbrev pub RefusedAtField : Type 0
RefusedAtField =
    (s : Session) (t : Store) (m : Made) (n : ℕ) → ReadPromise s t m → refusal_of m.outcome.answer ≡ some n
    → OffsetGiven s.connection t (message_of s m) n (answer_values m.outcome.answer)

-- ---- a refused opening

-- "1 and 3 in opening return a closed record with that number, all else empty or zero, .. and write nothing"
pub record RefusedOpening (role : Role) (local remote before : List ℕ) (n : ℕ) : Type 0 where
  pub number : (n ≡ 1) ⊎ (n ≡ 3)
  pub session : («open» role local remote (length before)).session ≡ refused_opening n
  pub reply : («open» role local remote (length before)).reply ≡ []
  pub room : open_room role local remote before ≡ before

abbrev pub RefusedOpeningUntouched : Type 0
RefusedOpeningUntouched =
    (role : Role) (local remote room : List ℕ) (n : ℕ) → refusal_of («open» role local remote (length room)).answer ≡ some n
    → RefusedOpening role local remote room n

-- ---- "a definition gives this paper's number and values for each of the enum's cases"

-- two calls' answers with the same number and values are the same
abbrev pub AnswersByNumber : Type 0
AnswersByNumber =
    (s : Session) (t : Store) (m : Made) (s' : Session) (t' : Store) (m' : Made) → ReadPromise s t m → ReadPromise s' t' m'
    → answer_number m.outcome.answer ≡ answer_number m'.outcome.answer → answer_values m.outcome.answer ≡ answer_values m'.outcome.answer
    → m.outcome.answer ≡ m'.outcome.answer

-- ---- several records and one store

-- a call on one record leaves every other record sound with the store
abbrev pub OtherRecordsSound : Type 0
OtherRecordsSound =
    (s : Session) (t : Store) (m : Made) (other : Session) → ReadPromise s t m → sound other t ≡ true → sound other m.store ≡ true

-- a call that passes time leaves every record sound with the store
abbrev pub PassedRecordsSound : Type 0
PassedRecordsSound = (t : Store) (p : Passed) (other : Session) → PassPromise t p → sound other t ≡ true → sound other p.store ≡ true

-- ---- a call that passes time, on any store, sound or not

-- "passing time gives 4 on an unsound store, unchanged, else 0"
pub record PassedOrRefused (t : Store) (p : Passed) : Type 0 where
  pub number : (p.number ≡ 0) ⊎ (p.number ≡ 4)
  pub sound : sound_store t ≡ true → p.number ≡ 0
  pub unsound : sound_store t ≡ false → p.number ≡ 4
  pub passed : p.number ≡ 0 → p.store ≡ pass_time p.milliseconds t
  pub refused : p.number ≡ 4 → p.store ≡ t

abbrev pub RefusedPassUntouched : Type 0
RefusedPassUntouched = (t : Store) (p : Passed) → PassPromise t p → PassedOrRefused t p

-- ---- request 3: reading and the sending state

-- a reading call, also one that closes, leaves the sending state as it was, on any record and store
abbrev pub SendingStays : Type 0
SendingStays = (s : Session) (t : Store) (m : Made) → ReadPromise s t m → m.session.sending ≡ s.sending

-- what reading uses of the record is all but `sending`. With another one, where the record is sound too, a call comes to the same,
-- and the record that it leaves differs in nothing else
pub record SameRead (s : Session) (t : Store) (x : Sending) (piece : List ℕ) (room : ℕ) : Type 0 where
  pub call : call_of (with_sending s x) t piece room ≡ call_of s t piece room
  pub session : (c : Call State Answer) → session_of (with_sending s x) c ≡ with_sending (session_of s c) x

abbrev pub ReadsAlike : Type 0
ReadsAlike =
    (s : Session) (t : Store) (x : Sending) (piece : List ℕ) (room : ℕ) → sound s t ≡ true → sound (with_sending s x) t ≡ true
    → SameRead s t x piece room
