-- Several connections and one store: "one session record per connection", and one store that is lent to the calls of all of them. A list of steps
-- of such a host, each a call of `peers_read`, `peers_send_definition` or `peers_send_entry` on one of its records or a call of `peers_pass_time`, in
-- any order.
use Rattle.std.specs.Prelude.{ℕ, ◌^◌, ◌≡◌, ◌⊎◌, List, [], ◌∷◌, ◌++◌, map, Bool, true, cond, ◌&&◌, length, get_or, ltb, eqb}
use Rattle.lists.specs.Lists.{every}
use Rattle.store.specs.declared.Entry.{Entry}
use Rattle.store.specs.declared.Store.{Store}
use Rattle.store.specs.Store.{no_entry, no_table}
use Rattle.store.specs.Sound.{sound_store}
use Rattle.store.specs.Time.{Passed, PassPromise}
use Rattle.session.specs.declared.Sending.{Sending}
use Rattle.session.specs.declared.Session.{Session}
use Rattle.session.specs.declared.Commit.{Commit}
use Rattle.session.specs.declared.Answer.TheVariants as answer
use Rattle.session.specs.Session.{unfinished, with_sending}
use Rattle.session_soundness.specs.Sound.{sound}
use Rattle.opening.specs.Opening.{Role, «open», opened_of}
use Rattle.sending.specs.Sending as send
use Rattle.streams.specs.Model.{bytes_in}
use Rattle.receiver.specs.Model.{is_byte, is_time}
use Rattle.receiver.specs.Promise.{Shaped}
use Rattle.receiver.specs.Ledger.{start_ledger}
use Rattle.receiver.specs.Demand3.{PassAsModel}
use Rattle.message_bytes.specs.MessageBytes.{UpdateMessage, EntryPlaced}
use Rattle.message_bytes.specs.LastUpdates.{Since}
use Rattle.peers.specs.declared.numbers.RawOpened.{RawOpened}
use Rattle.peers.specs.Numbers.{raw_opened}
use Rattle.peers.specs.Reading.{RawMade, RawPromise}
use Rattle.peers.specs.Sending.{RawSendMade, RawSendPromise}
use Rattle.peers.specs.ExportedDemand3.{RawCalled, raw_reads, raw_passes, raw_values, raw_taken, raw_last_session, RawCallAsModel, RawAcknowledgedCalls}
use Rattle.peers.specs.ExportedCorollaries.{raw_message, ToldUpdate, answering}

-- ---- the steps

-- the record of each connection, by the connection's number. One that is opened later stands here from the start: no step but its own touches it
abbrev pub Records : Type 0
Records = ℕ → Session

-- one step of a host: a call that reads or sends on the record of this connection, or one that passes time on the store alone
pub data HostStep : Type 0 where
  reads : (connection : ℕ) (call : RawMade) → HostStep
  sends : (connection : ℕ) (call : RawSendMade) → HostStep
  passes : (call : Passed) → HostStep

-- the records after a step: the call's own is as the call left it, the others stay as they are, and all do where time passes
unfoldable pub records_after : Records → HostStep → Records
records_after records (reads k m) = λ i. cond (eqb k i) m.session (records i)
records_after records (sends k m) = λ i. cond (eqb k i) m.session (records i)
records_after records (passes p) = records

-- the store after a step: a sending call leaves it
unfoldable pub store_after : Store → HostStep → Store
store_after t (reads k m) = m.store
store_after t (sends k m) = t
store_after t (passes p) = p.store

-- a call kept its promise, with its record and the store as they stood
unfoldable pub KeptStep : Records → Store → HostStep → Type 0
KeptStep records t (reads k m) = RawPromise (records k) t m
KeptStep records t (sends k m) = RawSendPromise (records k) t m
KeptStep records t (passes p) = PassPromise t p

-- each step did, and got the records and the store that the last one left
unfoldable pub Interleaved : Records → Store → List HostStep → Type 0
Interleaved records t [] = Unit {0}
Interleaved records t (p ∷ steps) = KeptStep records t p × Interleaved (records_after records p) (store_after t p) steps

-- records and store at the end
unfoldable pub last_records : Records → List HostStep → Records
last_records records [] = records
last_records records (p ∷ steps) = last_records (records_after records p) steps

unfoldable pub shared_store : Store → List HostStep → Store
shared_store t [] = t
shared_store t (p ∷ steps) = shared_store (store_after t p) steps

-- ---- one connection among the others

-- a step's call, before these calls, where it reads on the connection's own record; time passes for every connection
unfoldable pub own_call : ℕ → HostStep → List RawCalled → List RawCalled
own_call i (reads k m) calls = cond (eqb k i) (raw_reads m ∷ calls) calls
own_call i (sends k m) calls = calls
own_call i (passes p) calls = raw_passes p ∷ calls

-- a connection's reading calls and those that pass time, in order: the others' calls and all that send left out
unfoldable pub calls_of : ℕ → List HostStep → List RawCalled
calls_of i [] = []
calls_of i (p ∷ steps) = own_call i p (calls_of i steps)

-- a call met a sound record and store, gave the numbers and the reply that the byte model says of that record and that store, and not 4
pub record SoundCall (s : Session) (t : Store) (m : RawMade) : Type 0 where
  pub sound : sound s t ≡ true
  pub model : RawCallAsModel s t m
  pub never-4 : m.outcome.number ≡ 4 → ⊥

-- a call that passes time returned 0 and left the store that the byte model says, and the record, sound before, sound with it
pub record SoundPass (s : Session) (t : Store) (p : Passed) : Type 0 where
  pub model : PassAsModel t p
  pub after : sound s p.store ≡ true
  pub sound : sound s t ≡ true

-- a sending call met a sound record and store, left all of the record that reading uses as it was, and the record sound
pub record SoundSend (s : Session) (t : Store) (m : RawSendMade) : Type 0 where
  pub session : with_sending m.session s.sending ≡ s
  pub after : sound m.session t ≡ true
  pub never-4 : m.outcome.number ≡ 4 → ⊥
  pub sound : sound s t ≡ true

-- such a call where the step is the connection's own, or passes time; of another's call nothing is said
unfoldable pub OwnStep : ℕ → Session → Store → HostStep → Type 0
OwnStep i s t (reads k m) = cond (eqb k i) (SoundCall s t m) (Unit {0})
OwnStep i s t (sends k m) = cond (eqb k i) (SoundSend s t m) (Unit {0})
OwnStep i s t (passes p) = SoundPass s t p

-- the connection's record after a step: of another's step, and where time passes, the same
unfoldable pub own_after : ℕ → Session → HostStep → Session
own_after i s (reads k m) = cond (eqb k i) m.session s
own_after i s (sends k m) = cond (eqb k i) m.session s
own_after i s (passes p) = s

unfoldable pub last_own : ℕ → Session → List HostStep → Session
last_own i s [] = s
last_own i s (p ∷ steps) = last_own i (own_after i s p) steps

-- each of a connection's calls, and each that passes time, is such a call: with the record that the connection's own last call left, and the store
-- as it stood
unfoldable pub EachOwnCall : ℕ → Session → Store → List HostStep → Type 0
EachOwnCall i s t [] = Unit {0}
EachOwnCall i s t (p ∷ steps) = OwnStep i s t p × EachOwnCall i (own_after i s p) (store_after t p) steps

-- what holds of the connection with number i, whatever calls the others make
pub record AmongOthers (records : Records) (t : Store) (steps : List HostStep) (i : ℕ) : Type 0 where
  pub each : EachOwnCall i (records i) t steps
  -- its record at the end is the one that its own last call left, and without a call the one that it had
  pub own : last_records records steps i ≡ last_own i (records i) steps
  -- and, but for `sending`, the one that its last reading call left
  pub read-last : (x : Sending) → with_sending (last_records records steps i) x ≡ with_sending (raw_last_session (records i) (calls_of i steps)) x
  -- each acknowledgement carries its table's bound ID and its last committed update ID, by the ledger of this connection's messages alone
  pub acknowledged : RawAcknowledgedCalls (start_ledger (records i).connection) (unfinished (records i)) (calls_of i steps)
  -- its record is sound with the store at the end
  pub sound : sound (last_records records steps i) (shared_store t steps) ≡ true

-- every connection whose record is sound with the store at the start, whether the others' are or not
abbrev pub EveryConnection : Type 0
EveryConnection =
    (records : Records) (t : Store) (steps : List HostStep) (i : ℕ) → Interleaved records t steps → sound (records i) t ≡ true → AmongOthers records t steps i

-- from where a connection starts: a record that `peers_open_answerer` or `peers_open_caller` gave, and any sound store
abbrev pub EveryOpenedConnection : Type 0
EveryOpenedConnection =
    (records : Records) (t : Store) (steps : List HostStep) (i : ℕ) (role : Role) (local remote room : List ℕ) (o : RawOpened)
    → o ≡ raw_opened (opened_of («open» role local remote (length room))) → records i ≡ o.session → sound_store t ≡ true → Interleaved records t steps
    → AmongOthers records t steps i

-- ---- in any order

-- what a host asks for: a call of this connection, with this piece and this reply room, or that these milliseconds pass
pub data Asked : Type 0 where
  to_read : (connection : ℕ) (piece room : List ℕ) → Asked
  to_send : (connection : ℕ) (asked : send.Asked) (room : List ℕ) → Asked
  to_pass : (milliseconds : ℕ) → Asked

unfoldable pub asked_by : HostStep → Asked
asked_by (reads k m) = to_read k m.piece m.room
asked_by (sends k m) = to_send k m.asked m.room
asked_by (passes p) = to_pass p.milliseconds

-- a piece of bytes, a place of 64 bits and an ID of 32, or 32-bit milliseconds
unfoldable pub askable : Asked → Bool
askable (to_read k piece room) = every is_byte piece
askable (to_send k (send.definition place id) room) = ltb place (2 ^ 64) && ltb id (2 ^ 32)
askable (to_send k (send.entry place id) room) = ltb place (2 ^ 64) && ltb id (2 ^ 32)
askable (to_pass e) = is_time e

-- steps that do what was asked, in that order
pub record InOrder (records : Records) (t : Store) (asked : List Asked) : Type 0 where
  pub steps : List HostStep
  pub kept : Interleaved records t steps
  pub order : map asked_by steps ≡ asked

-- such steps exist for every order of the connections, any pieces, any rooms, any times between them. A number without a connection may have any sound
-- record, as a refused opening's
abbrev pub InAnyOrder : Type 0
InAnyOrder =
    (records : Records) (t : Store) (asked : List Asked) → ((i : ℕ) → Shaped (records i) t) → ((i : ℕ) → sound (records i) t ≡ true)
    → every askable asked ≡ true → InOrder records t asked

-- ---- "which bytes stood for this counter?", of the one store

-- the entry at a place of the store at the end
abbrev pub shared_entry : Store → List HostStep → ℕ → Entry
shared_entry t steps place = get_or (shared_store t steps).entries place no_entry

-- a step didn't answer an update at the place: 267 with this place for its third value
unfoldable pub UpdatesNot : ℕ → HostStep → Type 0
UpdatesNot place (reads k m) = m.outcome.number ≡ 267 → get_or (raw_values m) 2 0 ≡ place → ⊥
UpdatesNot place (sends k m) = Unit {0}
UpdatesNot place (passes p) = Unit {0}

unfoldable pub NoStepUpdates : ℕ → List HostStep → Type 0
NoStepUpdates place [] = Unit {0}
NoStepUpdates place (p ∷ steps) = UpdatesNot place p × NoStepUpdates place steps

-- the steps that pass time, in order
unfoldable pub times_of : List HostStep → List Passed
times_of [] = []
times_of (reads k m ∷ steps) = times_of steps
times_of (sends k m ∷ steps) = times_of steps
times_of (passes p ∷ steps) = p ∷ times_of steps

-- no step of any connection updated the place, and it holds what it held at the start, less the time that passed
pub record NeverTouched (t : Store) (steps : List HostStep) (place : ℕ) : Type 0 where
  pub none : NoStepUpdates place steps
  pub since : Since (times_of steps) (get_or t.entries place no_entry) (shared_entry t steps place)

-- this connection's call was the last step to update the place, and the message that it ended is the update with the entry that stands there, less
-- the time that passed since
pub record LastStep (records : Records) (t : Store) (steps : List HostStep) (place : ℕ) : Type 0 where
  pub before : List HostStep
  pub connection : ℕ
  pub call : RawMade
  pub after : List HostStep
  pub among : steps ≡ before ++ (reads connection call ∷ after)
  pub table : ℕ
  pub id : ℕ
  pub how : Commit
  pub told : ToldUpdate call table id place how
  pub last : NoStepUpdates place after
  pub since : Since (times_of after) (get_or call.store.entries place no_entry) (shared_entry t steps place)
  -- with the record that this call got, and the table that it left
  pub message : UpdateMessage (last_records records before connection) (answering (answer.Update table id place how) call) table id
      (get_or call.store.tables table no_table) (get_or call.store.entries place no_entry)
  -- how its entry came to the place, in the store that this call got
  pub placed : EntryPlaced (shared_store t before) table (get_or call.store.entries place no_entry) how place
  -- where it stood: among this connection's bytes, those unfinished at the start and then all that its calls took, behind these
  pub earlier : List ℕ
  pub stood : unfinished (records connection) ++ bytes_in (raw_taken (calls_of connection steps))
      ≡ earlier ++ (raw_message (last_records records before connection) call ++ bytes_in (raw_taken (calls_of connection after)))

-- every place of the store that the steps left, whatever records and store they started with
abbrev pub BytesOfSharedEntries : Type 0
BytesOfSharedEntries =
    (records : Records) (t : Store) (steps : List HostStep) (place : ℕ) → Interleaved records t steps
    → NeverTouched t steps place ⊎ LastStep records t steps place
