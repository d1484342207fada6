-- Several connections and one store, by induction on the steps: one reading call's laws are those of a list of one call.
use Prim.Native.Nat.{ℕ, ◌^◌}
use native.Mathlib.Omega.{arith}
use mathlib.Core.Path.{◌≡◌, refl, sym, ap, subst, ◌∙◌}
use mathlib.Core.Logic.{◌⊎◌, inl, inr, ⊎_elim}
use mathlib.Core.Bool.{true, false, cond}
use mathlib.Core.List.{List, [], ◌∷◌, ◌++◌, append_assoc}
use lib.ListN.{length, take, get_or}
use lib.Dec.{eqb, ltb}
use borrow.Author.Tests.{eqb-true, eq-eqb, ltb-true}
use Rattle.lists.specs.Lists.{front, every}
use Rattle.lists.proofs.Cases.{by-test, and_first, and_second}
use Rattle.store.specs.declared.Entry.{Entry}
use Rattle.store.specs.declared.Store.{Store}
use Rattle.store.specs.Store.{no_entry, no_table}
use Rattle.store.specs.Sound.{sound_store}
use Rattle.store.specs.Time.{Passed}
use Rattle.session.specs.declared.Sending.{Sending}
use Rattle.session.specs.declared.Session.{Session}
use Rattle.session.specs.declared.Commit.{Commit}
use Rattle.session.specs.declared.Answer.TheVariants as answer
use Rattle.session.specs.Session.{unfinished, is_closed, with_sending}
use Rattle.session_soundness.specs.Sound.{sound}
use Rattle.session.specs.declared.Connection.{Connection}
use Rattle.opening.specs.Opening.{Role, «open», opened_of}
use Rattle.opening.proofs.SoundOpening.{open-sound}
use Rattle.sending.specs.Sending as send
use Rattle.sending.specs.Sending.{Askable}
use Rattle.streams.specs.Model.{bytes_in}
use Rattle.streams.proofs.Timeline.{bytes_in-bytes}
use Rattle.receiver.specs.Model.{is_byte}
use Rattle.receiver.specs.Promise.{Shaped, call_of, outcome_of, session_of}
use Rattle.receiver.specs.Ledger.{Ledger, start_ledger}
use Rattle.receiver.specs.Demand3 as list
use Rattle.receiver.specs.Demand3.{Called, AcknowledgedCalls}
use Rattle.receiver.proofs.Chained.{good-held}
use Rattle.receiver.proofs.Following.{Follows, starts-following}
use Rattle.receiver.proofs.Lawfully.{lawful}
use Rattle.receiver.proofs.OnePass.{passed-model, passed-keeps-sound, passed-shaped}
use Rattle.receiver.proofs.Offered.{spent, pass-promised, next-shaped}
use Rattle.receiver.proofs.Ways.{ways}
use Rattle.receiver.proofs.LedgerAlong.{acknowledged-next}
use Rattle.receiver.proofs.Sharing.{refused-byte}
use Rattle.message_bytes.specs.MessageBytes.{UpdateMessage, EntryPlaced}
use Rattle.message_bytes.specs.LastUpdates.{NonePasses, Since, same}
use Rattle.message_bytes.proofs.Aging.{none-since, passed-since}
use Rattle.message_bytes.proofs.LastUpdates.{carries}
use Rattle.peers.specs.declared.numbers.RawOpened.{RawOpened}
use Rattle.peers.specs.Numbers.{raw_outcome, raw_opened}
use Rattle.peers.specs.Reading.{RawMade, RawPromise}
use Rattle.peers.specs.ExportedDemand3.{RawCalled, raw_reads, raw_passes, RawChain, raw_values, raw_taken, raw_last_session, raw_last_store, RawEachCall, RawAcknowledgedCalls, RawNeverUnsound, ExportedDemand3}
use Rattle.peers.specs.ExportedCorollaries.{raw_message, ToldUpdate, answering, RawNoneUpdates, raw_passing, RawNeverUpdated, RawLastUpdate}
use Rattle.peers.specs.Sending.{RawSendMade, RawSendPromise}
use Rattle.peers.specs.Connections.{Records, HostStep, reads, sends, passes, records_after, store_after, KeptStep, Interleaved, last_records, shared_store, own_call, calls_of, SoundCall, SoundSend, OwnStep, own_after, last_own, EachOwnCall, EveryConnection, EveryOpenedConnection, Asked, to_read, to_send, to_pass, asked_by, askable, InOrder, InAnyOrder, shared_entry, UpdatesNot, NoStepUpdates, times_of, NeverTouched, LastStep, BytesOfSharedEntries}
use Rattle.peers.proofs.AsMade.{made_by, made-promised, made-same}
use Rattle.peers.proofs.ExportedDemand3.{acknowledged-call, exported-demand-3}
use Rattle.peers.proofs.ExportedCorollaries.{raw-other-records-sound, raw-bytes-of-every-entry}
use Rattle.peers.proofs.ExportedSending.{read-sound}
use Rattle.peers.proofs.SendingCalls.{sent-number, keeps-sound, sent-leaves, leaves-with, leaves-connection, leaves-unfinished, sent-shaped, send_of, send-promised}

-- ---- one call

module _ (s : Session) (t : Store) (m : RawMade) (p : RawPromise s t m) where
  alone : RawChain s t (raw_reads m ∷ [])
  unfolding RawChain
  alone = (p, tt)

  demanded : sound s t ≡ true → ExportedDemand3 s t (raw_reads m ∷ [])
  demanded f = exported-demand-3 s t (raw_reads m ∷ []) f alone

  sound-call : sound s t ≡ true → SoundCall s t m
  unfolding RawEachCall RawNeverUnsound
  sound-call f = record { sound = f; model = (demanded f).each.0; never-4 = (demanded f).never-4.0 }

  -- of the unfinished bytes and those taken, some are done with and the others are unfinished afterwards
  carries-on : (done : List ℕ) × (raw_message s m ≡ done ++ unfinished m.session)
  unfolding raw_outcome
  carries-on =
      subst (λ (x : RawMade). (done : List ℕ) × (raw_message s x ≡ done ++ unfinished x.session)) (sym (made-same s t m p))
      (carries s t (made_by s t m) (made-promised s t m p))

sound-send : (s : Session) (t : Store) (m : RawSendMade) → RawSendPromise s t m → sound s t ≡ true → SoundSend s t m
sound-send s t m p f =
    record { sound = f; session = sent-leaves s t m p; after = keeps-sound s t m p f; never-4 = λ e. sent-number s t m p f e }

-- ---- one connection among the others

-- the connection's record after a step is what the step left of it
own-after : (records : Records) (i : ℕ) (p : HostStep) → records_after records p i ≡ own_after i (records i) p
unfolding records_after own_after
own-after records i (reads k m) = refl
own-after records i (sends k m) = refl
own-after records i (passes p) = refl

own-sound : (records : Records) (t : Store) (i : ℕ) (p : HostStep) → KeptStep records t p → sound (records i) t ≡ true
    → sound (records_after records p i) (store_after t p) ≡ true
unfolding KeptStep records_after store_after
own-sound records t i (reads k m) p f =
    by-test (eqb k i)
    (λ h. rw h (read-sound (records k) t m p (subst (λ (j : ℕ). sound (records j) t ≡ true) (sym (eqb-true k i h)) f)))
    (λ h. rw h (raw-other-records-sound (records k) t m (records i) p f))
own-sound records t i (sends k m) p f =
    by-test (eqb k i)
    (λ h. rw h (keeps-sound (records k) t m p (subst (λ (j : ℕ). sound (records j) t ≡ true) (sym (eqb-true k i h)) f)))
    (λ h. rw h f)
own-sound records t i (passes q) p f = passed-keeps-sound t q p (records i) f

own-step : (records : Records) (t : Store) (i : ℕ) (p : HostStep) → KeptStep records t p → sound (records i) t ≡ true → OwnStep i (records i) t p
unfolding KeptStep OwnStep
own-step records t i (reads k m) p f =
    by-test (eqb k i)
    (λ h. rw h (sound-call (records i) t m (subst (λ (j : ℕ). RawPromise (records j) t m) (eqb-true k i h) p) f))
    (λ h. rw h tt)
own-step records t i (sends k m) p f =
    by-test (eqb k i)
    (λ h. rw h (sound-send (records i) t m (subst (λ (j : ℕ). RawSendPromise (records j) t m) (eqb-true k i h) p) f))
    (λ h. rw h tt)
own-step records t i (passes q) p f =
    record { model = passed-model t q p (records i) f; after = passed-keeps-sound t q p (records i) f; sound = f }

-- records that are equal but for `sending`, after the same calls
alike-last : (x : Sending) (s z : Session) (calls : List RawCalled) → with_sending s x ≡ with_sending z x
    → with_sending (raw_last_session s calls) x ≡ with_sending (raw_last_session z calls) x
unfolding raw_last_session
alike-last x s z [] e = e
alike-last x s z (raw_reads m ∷ calls) e = refl
alike-last x s z (raw_passes p ∷ calls) e = alike-last x s z calls e

own-last : (x : Sending) (records : Records) (t : Store) (i : ℕ) (p : HostStep) (calls : List RawCalled) → KeptStep records t p
    → with_sending (raw_last_session (own_after i (records i) p) calls) x ≡ with_sending (raw_last_session (records i) (own_call i p calls)) x
unfolding KeptStep own_after own_call raw_last_session
own-last x records t i (reads k m) calls p = by-test (eqb k i) (λ h. rw h) (λ h. rw h)
own-last x records t i (sends k m) calls p =
    by-test (eqb k i)
    (λ h.
    rw h
    (alike-last x m.session (records i) calls
    (leaves-with (records i) t m (subst (λ (j : ℕ). RawSendPromise (records j) t m) (eqb-true k i h) p) x)))
    (λ h. rw h)
own-last x records t i (passes q) calls p = refl

-- ---- the acknowledgements of one connection

-- the connection's calls, with the answer enum
own_made : ℕ → Records → Store → HostStep → List Called → List Called
own_made i records t (reads k m) calls = cond (eqb k i) (list.reads (made_by (records i) t m) ∷ calls) calls
own_made i records t (sends k m) calls = calls
own_made i records t (passes p) calls = list.passes p ∷ calls

own_mades : ℕ → Records → Store → List HostStep → List Called
own_mades i records t [] = []
own_mades i records t (p ∷ steps) = own_made i records t p (own_mades i (records_after records p) (store_after t p) steps)

-- with each ledger that says what the record says, the replies to these calls are right
abbrev RightAlong : Session → List Called → Type 0
RightAlong s calls =
    (l : Ledger) → Follows s.connection l → (u : List ℕ) → (is_closed s.connection ≡ false → u ≡ unfinished s) → AcknowledgedCalls l u calls

right-call : (s : Session) (t : Store) (m : RawMade) (calls : List Called) → RawPromise s t m → sound s t ≡ true → RightAlong m.session calls
    → RightAlong s (list.reads (made_by s t m) ∷ calls)
right-call s t m calls p f next l k u o =
    let made = made_by s t m in
    let q = made-promised s t m p in
    acknowledged-next s t made q f (good-held s t p.shaped f) l k u o calls next (ways s t made q)

right-pass : (s : Session) (p : Passed) (calls : List Called) → RightAlong s calls → RightAlong s (list.passes p ∷ calls)
unfolding AcknowledgedCalls
right-pass s p calls next l k u o = next l k u o

-- what a sending call leaves is right along the same calls
right-send : (s : Session) (t : Store) (m : RawSendMade) (calls : List Called) → RawSendPromise s t m → RightAlong m.session calls → RightAlong s calls
right-send s t m calls p next l k u o =
    let c = leaves-connection s t m p in
    next l (subst (λ (x : Connection). Follows x l) (sym c) k) u
    (λ e. o (ap is_closed (sym c) ∙ e) ∙ sym (leaves-unfinished s t m p))

right-step : (records : Records) (t : Store) (i : ℕ) (p : HostStep) (calls : List Called) → KeptStep records t p → sound (records i) t ≡ true
    → RightAlong (records_after records p i) calls → RightAlong (records i) (own_made i records t p calls)
unfolding KeptStep records_after own_made
right-step records t i (reads k m) calls p f next =
    by-test (eqb k i)
    (λ h.
    let next' : RightAlong m.session calls = rw h at next in
    rw h (right-call (records i) t m calls (subst (λ (j : ℕ). RawPromise (records j) t m) (eqb-true k i h) p) f next'))
    (λ h. let next' : RightAlong (records i) calls = rw h at next in rw h next')
right-step records t i (sends k m) calls p f next =
    by-test (eqb k i)
    (λ h.
    let next' : RightAlong m.session calls = rw h at next in
    right-send (records i) t m calls (subst (λ (j : ℕ). RawSendPromise (records j) t m) (eqb-true k i h) p) next')
    (λ h. let next' : RightAlong (records i) calls = rw h at next in next')
right-step records t i (passes q) calls p f next = right-pass (records i) q calls next

right-along : (records : Records) (t : Store) (i : ℕ) (steps : List HostStep) → Interleaved records t steps → sound (records i) t ≡ true
    → RightAlong (records i) (own_mades i records t steps)
unfolding Interleaved own_mades AcknowledgedCalls
right-along records t i [] c f = λ l k u o. tt
right-along records t i (p ∷ steps) c f =
    right-step records t i p (own_mades i (records_after records p) (store_after t p) steps) c.0 f
    (right-along (records_after records p) (store_after t p) i steps c.1 (own-sound records t i p c.0 f))

-- in numbers
abbrev InNumbers : List Called → List RawCalled → Type 0
InNumbers calls others = (l : Ledger) (u : List ℕ) → AcknowledgedCalls l u calls → RawAcknowledgedCalls l u others

numbers-call : (s : Session) (t : Store) (m : RawMade) (calls : List Called) (others : List RawCalled) → RawPromise s t m → InNumbers calls others
    → InNumbers (list.reads (made_by s t m) ∷ calls) (raw_reads m ∷ others)
numbers-call s t m calls others p next l u k =
    subst (λ (x : RawMade). RawAcknowledgedCalls l u (raw_reads x ∷ others)) (sym (made-same s t m p))
    (acknowledged-call l u (made_by s t m) calls others (refused-byte s t (made_by s t m) (made-promised s t m p)) next k)

numbers-pass : (p : Passed) (calls : List Called) (others : List RawCalled) → InNumbers calls others → InNumbers (list.passes p ∷ calls) (raw_passes p ∷ others)
unfolding AcknowledgedCalls RawAcknowledgedCalls
numbers-pass p calls others next l u k = next l u k

numbers-step : (records : Records) (t : Store) (i : ℕ) (p : HostStep) (calls : List Called) (others : List RawCalled) → KeptStep records t p
    → InNumbers calls others → InNumbers (own_made i records t p calls) (own_call i p others)
unfolding KeptStep own_made own_call
numbers-step records t i (reads k m) calls others p next =
    by-test (eqb k i)
    (λ h. rw h (numbers-call (records i) t m calls others (subst (λ (j : ℕ). RawPromise (records j) t m) (eqb-true k i h) p) next))
    (λ h. rw h next)
numbers-step records t i (sends k m) calls others p next = next
numbers-step records t i (passes q) calls others p next = numbers-pass q calls others next

numbers-along : (records : Records) (t : Store) (i : ℕ) (steps : List HostStep) → Interleaved records t steps
    → InNumbers (own_mades i records t steps) (calls_of i steps)
unfolding Interleaved own_mades calls_of RawAcknowledgedCalls
numbers-along records t i [] c = λ l u k. tt
numbers-along records t i (p ∷ steps) c =
    numbers-step records t i p (own_mades i (records_after records p) (store_after t p) steps) (calls_of i steps) c.0
    (numbers-along (records_after records p) (store_after t p) i steps c.1)

acknowledged-along : (records : Records) (t : Store) (i : ℕ) (steps : List HostStep) → Interleaved records t steps → sound (records i) t ≡ true
    → RawAcknowledgedCalls (start_ledger (records i).connection) (unfinished (records i)) (calls_of i steps)
acknowledged-along records t i steps c f =
    let l = start_ledger (records i).connection in
    numbers-along records t i steps c l (unfinished (records i))
    (right-along records t i steps c f l (starts-following (records i).connection) (unfinished (records i)) (λ o. refl))

-- ---- the claim of one connection

own-calls : (records : Records) (t : Store) (i : ℕ) (steps : List HostStep) → Interleaved records t steps → sound (records i) t ≡ true
    → EachOwnCall i (records i) t steps
unfolding Interleaved EachOwnCall
own-calls records t i [] c f = tt
own-calls records t i (p ∷ steps) c f = (
  own-step records t i p c.0 f,
  subst (λ (x : Session). EachOwnCall i x (store_after t p) steps) (own-after records i p)
      (own-calls (records_after records p) (store_after t p) i steps c.1 (own-sound records t i p c.0 f)),
)

own-record : (records : Records) (i : ℕ) (steps : List HostStep) → last_records records steps i ≡ last_own i (records i) steps
unfolding last_records last_own
own-record records i [] = refl
own-record records i (p ∷ steps) =
    own-record (records_after records p) i steps ∙ ap (λ (x : Session). last_own i x steps) (own-after records i p)

read-last : (x : Sending) (records : Records) (t : Store) (i : ℕ) (steps : List HostStep) → Interleaved records t steps
    → with_sending (last_records records steps i) x ≡ with_sending (raw_last_session (records i) (calls_of i steps)) x
unfolding Interleaved last_records calls_of raw_last_session
read-last x records t i [] c = refl
read-last x records t i (p ∷ steps) c =
    read-last x (records_after records p) (store_after t p) i steps c.1
    ∙ (ap (λ (z : Session). with_sending (raw_last_session z (calls_of i steps)) x) (own-after records i p)
    ∙ own-last x records t i p (calls_of i steps) c.0)

sound-last : (records : Records) (t : Store) (i : ℕ) (steps : List HostStep) → Interleaved records t steps → sound (records i) t ≡ true
    → sound (last_records records steps i) (shared_store t steps) ≡ true
unfolding Interleaved last_records shared_store
sound-last records t i [] c f = f
sound-last records t i (p ∷ steps) c f = sound-last (records_after records p) (store_after t p) i steps c.1 (own-sound records t i p c.0 f)

pub every-connection : EveryConnection
every-connection records t steps i c f = record {
  each = own-calls records t i steps c f;
  own = own-record records i steps;
  read-last = λ x. read-last x records t i steps c;
  acknowledged = acknowledged-along records t i steps c f;
  sound = sound-last records t i steps c f;
}

opened-sound : (role : Role) (local remote room : List ℕ) (o : RawOpened) (t : Store) → o ≡ raw_opened (opened_of («open» role local remote (length room)))
    → sound_store t ≡ true → sound o.session t ≡ true
unfolding raw_opened opened_of
opened-sound role local remote room o t e f =
    subst (λ (x : RawOpened). sound x.session t ≡ true) (sym e) (open-sound role local remote (length room) t f)

pub every-opened-connection : EveryOpenedConnection
every-opened-connection records t steps i role local remote room o e q f c =
    every-connection records t steps i c (subst (λ (x : Session). sound x t ≡ true) (sym q) (opened-sound role local remote room o t e f))

-- ---- in any order

-- a call that keeps its promise: what the promise says of it is what it is
abbrev made : Session → Store → List ℕ → List ℕ → RawMade
made s t piece room =
    let c = call_of s t piece (length room) in
    record {
      piece = piece;
      room = room;
      outcome = raw_outcome (outcome_of c);
      session = session_of s c;
      store = c.state.store;
      final = front c.reply room;
    }

promised : (s : Session) (t : Store) (piece room : List ℕ) → Shaped s t → every is_byte piece ≡ true → RawPromise s t (made s t piece room)
promised s t piece room sh q = record { outcome = refl; session = refl; store = refl; final = refl; shaped = sh; bytes = q }

shaped-after : (s : Session) (t : Store) (m : RawMade) → RawPromise s t m → sound s t ≡ true → Shaped m.session m.store
shaped-after s t m p f = next-shaped lawful s t (made_by s t m) (made-promised s t m p) f (good-held s t p.shaped f)

all-shaped : (records : Records) (t : Store) (p : HostStep) → KeptStep records t p → ((i : ℕ) → Shaped (records i) t)
    → ((i : ℕ) → sound (records i) t ≡ true) → (i : ℕ) → Shaped (records_after records p i) (store_after t p)
unfolding KeptStep records_after store_after
all-shaped records t (reads k m) p sh f i =
    let n = shaped-after (records k) t m p (f k) in
    by-test (eqb k i)
    (λ h. rw h n)
    (λ h. rw h (record { session = (sh i).session; store = n.store }))
all-shaped records t (sends k m) p sh f i =
    by-test (eqb k i)
    (λ h. rw h (record { session = sent-shaped (records k) t m p; store = p.store-shape }))
    (λ h. rw h (sh i))
all-shaped records t (passes q) p sh f i = passed-shaped t q p (records i) (f i) (sh i).session

in_order : (records : Records) (t : Store) (a : Asked) (asked : List Asked) (p : HostStep) → KeptStep records t p → asked_by p ≡ a
    → InOrder (records_after records p) (store_after t p) asked → InOrder records t (a ∷ asked)
unfolding Interleaved
in_order records t a asked p k e rest = record {
  steps = p ∷ rest.steps;
  kept = (k, rest.kept);
  order = λ i. e i ∷ rest.order i;
}

-- what was asked, done
doing : Records → Store → Asked → HostStep
doing records t (to_read k piece room) = reads k (made (records k) t piece room)
doing records t (to_send k a room) = sends k (send_of (records k) t room a)
doing records t (to_pass e) = passes (spent t e)

-- numbers of their types
asked-fits : (k : ℕ) (a : send.Asked) (room : List ℕ) → askable (to_send k a room) ≡ true → Askable a
unfolding askable Askable
asked-fits k (send.definition place id) room q = (
  ltb-true place (2 ^ 64) (and_first (ltb place (2 ^ 64)) (ltb id (2 ^ 32)) q),
  ltb-true id (2 ^ 32) (and_second (ltb place (2 ^ 64)) (ltb id (2 ^ 32)) q),
)
asked-fits k (send.entry place id) room q = (
  ltb-true place (2 ^ 64) (and_first (ltb place (2 ^ 64)) (ltb id (2 ^ 32)) q),
  ltb-true id (2 ^ 32) (and_second (ltb place (2 ^ 64)) (ltb id (2 ^ 32)) q),
)

done : (records : Records) (t : Store) (a : Asked) → ((i : ℕ) → Shaped (records i) t) → askable a ≡ true
    → KeptStep records t (doing records t a) × (asked_by (doing records t a) ≡ a)
unfolding doing KeptStep asked_by askable
done records t (to_read k piece room) sh q = (promised (records k) t piece room (sh k) q, refl)
done records t (to_send k a room) sh q = (send-promised (records k) t room a (sh k).session (sh k).store (asked-fits k a room q), refl)
done records t (to_pass e) sh q = (pass-promised t e (sh 0).store q, refl)

pub in-any-order : InAnyOrder
unfolding Interleaved every
in-any-order records t [] sh f q = record { steps = []; kept = tt; order = refl }
in-any-order records t (a ∷ asked) sh f q =
    let p = doing records t a in
    let d = done records t a sh (and_first (askable a) (every askable asked) q) in
    in_order records t a asked p d.0 d.1
    (in-any-order (records_after records p) (store_after t p) asked (all-shaped records t p d.0 sh f) (λ i. own-sound records t i p d.0 (f i))
    (and_second (askable a) (every askable asked) q))

-- ---- the bytes of every entry of the one store

-- one call that updated a place: what it told and the message that it ended
record Updated (s : Session) (t : Store) (m : RawMade) (place : ℕ) : Type 0 where
  pub table : ℕ
  pub id : ℕ
  pub how : Commit
  pub told : ToldUpdate m table id place how
  pub message : UpdateMessage s (answering (answer.Update table id place how) m) table id (get_or m.store.tables table no_table)
      (get_or m.store.entries place no_entry)
  pub placed : EntryPlaced t table (get_or m.store.entries place no_entry) how place

-- one call that didn't
record NotUpdated (t : Store) (m : RawMade) (place : ℕ) : Type 0 where
  pub none : m.outcome.number ≡ 267 → get_or (raw_values m) 2 0 ≡ place → ⊥
  pub same : get_or m.store.entries place no_entry ≡ get_or t.entries place no_entry

the_one : (m call : RawMade) (before after : List RawCalled) → raw_reads m ∷ [] ≡ before ++ (raw_reads call ∷ after) → (before ≡ []) × (m ≡ call)
the_one m call [] after e = (refl, cc)
the_one m call (b ∷ []) after e = absurd (let l = ap length e in omega (arith, l))
the_one m call (b ∷ (d ∷ before)) after e = absurd (let l = ap length e in omega (arith, l))

module _ (s : Session) (t : Store) (m : RawMade) (p : RawPromise s t m) (place : ℕ) where
  updated : RawLastUpdate s t (raw_reads m ∷ []) place → Updated s t m place
  unfolding raw_last_session raw_last_store
  updated u =
      let o = the_one m u.call u.before u.after u.among in
      record {
        table = u.table;
        id = u.id;
        how = u.how;
        told = subst (λ (x : RawMade). ToldUpdate x u.table u.id place u.how) (sym o.1) u.told;
        message =
            subst
            (λ (x : RawMade).
            UpdateMessage s (answering (answer.Update u.table u.id place u.how) x) u.table u.id
            (get_or x.store.tables u.table no_table) (get_or x.store.entries place no_entry))
            (sym o.1)
            (subst
            (λ (before : List RawCalled).
            UpdateMessage (raw_last_session s before) (answering (answer.Update u.table u.id place u.how) u.call) u.table u.id
            (get_or u.call.store.tables u.table no_table) (get_or u.call.store.entries place no_entry))
            o.0 u.message);
        placed =
            subst (λ (x : RawMade). EntryPlaced t u.table (get_or x.store.entries place no_entry) u.how place) (sym o.1)
            (subst (λ (before : List RawCalled). EntryPlaced (raw_last_store t before) u.table (get_or u.call.store.entries place no_entry) u.how place)
            o.0 u.placed);
      }

  not-updated : RawNeverUpdated t (raw_reads m ∷ []) place → NotUpdated t m place
  unfolding RawNoneUpdates raw_last_store raw_passing
  not-updated n = record {
    none = n.none.0;
    same = none-since (get_or t.entries place no_entry) (get_or m.store.entries place no_entry) n.since;
  }

  one-call : NotUpdated t m place ⊎ Updated s t m place
  one-call = ⊎_elim (λ n. inl (not-updated n)) (λ u. inr (updated u)) (raw-bytes-of-every-entry s t (raw_reads m ∷ []) place (alone s t m p))

-- the bytes that a call and those after it took
taken_in : (m : RawMade) (calls : List RawCalled) → bytes_in (raw_taken (raw_reads m ∷ calls)) ≡ take m.outcome.taken m.piece ++ bytes_in (raw_taken calls)
unfolding raw_taken
taken_in m calls = bytes_in-bytes (take m.outcome.taken m.piece) (raw_taken calls)

passed-in : (p : Passed) (calls : List RawCalled) → bytes_in (raw_taken (raw_passes p ∷ calls)) ≡ bytes_in (raw_taken calls)
unfolding raw_taken bytes_in
passed-in p calls = refl

-- where a message stood among a connection's bytes, with one step more before them
stood-later : (records : Records) (t : Store) (p : HostStep) (i : ℕ) (calls : List RawCalled) (earlier rest : List ℕ) → KeptStep records t p
    → unfinished (records_after records p i) ++ bytes_in (raw_taken calls) ≡ earlier ++ rest
    → (before : List ℕ) × (unfinished (records i) ++ bytes_in (raw_taken (own_call i p calls)) ≡ before ++ rest)
unfolding KeptStep records_after own_call
stood-later records t (reads k m) i calls earlier rest p e =
    by-test (eqb k i)
    (λ h.
    let c = carries-on (records i) t m (subst (λ (j : ℕ). RawPromise (records j) t m) (eqb-true k i h) p) in
    let e' : unfinished m.session ++ bytes_in (raw_taken calls) ≡ earlier ++ rest = rw h at e in
    rw h (
      c.0 ++ earlier,
      ap (λ (l : List ℕ). unfinished (records i) ++ l) (taken_in m calls)
          ∙ (sym (append_assoc (unfinished (records i)) (take m.outcome.taken m.piece) (bytes_in (raw_taken calls)))
          ∙ (ap (λ (l : List ℕ). l ++ bytes_in (raw_taken calls)) c.1
          ∙ (append_assoc c.0 (unfinished m.session) (bytes_in (raw_taken calls))
          ∙ (ap (λ (l : List ℕ). c.0 ++ l) e' ∙ sym (append_assoc c.0 earlier rest))))),
    ))
    (λ h. let e' : unfinished (records i) ++ bytes_in (raw_taken calls) ≡ earlier ++ rest = rw h at e in rw h (earlier, e'))
stood-later records t (sends k m) i calls earlier rest p e =
    by-test (eqb k i)
    (λ h.
    let u = leaves-unfinished (records i) t m (subst (λ (j : ℕ). RawSendPromise (records j) t m) (eqb-true k i h) p) in
    let e' : unfinished m.session ++ bytes_in (raw_taken calls) ≡ earlier ++ rest = rw h at e in
    (earlier, ap (λ (l : List ℕ). l ++ bytes_in (raw_taken calls)) (sym u) ∙ e'))
    (λ h. let e' : unfinished (records i) ++ bytes_in (raw_taken calls) ≡ earlier ++ rest = rw h at e in (earlier, e'))
stood-later records t (passes q) i calls earlier rest p e =
    (earlier, ap (λ (l : List ℕ). unfinished (records i) ++ l) (passed-in q calls) ∙ e)

later : (records : Records) (t : Store) (p : HostStep) (steps : List HostStep) (place : ℕ) → KeptStep records t p
    → LastStep (records_after records p) (store_after t p) steps place → LastStep records t (p ∷ steps) place
unfolding last_records shared_store calls_of
later records t p steps place k u =
    let at = stood-later records t p u.connection (calls_of u.connection steps) u.earlier _ k u.stood in
    record {
      before = p ∷ u.before;
      connection = u.connection;
      call = u.call;
      after = u.after;
      among = ap (λ (ps : List HostStep). p ∷ ps) u.among;
      table = u.table;
      id = u.id;
      how = u.how;
      told = u.told;
      last = u.last;
      since = u.since;
      message = u.message;
      placed = u.placed;
      earlier = at.0;
      stood = at.1;
    }

own-bytes : (s : Session) (i : ℕ) (m : RawMade) (calls : List RawCalled)
    → unfinished s ++ bytes_in (raw_taken (own_call i (reads i m) calls)) ≡ [] ++ (raw_message s m ++ bytes_in (raw_taken calls))
unfolding own_call
own-bytes s i m calls =
    rw (eq-eqb i i refl)
    (ap (λ (l : List ℕ). unfinished s ++ l) (taken_in m calls)
    ∙ sym (append_assoc (unfinished s) (take m.outcome.taken m.piece) (bytes_in (raw_taken calls))))

first : (records : Records) (t : Store) (p : HostStep) (steps : List HostStep) (place : ℕ) → KeptStep records t p
    → NeverTouched (store_after t p) steps place → NeverTouched t (p ∷ steps) place ⊎ LastStep records t (p ∷ steps) place
unfolding KeptStep store_after last_records shared_store calls_of NoStepUpdates UpdatesNot times_of
first records t (reads k m) steps place p n =
    ⊎_elim
    (λ o.
    inl
    (record {
      none = (o.none, n.none);
      since = subst (λ (x : Entry). Since (times_of steps) x (shared_entry m.store steps place)) o.same n.since;
    }))
    (λ u.
    inr
    (record {
      before = [];
      connection = k;
      call = m;
      after = steps;
      among = refl;
      table = u.table;
      id = u.id;
      how = u.how;
      told = u.told;
      last = n.none;
      since = n.since;
      message = u.message;
      placed = u.placed;
      earlier = [];
      stood = own-bytes (records k) k m (calls_of k steps);
    }))
    (one-call (records k) t m p place)
first records t (sends k m) steps place p n = inl (record { none = (tt, n.none); since = n.since })
first records t (passes q) steps place p n =
    inl (record { none = (tt, n.none); since = passed-since t q place (times_of steps) (shared_entry q.store steps place) p n.since })

pub bytes-of-shared-entries : BytesOfSharedEntries
unfolding Interleaved shared_store NoStepUpdates times_of NonePasses
bytes-of-shared-entries records t [] place c = inl (record { none = tt; since = same (inr tt) })
bytes-of-shared-entries records t (p ∷ steps) place c =
    ⊎_elim (λ n. first records t p steps place c.0 n) (λ u. inr (later records t p steps place c.0 u))
    (bytes-of-shared-entries (records_after records p) (store_after t p) steps place c.1)
