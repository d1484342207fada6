-- The corollaries for the exported calls, from those for calls with the answer enum.
use Rattle.std.specs.Prelude.{None, Option, Some}
use Prim.Native.Nat.{ℕ, ◌<◌, ◌≤◌}
use native.Mathlib.Omega.{arith}
use mathlib.Core.Path.{◌≡◌, refl, sym, ap, ◌∙◌, subst}
use mathlib.Core.Logic.{◌⊎◌, inl, inr, ⊎_elim}
use mathlib.Core.Bool.{true, ◌&&◌}
use mathlib.Core.List.{List, [], ◌∷◌, ◌++◌, map, flatten, map-append}
use lib.ListN.{length, take, get_or, length-map, get_or-eq_default}
use lib.Dec.{eqb}
use borrow.Author.Tests.{eqb-true, eqb-false, ne_eqb}
use Rattle.lists.specs.Lists.{first_place}
use Rattle.lists.proofs.Cases.{by-test, never, and-false, cond-false, lt-or-le}
use Rattle.lists.proofs.Places.{first-at, first-nothing}
use Rattle.store.specs.declared.Entry.{Entry}
use Rattle.store.specs.declared.Store.{Store}
use Rattle.store.specs.declared.entries.Place.TheVariants as places
use Rattle.store.specs.Store.{entry_free, free_entry, with_entries, no_entry}
use Rattle.store.specs.Shape.{StoreShape}
use Rattle.store.specs.Places.{free_of, place_of}
use Rattle.store.specs.Sound.{sound_store}
use Rattle.store.specs.Time.{entry_timed, pass_entry, pass_time, Passed, PassPromise}
use Rattle.store.proofs.Facts.{sound-facts}
use Rattle.store.proofs.Passing.{pass-removes, no-entry-timed, entry-passes, pass_shape, pass-sound, passed-twice}
use Rattle.session.specs.declared.Session.{Session}
use Rattle.session.specs.declared.Commit.{Commit}
use Rattle.session.specs.declared.Commit.TheVariants as commit
use Rattle.session.specs.declared.Answer.{Answer}
use Rattle.session.specs.declared.Answer.TheVariants as answer
use Rattle.session.specs.Answers.{refusal_of, answer_number, answer_values, refusal_reply}
use Rattle.session.specs.Session.{unfinished, holding, closed_with, binding_at}
use Rattle.session.proofs.answers.OneToOne.{RefusedByte}
use Rattle.session.proofs.answers.Refusals.{refused-is}
use Rattle.session_soundness.specs.Sound.{sound}
use Rattle.session_soundness.proofs.Records.{sound-store}
use Rattle.opening.specs.Opening.{Role, answerer, Opening, «open», opened_of, open_room}
use Rattle.opening.proofs.SoundOpening.{open-sound}
use Rattle.streams.specs.Model.{Item, byte, bytes, bytes_in}
use Rattle.streams.specs.Calls.{Call, pieces}
use Rattle.receiver.specs.Model.{State, Event, held_by}
use Rattle.receiver.specs.Promise.{Made, ReadPromise, call_of}
use Rattle.receiver.specs.Ledger.{is_acknowledgement}
use Rattle.receiver.specs.Demand3.{Called, reads, passes, Chain, OffersTo, last_session}
use Rattle.receiver.specs.Corollaries.{message_of, EntryHeld, NothingChanged, OnlyClosed, TestedInOrder, OffsetGiven}
use Rattle.receiver.proofs.Corollaries.{only-reachable, bytes-offered, bytes-by-reading, bytes-record}
use Rattle.receiver.proofs.Chained.{good-held}
use Rattle.receiver.proofs.Lawfully.{lawful}
use Rattle.receiver.proofs.Offered.{next-shaped}
use Rattle.receiver.proofs.OnePass.{passed-as-model, passed-or-refused, refused-pass-untouched, passed-records-sound}
use Rattle.receiver.proofs.Ways.{Way, staying, waiting-on, judging, ways}
use Rattle.receiver.proofs.Acknowledging.{refused-untouched, others-untouched, held-when-acknowledged, refused-opening-untouched}
use Rattle.receiver.proofs.Refusing.{refused-at-field, tests-in-order}
use Rattle.receiver.proofs.Sharing.{other-records-sound, refused-byte}
use Rattle.reading.specs.Counts.{committed_counts, answered_counts}
use Rattle.reading.proofs.counts.Answered.{other-counts}
use Rattle.reading.proofs.counts.Promised.{read-counts}
use Rattle.receiver.proofs.Sending.{sending-stays}
use Rattle.message.specs.Targets.{keyed_as, goes_to}
use Rattle.message_bytes.specs.MessageBytes.{UpdateMessage, TableDefined, table_at, entry_at}
use Rattle.message_bytes.specs.LastUpdates.{last_entry, NoneUpdates, passing, Since, NeverUpdated, LastUpdate}
use Rattle.message_bytes.proofs.LastUpdates.{bytes-of-every-entry}
use Rattle.message_bytes.proofs.DefinitionMessages.{bytes-of-definition}
use Rattle.peers.specs.declared.numbers.RawOpened.{RawOpened}
use Rattle.peers.specs.Numbers.{raw_outcome, raw_opened}
use Rattle.peers.specs.Reading.{RawMade, RawPromise}
use Rattle.peers.specs.ExportedDemand3.{RawCalled, raw_reads, RawChain, raw_values, raw_reply, raw_taken, raw_last_session, RawResult, raw_came_to, RawOffersTo}
use Rattle.peers.specs.ExportedCorollaries.{RawSameByAnyDivision, RawAnyDivision, RawOfferedReachable, RawBytesOffered, RawBytesByReading, RawBytesRecord, RawReadingTakes, raw_message, ToldUpdate, RawEntryHeld, RawHeldWhenAcknowledged, answering, raw_last_entry, RawNoneUpdates, raw_passing, RawNeverUpdated, RawLastUpdate, RawBytesOfEveryEntry, ToldTable, RawDefinition, RawBytesOfDefinition, RawNothingChanged, RawOnlyClosed, RawRefusedCall, RawRefusedUntouched, RawTestsInOrder, RawBodyBroke, RawUntouched, RawOthersUntouched, raw_counts, RawCountsKept, KeptStore, RawStoreSound, RawRefusedOpening, RawRefusedOpeningUntouched, RawOtherRecordsSound, FreedPlace, PassingCalls, RawSendingStays}
use Rattle.peers.proofs.AsMade.{raw_of, raw_called, made_by, made-promised, made-same, mades_by, mades-chain, mades-same, values-told}
use Rattle.peers.proofs.ExportedDemand3.{same-reply, same_taken, same-session, same_store, offered, offering, exported-demand-3}

-- ---- any division

module _ (s : Session) (t : Store) (stream : List (Item Event)) (calls others : List RawCalled) (f : sound s t ≡ true) (c : RawChain s t calls) (d : RawChain s t others)
    (o : RawOffersTo s stream calls) (q : RawOffersTo s stream others) where
  divided-came : raw_came_to s t calls ≡ raw_came_to s t others
  divided-came = (exported-demand-3 s t calls f c).whole stream o ∙ sym ((exported-demand-3 s t others f d).whole stream q)

  divided : RawSameByAnyDivision s t stream calls others
  unfolding raw_came_to held_by
  divided = record {
    came = divided-came;
    store = ap (λ (r : RawResult). r.state.store) divided-came;
    session = (exported-demand-3 s t calls f c).whole-record stream o ∙ sym ((exported-demand-3 s t others f d).whole-record stream q);
    replies = ap (λ (r : RawResult). r.replies) divided-came;
  }

pub raw-any-division : RawAnyDivision
raw-any-division = divided

-- ---- which streams are offered

-- the calls with the answer enum offer what the exported ones do
made-offers : (s : Session) (t : Store) (stream : List (Item Event)) (calls : List RawCalled) → RawChain s t calls → RawOffersTo s stream calls
    → OffersTo s stream (mades_by s t calls)
made-offers s t stream calls c o = offered s stream (mades_by s t calls) (subst (RawOffersTo s stream) (mades-same s t calls c) o)

pub raw-only-reachable : RawOfferedReachable
raw-only-reachable s t stream calls f c o =
    only-reachable s t stream (mades_by s t calls) f (mades-chain s t calls c) (made-offers s t stream calls c o)

-- ---- bytes alone

pub raw-bytes-offered : RawBytesOffered
raw-bytes-offered s t f sh cuts room q l = offering s t (pieces cuts) room (bytes-offered s t f sh cuts room q l)

reading-only : (ms : List Made) → map raw_called (map reads ms) ≡ map raw_reads (map raw_of ms)
reading-only [] = refl
reading-only (m ∷ ms) = ap (raw_reads (raw_of m) ∷◌) (reading-only ms)

pub raw-bytes-by-reading : RawBytesByReading
raw-bytes-by-reading s t stream calls c o =
    let r = bytes-by-reading s stream (mades_by s t calls) (made-offers s t (bytes stream) calls c o) in
    (map raw_of r.0, mades-same s t calls c ∙ (ap (map raw_called) r.1 ∙ reading-only r.0))

pub raw-bytes-record : RawBytesRecord
raw-bytes-record s t stream calls f c o =
    ap (raw_last_session s) (mades-same s t calls c)
    ∙ (same-session s (mades_by s t calls)
    ∙ bytes-record s t stream (mades_by s t calls) f (mades-chain s t calls c) (made-offers s t (bytes stream) calls c o))

pub raw-reading-takes : RawReadingTakes
unfolding raw_taken flatten
raw-reading-takes [] = refl
raw-reading-takes (m ∷ ms) =
    let now = take m.outcome.taken m.piece in
    ap (bytes now ++◌) (raw-reading-takes ms) ∙ sym (map-append byte now (flatten (map (λ (m : RawMade). take m.outcome.taken m.piece) ms)))

-- ---- one call

-- what holds of every promised call in numbers holds of every promised exported one
by-made : (P : RawMade → Type 0) (s : Session) (t : Store) (m : RawMade) → RawPromise s t m → P (raw_of (made_by s t m)) → P m
by-made P s t m p h = subst P (sym (made-same s t m p)) h

module _ (s : Session) (t : Store) (m : Made) where
  nothing-changed : NothingChanged s t m → RawNothingChanged s t (raw_of m)
  unfolding raw_outcome
  nothing-changed h = record { taken = h.taken; count = h.count; session = h.session; store = h.store; room = h.room }

  only-closed : (n : ℕ) → answer_number m.outcome.answer ≡ n → OnlyClosed s t m n → RawOnlyClosed s t (raw_of m)
  unfolding raw_outcome
  only-closed n e h = record {
    session = h.session ∙ ap (λ (k : ℕ). holding s.sending (closed_with s.connection k) []) (sym e);
    store = h.store;
    reply = same-reply m ∙ h.reply ∙ ap refusal_reply (sym e);
    room = h.room;
  }

  refused : ReadPromise s t m → answer_number m.outcome.answer < 256 → RawRefusedCall s t (raw_of m)
  unfolding raw_outcome
  refused p l =
      ⊎_elim
      (λ k. inl (k.0, nothing-changed k.1))
      (λ k. inr (k.0, only-closed (answer_number m.outcome.answer) refl k.1))
      (refused-untouched s t m (answer_number m.outcome.answer) p (refused-is m.outcome.answer l))

  others : ReadPromise s t m → (answer_number m.outcome.answer ≡ 265 → ⊥) → (answer_number m.outcome.answer ≡ 267 → ⊥) → RawUntouched t (raw_of m)
  unfolding raw_outcome answer_number
  others p a b =
      let u = others-untouched s t m p (λ place e. a (ap answer_number e)) (λ table id place how e. b (ap answer_number e)) in
      record { store = u.store; room = u.room }

  told : (table id place : ℕ) (how : Commit) → m.outcome.answer ≡ answer.Update table id place how → ToldUpdate (raw_of m) table id place how
  unfolding raw_outcome answer_number answer_values
  told table id place how e = record { number = ap answer_number e; values = values-told m ∙ ap answer_values e }

  entry-held : EntryHeld s t m → RawEntryHeld s t (raw_of m)
  unfolding raw_outcome
  entry-held h = record {
    table = h.table;
    id = h.id;
    place = h.place;
    how = h.how;
    told = told h.table h.id h.place h.how h.answer;
    kind = h.kind;
    start = h.start;
    end = h.end;
    framed = h.framed;
    form = h.form;
    type = h.type;
    current = h.current;
    body = h.body;
    body_is = h.body_is;
    fields = h.fields;
    after = h.after;
    read = h.read;
    own-id = h.own-id;
    holds = h.holds;
    went = h.went;
    others = h.others;
    tables = h.tables;
    counts = h.counts;
    reply = same-reply m ∙ h.reply;
  }

pub raw-refused-untouched : RawRefusedUntouched
unfolding raw_outcome
raw-refused-untouched s t m p =
    by-made (λ (x : RawMade). x.outcome.number < 256 → RawRefusedCall s t x) s t m p (refused s t (made_by s t m) (made-promised s t m p))

pub raw-tests-in-order : RawTestsInOrder
unfolding raw_outcome
raw-tests-in-order s t m p =
    by-made (λ (x : RawMade). TestedInOrder s t (length x.room) x.outcome.number) s t m p
    (tests-in-order s t (made_by s t m) (made-promised s t m p))

pub raw-body-broke : RawBodyBroke
unfolding raw_outcome
raw-body-broke s t m p =
    by-made (λ (x : RawMade). x.outcome.number < 256 → OffsetGiven s.connection t (raw_message s x) x.outcome.number (raw_values x)) s t m p
    (λ l.
    let made = made_by s t m in
    let n = answer_number made.outcome.answer in
    subst (OffsetGiven s.connection t (message_of s made) n) (sym (values-told made))
    (refused-at-field s t made n (made-promised s t m p) (refused-is made.outcome.answer l)))

pub raw-others-untouched : RawOthersUntouched
unfolding raw_outcome
raw-others-untouched s t m p =
    by-made (λ (x : RawMade). (x.outcome.number ≡ 265 → ⊥) → (x.outcome.number ≡ 267 → ⊥) → RawUntouched t x) s t m p
    (others s t (made_by s t m) (made-promised s t m p))

pub raw-held-when-acknowledged : RawHeldWhenAcknowledged
raw-held-when-acknowledged s t m p =
    by-made (λ (x : RawMade). is_acknowledgement (raw_reply x) ≡ true → RawEntryHeld s t x) s t m p
    (λ h.
    let made = made_by s t m in
    entry-held s t made (held-when-acknowledged s t made (made-promised s t m p) (ap is_acknowledgement (sym (same-reply made)) ∙ h)))

pub raw-other-records-sound : RawOtherRecordsSound
raw-other-records-sound s t m other p f = other-records-sound s t (made_by s t m) other (made-promised s t m p) f

-- ---- an update by its number

-- the number 267 is an update's alone
updates : (a : Answer) → RefusedByte a → answer_number a ≡ 267
    → (table : ℕ) × ((id : ℕ) × ((how : Commit) × (a ≡ answer.Update table id (get_or (answer_values a) 2 0) how)))
unfolding answer_number answer_values refusal_of
updates answer.More h e = absurd (omega (arith, e))
updates (answer.Hello process relative) h e = absurd (omega (arith, e))
updates answer.Status h e = absurd (omega (arith, e))
updates answer.Request h e = absurd (omega (arith, e))
updates answer.Finished h e = absurd (omega (arith, e))
updates answer.Partial h e = absurd (omega (arith, e))
updates answer.Confirmed h e = absurd (omega (arith, e))
updates answer.Heartbeat h e = absurd (omega (arith, e))
updates (answer.Error type) h e = absurd (omega (arith, e))
updates (answer.Table place) h e = absurd (omega (arith, e))
updates (answer.Switch place) h e = absurd (omega (arith, e))
updates (answer.Update table id entry how) h e = (table, (id, (how, refl)))
updates (answer.Acknowledgement id update) h e = absurd (omega (arith, e))
updates (answer.Skipped type) h e = absurd (omega (arith, e))
updates (answer.Refused n) h e = let l = h n refl in absurd (omega (arith, l, e))
updates (answer.RefusedAt n offset) h e = let l = h n refl in absurd (omega (arith, l, e))

-- ---- the counts

update-told : (cs : List ℕ) (table id place : ℕ) (how : Commit)
    → answered_counts (answer.Update table id place how) cs ≡ raw_counts 267 (answer_values (answer.Update table id place how)) cs
unfolding answered_counts committed_counts raw_counts answer_values
update-told cs table id place commit.New = refl
update-told cs table id place commit.Replaced = refl

other-told : (a : Answer) (cs : List ℕ) → (answer_number a ≡ 267 → ⊥) → answered_counts a cs ≡ raw_counts (answer_number a) (answer_values a) cs
unfolding answer_number raw_counts
other-told a cs f =
    let new = eqb (get_or (answer_values a) 3 0) 0 in
    other-counts a cs (λ table id place how e. f (ap answer_number e))
    ∙ sym (cond-false (eqb (answer_number a) 267 && new) _ _ (and-false (eqb (answer_number a) 267) new (ne_eqb (answer_number a) 267 f)))

told-counts : (a : Answer) → RefusedByte a → (cs : List ℕ) → answered_counts a cs ≡ raw_counts (answer_number a) (answer_values a) cs
unfolding answer_number
told-counts a h cs =
    by-test (eqb (answer_number a) 267)
    (λ e.
    let u = updates a h (eqb-true (answer_number a) 267 e) in
    let same = u.1.1.1 in
    ap (λ (b : Answer). answered_counts b cs) same
    ∙ (update-told cs u.0 u.1.0 (get_or (answer_values a) 2 0) u.1.1.0
    ∙ ap (λ (b : Answer). raw_counts (answer_number b) (answer_values b) cs) (sym same)))
    (λ e. other-told a cs (eqb-false (answer_number a) 267 e))

counts-told : (s : Session) (t : Store) (m : Made) → ReadPromise s t m
    → m.store.counts ≡ raw_counts (answer_number m.outcome.answer) (raw_values (raw_of m)) t.counts
counts-told s t m p =
    read-counts s t m p
    ∙ (told-counts m.outcome.answer (refused-byte s t m p) t.counts
    ∙ ap (λ (vs : List ℕ). raw_counts (answer_number m.outcome.answer) vs t.counts) (sym (values-told m)))

pub raw-counts-kept : RawCountsKept
unfolding raw_outcome
raw-counts-kept s t m p =
    by-made (λ (x : RawMade). x.store.counts ≡ raw_counts x.outcome.number (raw_values x) t.counts) s t m p
    (counts-told s t (made_by s t m) (made-promised s t m p))

-- ---- the store

-- a reading call leaves a store of the same shape
left-shape : (s : Session) (t : Store) (m : Made) → ReadPromise s t m → Way s t m.piece (call_of s t m.piece (length m.room)) → StoreShape m.store
unfolding held_by
left-shape s t m p (staying n h q) = subst StoreShape (sym (p.store ∙ ap (λ (k : Call State Answer). k.state.store) q)) p.shaped.store
left-shape s t m p (waiting-on w) = subst StoreShape (sym (p.store ∙ ap (λ (k : State). k.store) w.state)) p.shaped.store
left-shape s t m p (judging e j) = (next-shaped lawful s t m p j.sound (good-held s t p.shaped j.sound)).store

-- soundness of the store alone is that with a record which is sound with every sound store
abbrev spare : Session
spare = («open» answerer [] [] 0).session

kept_store : (t : Store) → sound_store t ≡ true → StoreShape t → KeptStore t
kept_store t f sh = record { sound = f; counts = (sound-facts t f).counts; shape = sh }

pub raw-store-sound : RawStoreSound
raw-store-sound s t m p f =
    let made = made_by s t m in
    let promised = made-promised s t m p in
    kept_store m.store (sound-store spare m.store (raw-other-records-sound s t m spare p (open-sound answerer [] [] 0 t f)))
    (left-shape s t made promised (ways s t made promised))

passed-store : (t : Store) (p : Passed) → PassPromise t p → sound_store t ≡ true → KeptStore p.store
passed-store t p promise f =
    let e = p.milliseconds in
    subst KeptStore (sym (passed-as-model t p promise f).store)
    (kept_store (pass_time e t) (pass-sound e t f) (pass_shape e t promise.shaped))

-- ---- places that time frees

no-entry-free : entry_free no_entry ≡ true
unfolding entry_free no_entry
no-entry-free = refl

-- the lowest free place isn't above a free one
lowest-free : (t : Store) (place : ℕ) → place < length t.entries → entry_free (get_or t.entries place no_entry) ≡ true → (f : (Option ℕ)) → free_entry t ≡ f
    → (lowest : ℕ) × ((free_entry t ≡ Some lowest) × (lowest ≤ place))
unfolding free_entry
lowest-free t place l free (Some i) e =
    ⊎_elim
    (λ less. never free ((first-at entry_free t.entries i e).lower place no_entry less))
    (λ most. (i, (e, most)))
    (lt-or-le place i)
lowest-free t place l free None e = never free (first-nothing entry_free t.entries e place no_entry l)

-- an entry whose key isn't held goes to it
goes-free : (t : Store) (lowest : ℕ) → free_entry t ≡ Some lowest → (e : Entry) → first_place (keyed_as e) t.entries ≡ None
    → goes_to t.entries e ≡ places.Free lowest
unfolding free_entry goes_to place_of free_of
goes-free t lowest next e none = λ i. place_of (none i) (next i)

pass-many : (e : ℕ) (t : Store) → length (pass_time e t).entries ≡ length t.entries
unfolding pass_time with_entries
pass-many e t = length-map t.entries (pass_entry e)

freed : (t : Store) (p : Passed) (place : ℕ) → PassPromise t p → p.number ≡ 0 → entry_timed (get_or t.entries place no_entry) ≡ true
    → (get_or t.entries place no_entry).remaining ≤ p.milliseconds → FreedPlace p.store place
freed t p place promise z timed most =
    let e = p.milliseconds in
    let left = (passed-or-refused t p promise).passed z in
    let cleared : get_or p.store.entries place no_entry ≡ no_entry =
    ap (λ (x : Store). get_or x.entries place no_entry) left
    ∙ (entry-passes e t place ∙ pass-removes e (get_or t.entries place no_entry) timed most)
    in
    let free = ap entry_free cleared ∙ no-entry-free in
    let inside = within t.entries place timed in
    let n = lowest-free p.store place (omega (arith, inside, passed-many t p left)) free (free_entry p.store) refl in
    record { cleared = cleared; free = free; lowest = n.0; next = n.1.0; not-above = n.1.1; used = goes-free p.store n.0 n.1.0 }
  where
    within : (es : List Entry) (i : ℕ) → entry_timed (get_or es i no_entry) ≡ true → i < length es
    within es i h =
        ⊎_elim (λ l. l) (λ l. never h (ap entry_timed (get_or-eq_default es no_entry l) ∙ no-entry-timed)) (lt-or-le i (length es))

    passed-many : (t : Store) (p : Passed) → p.store ≡ pass_time p.milliseconds t → length p.store.entries ≡ length t.entries
    passed-many t p e = ap (λ (x : Store). length x.entries) e ∙ pass-many p.milliseconds t

-- ---- the bytes of every entry

none-updates : (s : Session) (t : Store) (place : ℕ) (cs : List Called) → Chain s t cs → NoneUpdates place cs → RawNoneUpdates place (map raw_called cs)
unfolding Chain NoneUpdates RawNoneUpdates raw_outcome
none-updates s t place [] c n = tt
none-updates s t place (reads m ∷ cs) c n = (
  (λ e q.
      let a = m.outcome.answer in
      let u = updates a (refused-byte s t m c.0) e in
      let third = ap (λ (vs : List ℕ). get_or vs 2 0) (sym (values-told m)) ∙ q in
      n.0 u.0 u.1.0 u.1.1.0 (u.1.1.1 ∙ ap (λ (i : ℕ). answer.Update u.0 u.1.0 i u.1.1.0) third)),
  none-updates m.session m.store place cs c.1 n.1,
)
none-updates s t place (passes p ∷ cs) c n = none-updates s p.store place cs c.1 n

same-passing : (cs : List Called) → raw_passing (map raw_called cs) ≡ passing cs
unfolding raw_passing passing
same-passing [] = refl
same-passing (reads m ∷ cs) = same-passing cs
same-passing (passes p ∷ cs) = ap (p ∷◌) (same-passing cs)

-- the calls after some are a list of calls too
chain-after : (s : Session) (t : Store) (before : List Called) (m : Made) (after : List Called) → Chain s t (before ++ (reads m ∷ after))
    → Chain m.session m.store after
unfolding Chain
chain-after s t [] m after c = c.1
chain-after s t (reads b ∷ before) m after c = chain-after b.session b.store before m after c.1
chain-after s t (passes p ∷ before) m after c = chain-after s p.store before m after c.1

module _ (s : Session) (t : Store) (cs : List Called) (place : ℕ) (c : Chain s t cs) where
  same-entry : raw_last_entry t (map raw_called cs) place ≡ last_entry t cs place
  same-entry = ap (λ (x : Store). get_or x.entries place no_entry) (same_store t cs)

  same-since : (later : List Called) (x : Entry) → Since (passing later) x (last_entry t cs place)
      → Since (raw_passing (map raw_called later)) x (raw_last_entry t (map raw_called cs) place)
  same-since later x h = rw (same-passing later, same-entry) h

  never-updated : NeverUpdated t cs place → RawNeverUpdated t (map raw_called cs) place
  never-updated n = record {
    none = none-updates s t place cs c n.none;
    since = same-since cs (get_or t.entries place no_entry) n.since;
  }

  module _ (u : LastUpdate s t cs place) where
    after-chain : Chain u.call.session u.call.store u.after
    after-chain = chain-after s t u.before u.call u.after (subst (Chain s t) u.among c)

    answered : u.call ≡ answering (answer.Update u.table u.id place u.how) (raw_of u.call)
    unfolding raw_outcome
    answered = λ i. record {
      piece = u.call.piece;
      room = u.call.room;
      outcome = record { taken = u.call.outcome.taken; reply_len = u.call.outcome.reply_len; answer = u.answer i };
      session = u.call.session;
      store = u.call.store;
      final = u.call.final;
    }

    message-is : UpdateMessage (raw_last_session s (map raw_called u.before)) (answering (answer.Update u.table u.id place u.how) (raw_of u.call)) u.table u.id
        (table_at u.call u.table) (entry_at u.call place)
    message-is =
        rw (same-session s u.before)
        (subst (λ (x : Made). UpdateMessage (last_session s u.before) x u.table u.id (table_at u.call u.table) (entry_at u.call place)) answered u.message)

    stood-is : unfinished s ++ bytes_in (raw_taken (map raw_called cs))
        ≡ u.earlier ++ (raw_message (raw_last_session s (map raw_called u.before)) (raw_of u.call) ++ bytes_in (raw_taken (map raw_called u.after)))
    unfolding raw_outcome
    stood-is = rw (same_taken cs, same-session s u.before, same_taken u.after) u.stood

    last-update : RawLastUpdate s t (map raw_called cs) place
    last-update = record {
      before = map raw_called u.before;
      call = raw_of u.call;
      after = map raw_called u.after;
      among = ap (map raw_called) u.among ∙ map-append raw_called u.before (reads u.call ∷ u.after);
      table = u.table;
      id = u.id;
      how = u.how;
      told = told s t u.call u.table u.id place u.how u.answer;
      last = none-updates u.call.session u.call.store place u.after after-chain u.last;
      since = same-since u.after (entry_at u.call place) u.since;
      message = message-is;
      placed = rw (same_store t u.before) u.placed;
      earlier = u.earlier;
      stood = stood-is;
    }

-- ---- the bytes of a definition

-- the number 265 is a definition's alone
defines : (a : Answer) → RefusedByte a → answer_number a ≡ 265 → (place : ℕ) × (a ≡ answer.Table place)
unfolding answer_number refusal_of
defines answer.More h e = absurd (omega (arith, e))
defines (answer.Hello process relative) h e = absurd (omega (arith, e))
defines answer.Status h e = absurd (omega (arith, e))
defines answer.Request h e = absurd (omega (arith, e))
defines answer.Finished h e = absurd (omega (arith, e))
defines answer.Partial h e = absurd (omega (arith, e))
defines answer.Confirmed h e = absurd (omega (arith, e))
defines answer.Heartbeat h e = absurd (omega (arith, e))
defines (answer.Error type) h e = absurd (omega (arith, e))
defines (answer.Table place) h e = (place, refl)
defines (answer.Switch place) h e = absurd (omega (arith, e))
defines (answer.Update table id entry how) h e = absurd (omega (arith, e))
defines (answer.Acknowledgement id update) h e = absurd (omega (arith, e))
defines (answer.Skipped type) h e = absurd (omega (arith, e))
defines (answer.Refused n) h e = let l = h n refl in absurd (omega (arith, l, e))
defines (answer.RefusedAt n offset) h e = let l = h n refl in absurd (omega (arith, l, e))

module _ (s : Session) (t : Store) (m : Made) (place : ℕ) (a : m.outcome.answer ≡ answer.Table place) where
  table-answered : m ≡ answering (answer.Table place) (raw_of m)
  unfolding raw_outcome
  table-answered = λ i. record {
    piece = m.piece;
    room = m.room;
    outcome = record { taken = m.outcome.taken; reply_len = m.outcome.reply_len; answer = a i };
    session = m.session;
    store = m.store;
    final = m.final;
  }

  told-table : ToldTable (raw_of m) place
  unfolding raw_outcome answer_number answer_values
  told-table = record { number = ap answer_number a; values = values-told m ∙ ap answer_values a }

  defined : ReadPromise s t m → RawDefinition s t (raw_of m)
  defined p = record {
    place = place;
    told = told-table;
    defined =
        subst (λ (x : Made). TableDefined s t x place (binding_at m.session.connection place).id (table_at m place)) table-answered
        (bytes-of-definition s t m place p a);
  }

pub raw-bytes-of-definition : RawBytesOfDefinition
unfolding raw_outcome
raw-bytes-of-definition s t m p =
    by-made (λ (x : RawMade). x.outcome.number ≡ 265 → RawDefinition s t x) s t m p
    (λ e.
    let made = made_by s t m in
    let promised = made-promised s t m p in
    let d = defines made.outcome.answer (refused-byte s t made promised) e in
    defined s t made d.0 d.1 promised)

-- ---- a refused opening

module _ (role : Role) (local remote room final : List ℕ) where
  abbrev opening : Opening
  opening = «open» role local remote (length room)

  refused-numbers : final ≡ open_room role local remote room → answer_number opening.answer < 256 → RawRefusedOpening (raw_opened (opened_of opening)) room final
  unfolding raw_opened raw_outcome opened_of
  refused-numbers f l =
      let r = refused-opening-untouched role local remote room (answer_number opening.answer) (refused-is opening.answer l) in
      record { taken = refl; number = r.number; session = r.session; count = ap length r.reply; room = f ∙ r.room }

pub raw-refused-opening-untouched : RawRefusedOpeningUntouched
unfolding raw_opened raw_outcome opened_of
raw-refused-opening-untouched role local remote room final o e f l =
    subst (λ (x : RawOpened). RawRefusedOpening x room final) (sym e)
    (refused-numbers role local remote room final f (subst (λ (x : RawOpened). x.outcome.number < 256) e l))

-- ---- the bytes of every entry, along the calls

pub raw-bytes-of-every-entry : RawBytesOfEveryEntry
raw-bytes-of-every-entry s t calls place c =
    let made = mades_by s t calls in
    let chain = mades-chain s t calls c in
    subst (λ (cs : List RawCalled). RawNeverUpdated t cs place ⊎ RawLastUpdate s t cs place) (sym (mades-same s t calls c))
    (⊎_elim (λ n. inl (never-updated s t made place chain n)) (λ u. inr (last-update s t made place chain u)) (bytes-of-every-entry s t made place chain))

-- ---- a call that passes time

pub passing-calls : PassingCalls
passing-calls = record { refused = refused-pass-untouched; records = passed-records-sound; sound = passed-store; freed = freed; twice = passed-twice }

-- ---- the sending state

pub raw-sending-stays : RawSendingStays
raw-sending-stays s t m p =
    by-made (λ (x : RawMade). x.session.sending ≡ s.sending) s t m p (sending-stays s t (made_by s t m) (made-promised s t m p))
