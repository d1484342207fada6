-- Request 3 of the exported calls: a whole store taught, and sending calls among reading ones.
use Prim.Native.Nat.{ℕ, ◌+◌, ◌^◌, ◌≤◌, ◌<◌}
use native.Mathlib.Omega.{arith}
use mathlib.Core.Path.{◌≡◌, refl, sym, ap, subst, ◌∙◌}
use mathlib.Core.Logic.{◌⊎◌, inl, inr, ⊎_elim}
use mathlib.Core.Bool.{Bool, true, false, cond, true≢false}
use mathlib.Core.List.{List, [], ◌∷◌, ◌++◌, map, flatten}
use lib.ListN.{length, length-append, length-map, get_or-eq_default}
use lib.Dec.{eqb}
use borrow.Author.Tests.{eq-eqb, le-ltb, ltb-true}
use Rattle.lists.specs.Lists.{every, among, front}
use Rattle.lists.proofs.Cases.{by-test, never, split, lt-or-le, and_first, and_second}
use Rattle.lists.proofs.Maps.{mapped_at}
use Rattle.store.specs.declared.Entry.{Entry}
use Rattle.store.specs.declared.Store.{Store}
use Rattle.store.specs.Limits.{table_places}
use Rattle.store.specs.Store.{table_held, entry_held, no_entry, with_entries}
use Rattle.store.specs.Shape.{StoreShape}
use Rattle.store.specs.Sound.{sound_store}
use Rattle.store.specs.Contents.{table_at, entry_at, SameContents, with_expiry, with_expiries}
use Rattle.store.proofs.Facts.{sound-facts}
use Rattle.session.specs.declared.Connection.{Connection}
use Rattle.session.specs.declared.Sending.{Sending}
use Rattle.session.specs.declared.Session.{Session}
use Rattle.session.specs.declared.Answer.{Answer}
use Rattle.session.specs.Session.{is_closed, established, with_sending}
use Rattle.session.specs.Shape.{ConnectionShape, SendingShape, SessionShape}
use Rattle.session_soundness.specs.Sound.{sound}
use Rattle.session_soundness.proofs.Records.{sound-store}
use Rattle.body.specs.Encodings.{message_bytes}
use Rattle.streams.specs.Model.{Item, Ran, bytes, feed_all}
use Rattle.streams.specs.Calls.{Call, result_of, eventless}
use Rattle.streams.proofs.Reachable.{bytes-eventless, pieces-timeline}
use Rattle.receiver.specs.Model.{State, Event, held_by, reply_room, is_byte, peers}
use Rattle.receiver.specs.Promise.{Shaped, call_of, outcome_of, session_of}
use Rattle.receiver.specs.Demand3.{model_ran}
use Rattle.receiver.proofs.OnePass.{passed-keeps-sound}
use Rattle.receiver.proofs.Sending.{reads-alike}
use Rattle.sending.specs.Sending.{send_room, send_number, Asked, definition, entry, Askable, is_of, can_send, definition_message, entry_message, message_for, number_for}
use Rattle.sending.proofs.finish.Ending.{held_place}
use Rattle.teaching.specs.Teaching.{TableIds, SendsAll, asked_for, messages_for, acknowledgements_for, is_empty, fresh_state, ModelTaught, all_can_send, id_of}
use Rattle.teaching.proofs.Fitting.{no-entry}
use Rattle.teaching.proofs.ContentsKept.{expiry-held}
use Rattle.teaching.proofs.CanBeSent.{held-within, id_fits, all-can-be-sent, asked-fit}
use Rattle.teaching.proofs.ByteMessages.{messages-are-bytes}
use Rattle.teaching.proofs.ModelTaught.{every-model-taught, empty-table, empty-entry}
use Rattle.teaching.proofs.PhaseStays.{established-stays}
use Rattle.worked_cases.proofs.ListingByCalls.{cut-bytes}
use Rattle.peers.specs.Numbers.{raw_outcome}
use Rattle.peers.specs.Reading.{RawMade, RawPromise}
use Rattle.peers.specs.Sending.{RawSendMade, RawSendPromise, sent_bytes}
use Rattle.peers.specs.ExportedDemand3.{RawCalled, raw_reads, raw_passes, RawChain, raw_last_session, raw_last_store, RawResult, raw_came_to, in_numbers, RawOffersTo}
use Rattle.peers.specs.ExportedSending.{RawSentOrRefused, RawSentSound, RoomsSuffice, SendRooms, NoneRefused, sends_in, sent_in, NothingElseWrites, StaysOpen, Sender, AskedOnce, Teaching, PastHandshake, Reader, BeingTaught, Taught, joined_messages, EveryStoreTaught, TeachingNotRefused, ReadingExists, EveryTeachingExists, AnyCall, reads, passes, sends, AnyChain, any_last_session, any_last_store, reads_with, left_out, SendingApart, SendingLeftOut}
use Rattle.peers.proofs.ExportedDemand3.{exported-demand-3}
use Rattle.peers.proofs.ExportedCorollaries.{raw-bytes-offered, raw-sending-stays}
use Rattle.peers.proofs.SendingCalls.{WasSent, was-sent, sent-bytes, sent-state, send-refused, refused-bytes, sent-or-refused, keeps-sound, leaves-with, shape-with, sent-shaped, send_of, send-promised}

pub raw-sent-or-refused : RawSentOrRefused
raw-sent-or-refused = sent-or-refused

pub raw-sent-sound : RawSentSound
raw-sent-sound = keeps-sound

-- ---- calls for what can be sent

-- with room enough, nothing that can be sent is refused
zero-told : (s : Session) (t : Store) (room : ℕ) (a : Asked) → sound s t ≡ true → PastHandshake s → can_send t s.sending a ≡ true → send_room ≤ room
    → eqb (number_for s t room a) 0 ≡ true
unfolding number_for send_number
zero-told s t room a f h e l = rw (f, h.opened, le-ltb room send_room l, eq-eqb s.connection.phase established h.established, e)

past-with : (s : Session) (x : Sending) → PastHandshake s → PastHandshake (with_sending s x)
unfolding with_sending
past-with s x h = record { opened = h.opened; established = h.established }

-- a call of such a list, and what the next one meets
record Next (s : Session) (t : Store) (m : RawSendMade) (rest : List Asked) : Type 0 where
  pub was : WasSent s t m
  pub sound : sound m.session t ≡ true
  pub past : PastHandshake m.session
  pub there : all_can_send t m.session.sending rest ≡ true

next_of : (s : Session) (t : Store) (m : RawSendMade) (rest : List Asked) → RawSendPromise s t m → sound s t ≡ true → PastHandshake s
    → all_can_send t s.sending (m.asked ∷ rest) ≡ true → send_room ≤ length m.room → Next s t m rest
unfolding all_can_send
next_of s t m rest p f h k l =
    let x = s.sending in
    let a = m.asked in
    let later = all_can_send t (message_for t x a).sending rest in
    let w = was-sent s t m p (zero-told s t (length m.room) a f h (and_first (can_send t x a) later k) l) in
    record {
      was = w;
      sound = keeps-sound s t m p f;
      past = subst PastHandshake (sym w.session) (past-with s (message_for t x a).sending h);
      there = ap (λ (y : Sending). all_can_send t y rest) (sent-state s t m w) ∙ and_second (can_send t x a) later k;
    }

abbrev asked_in : RawSendMade → Asked
asked_in m = m.asked

pub read-sound : (s : Session) (t : Store) (m : RawMade) → RawPromise s t m → sound s t ≡ true → sound m.session m.store ≡ true
unfolding RawChain raw_last_session raw_last_store
read-sound s t m p f = (exported-demand-3 s t (raw_reads m ∷ []) f (p, tt)).sound

-- ---- what calls of any kind wrote

abbrev joined_for : Store → Sending → List Asked → List ℕ
joined_for t x asked = flatten (messages_for t x asked)

-- a sending call and those behind it, which wrote the messages of the ones with number 0
module _ (s : Session) (t : Store) (m : RawSendMade) (p : RawSendPromise s t m) (cs : List AnyCall)
    (rest : joined_messages cs ≡ joined_for t m.session.sending (map asked_in (sent_in cs))) where
  abbrev asked : List Asked
  asked = map asked_in (sent_in cs)

  -- by the call's test
  abbrev wanted : Bool → List ℕ
  wanted zero = joined_for t s.sending (map asked_in (cond zero (m ∷ sent_in cs) (sent_in cs)))

  tested : (zero : Bool) → eqb m.outcome.number 0 ≡ zero → eqb (number_for s t (length m.room) m.asked) 0 ≡ zero
  tested zero e = ap (λ (n : ℕ). eqb n 0) (sym p.number) ∙ e

  by-sent : eqb m.outcome.number 0 ≡ true → sent_bytes m ++ joined_messages cs ≡ wanted true
  unfolding messages_for flatten
  by-sent e =
      let w = was-sent s t m p (tested true e) in
      let k = rest ∙ ap (λ (x : Sending). joined_for t x asked) (sent-state s t m w) in
      λ i. sent-bytes s t m w i ++ k i

  by-refused : eqb m.outcome.number 0 ≡ false → sent_bytes m ++ joined_messages cs ≡ wanted false
  by-refused e =
      let r = send-refused s t m p (tested false e) in
      ap (λ (bs : List ℕ). bs ++ joined_messages cs) (refused-bytes s t m r) ∙ (rest ∙ ap (λ (z : Session). joined_for t z.sending asked) r.session)

  by-either : sent_bytes m ++ joined_messages cs ≡ wanted (eqb m.outcome.number 0)
  by-either = by-test (eqb m.outcome.number 0) (λ e. by-sent e ∙ ap wanted (sym e)) (λ e. by-refused e ∙ ap wanted (sym e))

-- they wrote the messages of those with number 0, whatever record they began on
all-written : (t : Store) (cs : List AnyCall) (s : Session) → AnyChain s t cs → NothingElseWrites t cs
    → joined_messages cs ≡ joined_for t s.sending (map asked_in (sent_in cs))
unfolding AnyChain NothingElseWrites sends_in sent_in messages_for flatten
all-written t [] s c o = refl
all-written t (reads m ∷ cs) s c o =
    all-written t cs m.session (subst (λ (v : Store). AnyChain m.session v cs) o.0 c.1) o.1
    ∙ ap (λ (x : Sending). joined_for t x (map asked_in (sent_in cs))) (raw-sending-stays s t m c.0)
all-written t (passes p ∷ cs) s c o = all-written t cs s (subst (λ (v : Store). AnyChain s v cs) o.0 c.1) o.1
all-written t (sends m ∷ cs) s c o = by-either s t m c.0 cs (all-written t cs m.session c.1 o)

taught-messages : (s : Session) (t : Store) (ids : List TableIds) (cs : List AnyCall) → Teaching s t ids cs
    → joined_messages cs ≡ joined_for t s.sending (asked_for t ids)
taught-messages s t ids cs g = all-written t cs s g.chain g.others ∙ ap (joined_for t s.sending) g.asked

-- ---- none is refused

-- a reading call that leaves the store and the session open leaves a sender
still-sender : (s : Session) (t : Store) (m : RawMade) → RawPromise s t m → m.store ≡ t → is_closed m.session.connection ≡ false → sound s t ≡ true
    → PastHandshake s → (sound m.session t ≡ true) × PastHandshake m.session
still-sender s t m p q o f h =
    let e = ap (λ (z : Session). z.connection.phase) p.session ∙ established-stays s t m.piece (length m.room) h.established in
    (subst (λ (v : Store). sound m.session v ≡ true) q (read-sound s t m p f), record { opened = o; established = e })

all-sent : (t : Store) (cs : List AnyCall) (s : Session) → sound s t ≡ true → PastHandshake s → all_can_send t s.sending (map asked_in (sends_in cs)) ≡ true
    → RoomsSuffice (sends_in cs) → AnyChain s t cs → NothingElseWrites t cs → StaysOpen cs → NoneRefused (sends_in cs)
unfolding RoomsSuffice AnyChain NothingElseWrites StaysOpen sends_in NoneRefused
all-sent t [] s f h k r c o z = tt
all-sent t (reads m ∷ cs) s f h k r c o z =
    let g = still-sender s t m c.0 o.0 z.0 f h in
    let same : m.session.sending ≡ s.sending = raw-sending-stays s t m c.0 in
    all-sent t cs m.session g.0 g.1 (ap (λ (x : Sending). all_can_send t x (map asked_in (sends_in cs))) same ∙ k) r
    (subst (λ (v : Store). AnyChain m.session v cs) o.0 c.1) o.1 z.1
all-sent t (passes p ∷ cs) s f h k r c o z = all-sent t cs s f h k r (subst (λ (v : Store). AnyChain s v cs) o.0 c.1) o.1 z
all-sent t (sends m ∷ cs) s f h k r c o z =
    let n = next_of s t m (map asked_in (sends_in cs)) c.0 f h k r.0 in
    (n.was.number, all-sent t cs m.session n.sound n.past n.there r.1 c.1 o z)

sent-all : (cs : List AnyCall) → NoneRefused (sends_in cs) → sent_in cs ≡ sends_in cs
unfolding sends_in sent_in NoneRefused
sent-all [] n = refl
sent-all (reads m ∷ cs) n = sent-all cs n
sent-all (passes p ∷ cs) n = sent-all cs n
sent-all (sends m ∷ cs) n =
    ap (λ (zero : Bool). cond zero (m ∷ sent_in cs) (sent_in cs)) (eq-eqb m.outcome.number 0 n.0)
    ∙ ap (λ (ms : List RawSendMade). m ∷ ms) (sent-all cs n.1)

pub teaching-not-refused : TeachingNotRefused
teaching-not-refused s t ids cs g =
    let none =
    all-sent t cs s g.sender.sound g.sender.past
    (ap (all_can_send t s.sending) g.asked ∙ all-can-be-sent t ids s.sending g.sends-all)
    g.rooms g.chain g.others g.opened in (
      none,
      record {
        sound = g.sender.sound;
        sends-all = g.sends-all;
        asked = ap (map asked_in) (sent-all cs none) ∙ g.asked;
        chain = g.chain;
        others = g.others;
      },
    )

-- ---- such calls exist

sends_of : Session → Store → List ℕ → List Asked → List RawSendMade
sends_of s t room [] = []
sends_of s t room (a ∷ asked) = send_of s t room a ∷ sends_of (send_of s t room a).session t room asked

sends-asked : (s : Session) (t : Store) (room : List ℕ) (asked : List Asked) → map asked_in (sends_of s t room asked) ≡ asked
unfolding sends_of
sends-asked s t room [] = refl
sends-asked s t room (a ∷ asked) = ap (λ (more : List Asked). a ∷ more) (sends-asked (send_of s t room a).session t room asked)

sends-rooms : (s : Session) (t : Store) (room : List ℕ) (asked : List Asked) → SendRooms room (sends_of s t room asked)
unfolding sends_of SendRooms
sends-rooms s t room [] = tt
sends-rooms s t room (a ∷ asked) = (refl, sends-rooms (send_of s t room a).session t room asked)

rooms-suffice : (room : List ℕ) (ms : List RawSendMade) → send_room ≤ length room → SendRooms room ms → RoomsSuffice ms
unfolding SendRooms RoomsSuffice
rooms-suffice room [] l r = tt
rooms-suffice room (m ∷ ms) l r = (subst (λ (ys : List ℕ). send_room ≤ length ys) (sym r.0) l, rooms-suffice room ms l r.1)

sent-askable : (t : Store) (x : Sending) (a : Asked) → StoreShape t → can_send t x a ≡ true → id_of a < 2 ^ 32 → Askable a
unfolding can_send is_of id_of Askable
sent-askable t x (definition place id) shape h l = (let k = held_place t.tables place shape.tables h in omega (arith, k), l)
sent-askable t x (entry place id) shape h l =
    let k = held-within t.entries place (and_first (entry_held (entry_at t place)) (eqb ((entry_at t place).table + 1) x.defined) h) in
    (omega (arith, k, shape.entries), l)

first-can-send : (t : Store) (x : Sending) (a : Asked) (asked : List Asked) → all_can_send t x (a ∷ asked) ≡ true → can_send t x a ≡ true
unfolding all_can_send
first-can-send t x a asked k = and_first (can_send t x a) (all_can_send t (message_for t x a).sending asked) k

sends-chain : (t : Store) (room : List ℕ) → StoreShape t → send_room ≤ length room → (asked : List Asked) (s : Session) → SessionShape s → sound s t ≡ true
    → PastHandshake s → all_can_send t s.sending asked ≡ true → every id_fits asked ≡ true → AnyChain s t (map sends (sends_of s t room asked))
unfolding AnyChain sends_of every
sends-chain t room shape l [] s sh f h k q = tt
sends-chain t room shape l (a ∷ asked) s sh f h k q =
    let small = ltb-true (id_of a) (2 ^ 32) (and_first (id_fits a) (every id_fits asked) q) in
    let m = send_of s t room a in
    let p = send-promised s t room a sh shape (sent-askable t s.sending a shape (first-can-send t s.sending a asked k) small) in
    let n = next_of s t m asked p f h k l in
    (p, sends-chain t room shape l asked m.session (sent-shaped s t m p) n.sound n.past n.there (and_second (id_fits a) (every id_fits asked) q))

sends-in : (ms : List RawSendMade) → sends_in (map sends ms) ≡ ms
unfolding sends_in
sends-in [] = refl
sends-in (m ∷ ms) = ap (λ (more : List RawSendMade). m ∷ more) (sends-in ms)

sends-alone : (t : Store) (ms : List RawSendMade) → NothingElseWrites t (map sends ms)
unfolding NothingElseWrites
sends-alone t [] = tt
sends-alone t (m ∷ ms) = sends-alone t ms

sends-open : (ms : List RawSendMade) → StaysOpen (map sends ms)
unfolding StaysOpen
sends-open [] = tt
sends-open (m ∷ ms) = sends-open ms

sends-once : (s : Session) (t : Store) (ids : List TableIds) (room : List ℕ) → Shaped s t → Sender s t → SendsAll t ids → send_room ≤ length room
    → AskedOnce s t ids (map sends (sends_of s t room (asked_for t ids)))
sends-once s t ids room sh sender sends-all l =
    let asked = asked_for t ids in
    let made = sends_of s t room asked in
    record {
      sender = sender;
      sends-all = sends-all;
      asked = ap (map asked_in) (sends-in made) ∙ sends-asked s t room asked;
      rooms = subst RoomsSuffice (sym (sends-in made)) (rooms-suffice room made l (sends-rooms s t room asked));
      chain =
          sends-chain t room sh.store l asked s sh.session sender.sound sender.past (all-can-be-sent t ids s.sending sends-all)
          (asked-fit t sh.store (sound-store s t sender.sound) ids sends-all.each);
      others = sends-alone t made;
      opened = sends-open made;
    }

reading-exists : (q : Session) (e : Store) (cuts : List (List ℕ)) (room : List ℕ) → Shaped q e → Reader q e → every is_byte (flatten cuts) ≡ true
    → reply_room ≤ length room → ReadingExists q e cuts room
reading-exists q e cuts room sh reader small l =
    let o = raw-bytes-offered q e reader.sound sh cuts room (cut-bytes cuts small) l in
    record {
      calls = o.calls;
      rooms = o.rooms;
      within = o.within;
      taught = record {
        reader = reader;
        chain = o.chain;
        offers = subst (λ (items : List (Item Event)). RawOffersTo q items o.calls) (pieces-timeline Event cuts) o.offers;
      };
    }

pub every-teaching-exists : EveryTeachingExists
every-teaching-exists s t ids room sh sender sends-all l q e reply qh reader k =
    let asked = asked_for t ids in
    let made = sends_of s t room asked in
    let once = sends-once s t ids room sh sender sends-all l in
    let n = teaching-not-refused s t ids (map sends made) once in
    let g = n.1 in
    record {
      made = made;
      rooms = sends-rooms s t room asked;
      once = once;
      none-refused = n.0;
      teaching = g;
      reading = λ cuts w.
          reading-exists q e cuts reply qh reader
          (ap (every is_byte) (w ∙ taught-messages s t ids (map sends made) g) ∙ messages-are-bytes t ids s.sending sh.store sends-all) k;
    }

-- ---- nothing to teach: no place of the store is held

module _ (t : Store) (ok : sound_store t ≡ true) (sends-all : SendsAll t []) where
  none-held : (place : ℕ) → place < table_places → table_held (table_at t place) ≡ true → ⊥
  unfolding among
  none-held place l h = never (sends-all.all place l h) refl

  abbrev aged : Entry → Entry
  aged e = with_expiry (table_at t e.table) e

  same-held : (e f : Entry) → e.held ≡ f.held → entry_held e ≡ entry_held f
  unfolding entry_held
  same-held e f q = ap (λ (n : ℕ). eqb n 1) q

  none-entry : (place : ℕ) → entry_held (entry_at (with_expiries t) place) ≡ true → ⊥
  unfolding with_expiries with_entries
  none-entry place h =
      split (lt-or-le place (length t.entries))
      (λ l.
      let e = entry_at t place in
      let held = sym (ap entry_held (mapped_at aged t.entries place no_entry no_entry l) ∙ same-held (aged e) e (expiry-held (table_at t e.table) e)) ∙ h in
      let g = (sound-facts t ok).entry place l held in
      none-held e.table g.place g.table_held)
      (λ l.
      let k : length (map aged t.entries) ≤ place = omega (arith, l, length-map t.entries aged) in
      never h (ap entry_held (get_or-eq_default (map aged t.entries) no_entry k) ∙ no-entry))

  nothing-same : (e : Store) → sound_store e ≡ true → is_empty e ≡ true → SameContents (with_expiries t) e
  unfolding with_expiries with_entries
  nothing-same e fe empty = record {
    tables = λ c h. absurd (none-held h.place h.within h.held);
    tables-back = λ c h. never h.held (empty-table e fe empty h.place);
    entries = λ c h. absurd (none-entry h.place h.held);
    entries-back = λ c h. never h.held (empty-entry e fe empty h.place);
  }

nothing-taught : (t : Store) (ids : List TableIds) (x : Sending) (c : Connection) (e : Store) → sound_store t ≡ true → SendsAll t ids → asked_for t ids ≡ []
    → is_closed c ≡ false → sound_store e ≡ true → is_empty e ≡ true
    → ModelTaught t ids (feed_all peers (fresh_state c e) [] (bytes (flatten (messages_for t x (asked_for t ids)))))
unfolding asked_for messages_for flatten feed_all acknowledgements_for
nothing-taught t [] x c e ok sends-all q o fe empty =
    record { opened = o; none-unfinished = refl; same = nothing-same t ok sends-all e fe empty; replies = refl }
nothing-taught t (l ∷ ids) x c e ok sends-all q o fe empty = absurd (let n = ap length q in omega (arith, n))

-- ---- a message has bytes, so that no bytes are the messages of nothing

some_bytes : (t : Store) (x : Sending) (a : Asked) → 1 ≤ length (message_for t x a).bytes
unfolding message_for definition_message entry_message message_bytes
some_bytes t x (definition place id) = omega arith
some_bytes t x (entry place id) = omega arith

none-asked : (t : Store) (x : Sending) (asked : List Asked) → flatten (messages_for t x asked) ≡ [] → asked ≡ []
unfolding messages_for flatten
none-asked t x [] e = refl
none-asked t x (a ∷ asked) e =
    let m = message_for t x a in
    absurd (let n = ap length e in omega (arith, n, some_bytes t x a, length-append m.bytes (flatten (messages_for t m.sending asked))))

no_bytes : (bs : List ℕ) → bytes {E = Event} bs ≡ [] → bs ≡ []
no_bytes [] e = refl
no_bytes (b ∷ bs) e = absurd (let n = ap length e in omega (arith, n))

-- ---- a store taught

chain-shape : (s : Session) (t : Store) (cs : List AnyCall) → AnyChain s t cs → (cs ≡ []) ⊎ StoreShape t
unfolding AnyChain
chain-shape s t [] c = inl refl
chain-shape s t (reads m ∷ cs) c = inr c.0.shaped.store
chain-shape s t (passes p ∷ cs) c = inr c.0.shaped
chain-shape s t (sends m ∷ cs) c = inr c.0.store-shape

none-sent : (cs : List AnyCall) → cs ≡ [] → map asked_in (sent_in cs) ≡ []
unfolding sent_in
none-sent cs e = ap (λ (ds : List AnyCall). map asked_in (sent_in ds)) e

-- a stream of bytes alone is offered by reading calls
calls-shape : (q : Session) (t : Store) (bs : List ℕ) (calls : List RawCalled) → RawChain q t calls → RawOffersTo q (bytes bs) calls
    → (calls ≡ []) ⊎ (ConnectionShape q.connection × StoreShape t)
unfolding RawChain RawOffersTo
calls-shape q t bs [] c o = inl refl
calls-shape q t bs (raw_reads m ∷ calls) c o = inr (c.0.shaped.session.connection, c.0.shaped.store)
calls-shape q t bs (raw_passes p ∷ calls) c o = absurd (true≢false (sym (ap eventless o.1 ∙ bytes-eventless Event bs) ∙ unfold eventless in refl))

-- without calls nothing was offered
none-offered : (q : Session) (stream : List (Item Event)) → is_closed q.connection ≡ false → RawOffersTo q stream [] → stream ≡ []
unfolding RawOffersTo
none-offered q stream o offers = ⊎_elim (λ e. e) (λ c. never c.0 o) offers

taught_by : (t : Store) (ids : List TableIds) (q : Session) (e : Store) (calls : List RawCalled) (r : Ran State Answer)
    → sound (raw_last_session q calls) (raw_last_store e calls) ≡ true → raw_came_to q e calls ≡ in_numbers (result_of r) → ModelTaught t ids r
    → Taught t ids q e calls
unfolding raw_came_to in_numbers held_by
taught_by t ids q e calls r f came l =
    let k : held_by (raw_last_session q calls) (raw_last_store e calls) ≡ r.state = ap (λ (x : RawResult). x.state) came in
    record {
      opened = ap (λ (x : State). is_closed x.connection) k ∙ l.opened;
      none-unfinished = ap (λ (x : State). x.unfinished) k ∙ l.none-unfinished;
      sound = f;
      same = subst (SameContents (with_expiries t)) (sym (ap (λ (x : State). x.store) k)) l.same;
      replies = ap (λ (x : RawResult). x.replies) came ∙ l.replies;
    }

module _ (s : Session) (t : Store) (ids : List TableIds) (cs : List AnyCall) (g : Teaching s t ids cs)
    (q : Session) (e : Store) (calls : List RawCalled) (h : BeingTaught q e (joined_messages cs) calls) where
  abbrev messages : List ℕ
  messages = flatten (messages_for t s.sending (asked_for t ids))

  joined : joined_messages cs ≡ messages
  joined = taught-messages s t ids cs g

  abbrev ran : Ran State Answer
  ran = feed_all peers (fresh_state q.connection e) [] (bytes messages)

  taught-nothing : asked_for t ids ≡ [] → ModelTaught t ids ran
  taught-nothing a =
      nothing-taught t ids s.sending q.connection e (sound-store s t g.sound) g.sends-all a h.reader.past.opened
      (sound-store q e h.reader.sound) h.reader.empty

  model-taught : ModelTaught t ids ran
  model-taught =
      split (chain-shape s t cs g.chain)
      (λ none. taught-nothing (sym g.asked ∙ none-sent cs none))
      (λ shape.
      split (calls-shape q e (joined_messages cs) calls h.chain h.offers)
      (λ none.
      taught-nothing
      (none-asked t s.sending (asked_for t ids)
      (sym joined ∙ no_bytes (joined_messages cs) (none-offered q (bytes (joined_messages cs)) h.reader.past.opened
      (subst (RawOffersTo q (bytes (joined_messages cs))) none h.offers)))))
      (λ shapes.
      every-model-taught t ids s.sending q.connection e shape (sound-store s t g.sound) g.sends-all shapes.0
      h.reader.past.opened h.reader.past.established shapes.1 (sound-store q e h.reader.sound) h.reader.empty))

  ran-is : model_ran q e (bytes (joined_messages cs)) ≡ ran
  unfolding model_ran held_by
  ran-is =
      λ i. feed_all peers (record { connection = q.connection; unfinished = h.reader.none-unfinished i; store = e }) (h.reader.none-unfinished i) (bytes (joined i))

  taught : Taught t ids q e calls
  taught =
      let d = exported-demand-3 q e calls h.reader.sound h.chain in
      taught_by t ids q e calls (model_ran q e (bytes (joined_messages cs))) d.sound (d.whole (bytes (joined_messages cs)) h.offers)
      (subst (ModelTaught t ids) (sym ran-is) model-taught)

pub every-store-taught : EveryStoreTaught
every-store-taught = taught

-- ---- sending calls left out

-- a reading call on the same record with another `sending`
reads-with : (x : Sending) (s : Session) (t : Store) (m : RawMade) → SendingShape x → sound s t ≡ true → sound (with_sending s x) t ≡ true → RawPromise s t m
    → RawPromise (with_sending s x) t (reads_with x m)
reads-with x s t m y f g p =
    let r = reads-alike s t x m.piece (length m.room) f g in
    let c = call_of s t m.piece (length m.room) in
    record {
      outcome = p.outcome ∙ ap (λ (d : Call State Answer). raw_outcome (outcome_of d)) (sym r.call);
      session = ap (λ (z : Session). with_sending z x) p.session ∙ (sym (r.session c) ∙ ap (session_of (with_sending s x)) (sym r.call));
      store = p.store ∙ ap (λ (d : Call State Answer). d.state.store) (sym r.call);
      final = p.final ∙ ap (λ (d : Call State Answer). front d.reply m.room) (sym r.call);
      shaped = record { session = shape-with s x p.shaped.session y; store = p.shaped.store };
      bytes = p.bytes;
    }

record Apart (x : Sending) (s : Session) (t : Store) (cs : List AnyCall) : Type 0 where
  pub chain : RawChain (with_sending s x) t (left_out x cs)
  pub session : raw_last_session (with_sending s x) (left_out x cs) ≡ with_sending (any_last_session s cs) x
  pub store : raw_last_store t (left_out x cs) ≡ any_last_store t cs
  pub sound : sound (any_last_session s cs) (any_last_store t cs) ≡ true

apart : (x : Sending) → SendingShape x → (cs : List AnyCall) (s : Session) (t : Store) → sound s t ≡ true → sound (with_sending s x) t ≡ true → AnyChain s t cs
    → Apart x s t cs
unfolding AnyChain RawChain left_out raw_last_session raw_last_store any_last_session any_last_store
apart x y [] s t f g c = record { chain = tt; session = refl; store = refl; sound = f }
apart x y (reads m ∷ cs) s t f g c =
    let p = reads-with x s t m y f g c.0 in
    let n = apart x y cs m.session m.store (read-sound s t m c.0 f) (read-sound (with_sending s x) t (reads_with x m) p g) c.1 in
    record { chain = (p, n.chain); session = n.session; store = n.store; sound = n.sound }
apart x y (passes q ∷ cs) s t f g c =
    let n = apart x y cs s q.store (passed-keeps-sound t q c.0 s f) (passed-keeps-sound t q c.0 (with_sending s x) g) c.1 in
    record { chain = (c.0, n.chain); session = n.session; store = n.store; sound = n.sound }
apart x y (sends m ∷ cs) s t f g c =
    let e = leaves-with s t m c.0 x in
    let n = apart x y cs m.session t (keeps-sound s t m c.0 f) (subst (λ (z : Session). sound z t ≡ true) (sym e) g) c.1 in
    record {
      chain = subst (λ (z : Session). RawChain z t (left_out x cs)) e n.chain;
      session = subst (λ (z : Session). raw_last_session z (left_out x cs) ≡ with_sending (any_last_session m.session cs) x) e n.session;
      store = n.store;
      sound = n.sound;
    }

-- a list whose first call is given the record
left-out-from : (s : Session) (t : Store) (cs : List AnyCall) → SessionShape s → sound s t ≡ true → AnyChain s t cs → SendingApart s t cs
unfolding with_sending
left-out-from s t cs sh f k =
    let a = apart s.sending sh.sending cs s t f f k in
    record { chain = a.chain; session = a.session; store = a.store; sound = a.sound }

pub sending-left-out : SendingLeftOut
unfolding AnyChain RawChain left_out raw_last_session raw_last_store any_last_session any_last_store with_sending
sending-left-out s t [] f k = record { chain = tt; session = refl; store = refl; sound = f }
sending-left-out s t (reads m ∷ cs) f k = left-out-from s t (reads m ∷ cs) k.0.shaped.session f k
sending-left-out s t (passes p ∷ cs) f k =
    let a = sending-left-out s p.store cs (passed-keeps-sound t p k.0 s f) k.1 in
    record { chain = (k.0, a.chain); session = a.session; store = a.store; sound = a.sound }
sending-left-out s t (sends m ∷ cs) f k = left-out-from s t (sends m ∷ cs) k.0.session-shape f k
