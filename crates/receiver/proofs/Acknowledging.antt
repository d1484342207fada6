-- When an acknowledgement goes out, the entry is held; any refused call leaves the store as it was.
use Prim.Native.Nat.{ℕ, zero, suc, ◌+◌, ◌-◌, ◌≤◌, ◌<◌, ◌^◌}
use native.Mathlib.Omega.{arith}
use mathlib.Core.Path.{◌≡◌, refl, sym, ap, ◌∙◌, subst}
use mathlib.Core.Logic.{◌⊎◌, inl, inr}
use mathlib.Core.Option.{some}
use mathlib.Core.Bool.{true, false, ◌&&◌}
use mathlib.Core.List.{List, [], ◌∷◌, ◌++◌}
use lib.ListN.{length, take, drop, get_or}
use lib.Seq.{get_or-set_same, get_or-set_other}
use lib.Dec.{ltb, lit<}
use borrow.Author.Tests.{ltb-true}
use Rattle.lists.specs.Lists.{every, front}
use Rattle.lists.proofs.Cases.{by-test, cond-true, cond-false, never, and_first, and_second}
use Rattle.lists.proofs.Every.{every-cons}
use Rattle.store.specs.declared.Store.{Store}
use Rattle.store.specs.declared.Table.{Table}
use Rattle.store.specs.declared.Entry.{Entry}
use Rattle.store.specs.Store.{counts_of, with_entries, put_entry, no_entry, no_table}
use Rattle.store.proofs.Facts.{TableFacts}
use Rattle.wire.specs.Value.{Bytes}
use Rattle.handshake.specs.Handshake.{name_ok}
use Rattle.session.specs.declared.Session.{Session}
use Rattle.session.specs.declared.Commit.{Commit}
use Rattle.session.specs.declared.Answer.{Answer}
use Rattle.session.specs.declared.Answer.TheVariants as answer
use Rattle.session.specs.Session.{unfinished, holding}
use Rattle.message.specs.Changes.{no_change, changed}
use Rattle.session.specs.Answers.{refusal_of}
use Rattle.session.proofs.answers.Refusals.{no_number, same_number}
use Rattle.message.specs.declared.Effect.{Effect}
use Rattle.message.specs.Effects.{refuse_with, updated_entry}
use Rattle.opening.specs.Opening.{Role, Opening, refuse_opening, accept, refused_opening, «open», open_room}
use Rattle.body.specs.Fields.{span_in}
use Rattle.body.proofs.Within.{update-within}
use Rattle.message.proofs.Kept.{Held}
use Rattle.reassembly.specs.Judge.{settled, judge}
use Rattle.streams.specs.Calls.{Call, stay}
use Rattle.streams.proofs.Basics.{every_take}
use Rattle.receiver.specs.Good.{Good}
use Rattle.receiver.specs.Model.{State, held_by, is_byte}
use Rattle.receiver.specs.Promise.{Made, ReadPromise, call_of}
use Rattle.receiver.specs.Ledger.{Ledger, start_ledger, RightReply, is_acknowledgement}
use Rattle.receiver.specs.Demand3.{reply_in}
use Rattle.receiver.specs.Corollaries.{message_of, EntryHeld, HeldWhenAcknowledged, NothingChanged, OnlyClosed, RefusedCall, RefusedUntouched, OthersUntouched, RefusedOpening, RefusedOpeningUntouched}
use Rattle.receiver.proofs.Chained.{good-held}
use Rattle.receiver.proofs.Following.{starts-following}
use Rattle.receiver.proofs.KeyPlaces.{key-short, went-by-key}
use Rattle.receiver.proofs.Laws.{Right, JudgedRight, judge-right}
use Rattle.receiver.proofs.Lawfully.{open-held}
use Rattle.receiver.proofs.SettledLaws.{settled-refused, store-stays, Updated, updated}
use Rattle.receiver.proofs.Ways.{Way, Early, Judging, staying, waiting-on, judging, ways, answer-is, taken_is, count-is, reply-is, room-past, record-stays, record-holds}

-- ---- stores

stays-store : (s : Session) (t : Store) (a : Answer) → (stay (held_by s t) a).state.store ≡ t
unfolding held_by
stays-store s t a = refl

untouched : (s : Session) (t : Store) (m : Made) → ReadPromise s t m → ((place : ℕ) → m.outcome.answer ≡ answer.Table place → ⊥)
    → ((table id place : ℕ) (how : Commit) → m.outcome.answer ≡ answer.Update table id place how → ⊥)
    → Way s t m.piece (call_of s t m.piece (length m.room)) → m.store ≡ t
untouched s t m p f g (staying n h q) = p.store ∙ (ap (λ (k : Call State Answer). k.state.store) q ∙ stays-store s t (answer.Refused n))
untouched s t m p f g (waiting-on w) = p.store ∙ ap (λ (k : State). k.store) w.state
untouched s t m p f g (judging e j) =
    let a = answer-is s t m p ∙ j.answer in
    p.store
    ∙ (ap (λ (k : State). k.store) j.state
    ∙ store-stays s.connection t _ e j.judged (λ place q. f place (a ∙ q)) (λ table id place how q. g table id place how (a ∙ q)))

pub others-untouched : OthersUntouched
others-untouched s t m p f g = record { store = untouched s t m p f g (ways s t m p); room = room-past s t m p }

-- ---- refused calls

no_front : (room : List ℕ) → front [] room ≡ room
unfolding front
no_front room = refl

module _ (s : Session) (t : Store) (m : Made) (p : ReadPromise s t m) where
  abbrev call : Call State Answer
  call = call_of s t m.piece (length m.room)

  stayed : (n : ℕ) → call ≡ stay (held_by s t) (answer.Refused n) → NothingChanged s t m
  stayed n q =
      let z = ap (λ (k : Call State Answer). k.taken) q in
      let r = ap (λ (k : Call State Answer). k.reply) q in
      record {
        taken = taken_is s t m p ∙ z;
        count = count-is s t m p ∙ ap length r;
        session = record-stays s t m p z;
        store = p.store ∙ (ap (λ (k : Call State Answer). k.state.store) q ∙ stays-store s t (answer.Refused n));
        room = p.final ∙ (ap (λ (l : List ℕ). front l m.room) r ∙ no_front m.room);
      }

  closed : (n : ℕ) (a : Answer) (e : Effect) → Judging s t m.piece call e → e ≡ refuse_with s.connection n a → OnlyClosed s t m n
  unfolding refuse_with changed no_change
  closed n a e j q = record {
    session =
        record-holds s t m p j.some
        ∙ (ap (λ (k : State). holding s.sending k.connection k.unfinished) j.state ∙ ap (λ (x : Effect). holding s.sending x.connection []) q);
    store = p.store ∙ (ap (λ (k : State). k.store) j.state ∙ ap (λ (x : Effect). changed t x.change) q);
    reply = reply-is s t m p ∙ (j.reply ∙ ap (λ (x : Effect). x.reply) q);
    room = room-past s t m p;
  }

  by-refusal : (n : ℕ) → refusal_of m.outcome.answer ≡ some n → Way s t m.piece call → RefusedCall s t m n
  unfolding refusal_of
  by-refusal n a (staying k h q) =
      let e : k ≡ n = same_number k n (sym (ap (λ (x : Call State Answer). refusal_of x.answer) q) ∙ (sym (ap refusal_of (answer-is s t m p)) ∙ a)) in
      inl (subst Early e h, stayed k q)
  by-refusal n a (waiting-on w) = absurd (no_number n (sym (ap refusal_of w.answer) ∙ (sym (ap refusal_of (answer-is s t m p)) ∙ a)))
  by-refusal n a (judging e j) =
      let r = sym (ap refusal_of j.answer) ∙ (sym (ap refusal_of (answer-is s t m p)) ∙ a) in
      let k = settled-refused s.connection t _ e j.judged n r in
      inr (k.closes, closed n k.answer e j k.effect)

pub refused-untouched : RefusedUntouched
refused-untouched s t m n p a = by-refusal s t m p n a (ways s t m p)

-- ---- the entry of an acknowledged update

small_bytes : (ys : List ℕ) → every is_byte ys ≡ true → (i : ℕ) → get_or ys i 0 < 2 ^ 8
small_bytes [] h i = lit< tt
small_bytes (y ∷ ys) h zero = ltb-true y 256 (and_first (is_byte y) (every is_byte ys) (sym (every-cons is_byte y ys) ∙ h))
small_bytes (y ∷ ys) h (suc i) = small_bytes ys (and_second (is_byte y) (every is_byte ys) (sym (every-cons is_byte y ys) ∙ h)) i

small-append : (xs ys : List ℕ) → ((i : ℕ) → get_or xs i 0 < 2 ^ 8) → ((i : ℕ) → get_or ys i 0 < 2 ^ 8) → (i : ℕ) → get_or (xs ++ ys) i 0 < 2 ^ 8
small-append [] ys f g i = g i
small-append (x ∷ xs) ys f g zero = f zero
small-append (x ∷ xs) ys f g (suc i) = small-append xs ys (λ j. f (suc j)) g i

-- no other answer's reply is an acknowledgement
only-updates : (l : Ledger) (message reply : List ℕ) (a : Answer) → RightReply l message reply a → is_acknowledgement reply ≡ true
    → (table : ℕ) × ((id : ℕ) × ((place : ℕ) × ((how : Commit) × (a ≡ answer.Update table id place how))))
only-updates l message reply answer.More r h = never h r.other
only-updates l message reply (answer.Hello process relative) r h = never h r.other
only-updates l message reply answer.Status r h = never h r.other
only-updates l message reply answer.Request r h = never h r.other
only-updates l message reply answer.Finished r h = never h r.other
only-updates l message reply answer.Partial r h = never h r.other
only-updates l message reply answer.Confirmed r h = never h r.other
only-updates l message reply answer.Heartbeat r h = never h r.other
only-updates l message reply (answer.Error type) r h = never h r.other
only-updates l message reply (answer.Table place) r h = never h r.other
only-updates l message reply (answer.Switch place) r h = never h r.none.other
only-updates l message reply (answer.Update table id place how) r h = (table, (id, (place, (how, refl))))
only-updates l message reply (answer.Acknowledgement id update) r h = never h r.other
only-updates l message reply (answer.Skipped kind) r h = never h r.other
only-updates l message reply (answer.Refused n) r h = never h r.other
only-updates l message reply (answer.RefusedAt n offset) r h = never h r.other

pub put-here : (t : Store) (place : ℕ) (e : Entry) → place < length t.entries → get_or (put_entry t place e).entries place no_entry ≡ e
unfolding put_entry with_entries
put-here t place e l = get_or-set_same t.entries place e no_entry l

put-others : (t : Store) (place : ℕ) (e : Entry) (i : ℕ) → (i ≡ place → ⊥) → get_or (put_entry t place e).entries i no_entry ≡ get_or t.entries i no_entry
unfolding put_entry with_entries
put-others t place e i n = get_or-set_other t.entries place i e no_entry n

pub put-tables : (t : Store) (place : ℕ) (e : Entry) → (put_entry t place e).tables ≡ t.tables
unfolding put_entry with_entries
put-tables t place e = refl

put-counts : (t : Store) (place : ℕ) (e : Entry) → (put_entry t place e).counts ≡ counts_of (put_entry t place e).entries
unfolding put_entry with_entries
put-counts t place e = refl

module _ (s : Session) (t : Store) (m : Made) (p : ReadPromise s t m) (e : Effect)
    (j : Judging s t m.piece (call_of s t m.piece (length m.room)) e) where
  good : Good (held_by s t)
  good = good-held s t p.shaped j.sound

  pub held : Held s.connection t
  held = unfold held_by in open-held (held_by s t) good j.opened

  pub judged : judge s.connection t (message_of s m) ≡ settled e
  judged = ap (λ (n : ℕ). judge s.connection t (unfinished s ++ take n m.piece)) (taken_is s t m p) ∙ j.judged

  -- each byte of the message is one
  pub bytes : Bytes (message_of s m)
  bytes = record {
    byte =
        small-append (unfinished s) (take m.outcome.taken m.piece) (unfold held_by in good.unfinished)
        (small_bytes (take m.outcome.taken m.piece) (every_take is_byte m.outcome.taken m.piece p.bytes));
  }

  pub right : Right s.connection t (message_of s m) e
  right = subst (JudgedRight s.connection t (message_of s m)) judged (judge-right s.connection t held (message_of s m) bytes)

  acked : is_acknowledgement (reply_in m) ≡ true → is_acknowledgement e.reply ≡ true
  acked h = ap is_acknowledgement (sym (reply-is s t m p ∙ j.reply)) ∙ h

  -- the current table is within the limits
  pub current-facts : (table : ℕ) → s.connection.current ≡ table + 1 → TableFacts (get_or t.tables table no_table)
  current-facts table now =
      let l = held.connection.current_limit in
      let n : table < length t.tables = omega (arith, now, held.store_shape.tables) in
      held.store.table table n (held.connection.current_held table now)

  -- a call that answered an update
  module _ (table id place : ℕ) (how : Commit) (a : e.answer ≡ answer.Update table id place how) where
    x : Updated s.connection t (message_of s m) table id place how e
    x = updated s.connection t (message_of s m) table id place how e judged a

    abbrev body : List ℕ
    body = take (x.end - x.start) (drop x.start (message_of s m))

    abbrev now : Table
    now = get_or t.tables table no_table

    stored : m.store ≡ put_entry t place (updated_entry body table x.fields)
    stored = p.store ∙ (ap (λ (k : State). k.store) j.state ∙ x.store)

    short : length (span_in body x.fields.key) ≤ 64
    short =
        let r = update-within x.form now _ body x.fields x.after x.read in
        key-short now table body x.fields (current-facts table x.current) r.0.within

    entry-held : EntryHeld s t m
    unfolding updated_entry
    entry-held = record {
      table = table;
      id = id;
      place = place;
      how = how;
      answer = answer-is s t m p ∙ (j.answer ∙ a);
      kind = x.kind;
      start = x.start;
      end = x.end;
      framed = x.framed;
      form = x.form;
      type = x.type;
      current = x.current;
      body = body;
      body_is = refl;
      fields = x.fields;
      after = x.after;
      read = x.read;
      own-id = x.own-id;
      holds = ap (λ (k : Store). get_or k.entries place no_entry) stored ∙ put-here t place _ x.inside;
      went = went-by-key t table body x.fields place how short x.went;
      others = λ i n. ap (λ (k : Store). get_or k.entries i no_entry) stored ∙ put-others t place _ i n;
      tables = ap (λ (k : Store). k.tables) stored ∙ put-tables t place _;
      counts = ap (λ (k : Store). k.counts) stored ∙ (put-counts t place _ ∙ ap (λ (k : Store). counts_of k.entries) (sym stored));
      reply = reply-is s t m p ∙ (j.reply ∙ x.reply);
    }

  acknowledged-held : is_acknowledgement (reply_in m) ≡ true → EntryHeld s t m
  acknowledged-held h =
      let k = only-updates _ (message_of s m) e.reply e.answer (right.follow.right (start_ledger s.connection) (starts-following s.connection)) (acked h) in
      entry-held k.0 k.1.0 k.1.1.0 k.1.1.1.0 k.1.1.1.1

none-acknowledges : is_acknowledgement [] ≡ false
unfolding is_acknowledgement
none-acknowledges = refl

by_way : (s : Session) (t : Store) (m : Made) → ReadPromise s t m → is_acknowledgement (reply_in m) ≡ true
    → Way s t m.piece (call_of s t m.piece (length m.room)) → EntryHeld s t m
by_way s t m p h (staying n k q) =
    never (ap is_acknowledgement (sym (reply-is s t m p ∙ ap (λ (x : Call State Answer). x.reply) q)) ∙ h) none-acknowledges
by_way s t m p h (waiting-on w) = never (ap is_acknowledgement (sym (reply-is s t m p ∙ w.reply)) ∙ h) none-acknowledges
by_way s t m p h (judging e j) = acknowledged-held s t m p e j h

pub held-when-acknowledged : HeldWhenAcknowledged
held-when-acknowledged s t m p h = by_way s t m p h (ways s t m p)

-- ---- opening

module _ (role : Role) (local remote room : List ℕ) where
  abbrev opening : Opening
  opening = «open» role local remote (length room)

  opens-short : ltb (length room) 101 ≡ true → opening ≡ refuse_opening 1
  unfolding «open»
  opens-short a = cond-true (ltb (length room) 101) _ _ a

  opens-names : ltb (length room) 101 ≡ false → (name_ok local && name_ok remote) ≡ false → opening ≡ refuse_opening 3
  unfolding «open»
  opens-names a b = cond-false (ltb (length room) 101) _ _ a ∙ cond-false (name_ok local && name_ok remote) _ _ b

  pub opens-accepted : ltb (length room) 101 ≡ false → (name_ok local && name_ok remote) ≡ true → opening ≡ accept role local remote
  unfolding «open»
  opens-accepted a b = cond-false (ltb (length room) 101) _ _ a ∙ cond-true (name_ok local && name_ok remote) _ _ b

  refused-opening : (k n : ℕ) → (k ≡ 1) ⊎ (k ≡ 3) → opening ≡ refuse_opening k → refusal_of opening.answer ≡ some n → RefusedOpening role local remote room n
  unfolding open_room refusal_of
  refused-opening k n h q a =
      let e : k ≡ n = same_number k n (sym (ap (λ (x : Opening). refusal_of x.answer) q) ∙ a) in
      record {
        number = subst (λ (j : ℕ). (j ≡ 1) ⊎ (j ≡ 3)) e h;
        session = ap (λ (x : Opening). x.session) q ∙ ap refused_opening e;
        reply = ap (λ (x : Opening). x.reply) q;
        room = ap (λ (x : Opening). front x.reply room) q ∙ no_front room;
      }

  by-opening : (n : ℕ) → refusal_of opening.answer ≡ some n → RefusedOpening role local remote room n
  unfolding refusal_of
  by-opening n a =
      by-test (ltb (length room) 101)
      (λ b. refused-opening 1 n (inl refl) (opens-short b) a)
      (λ b.
      by-test (name_ok local && name_ok remote)
      (λ d.
      absurd (no_number n (sym (ap (λ (x : Opening). refusal_of x.answer) (opens-accepted b d)) ∙ a)))
      (λ d. refused-opening 3 n (inr refl) (opens-names b d) a))

pub refused-opening-untouched : RefusedOpeningUntouched
refused-opening-untouched = by-opening
