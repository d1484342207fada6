-- The message of an accepted update is the encoding of the entry that the call left, and then ignored bytes.
use Prim.Native.Nat.{ℕ, ◌+◌, ◌-◌, ◌%◌, ◌^◌, ◌≤◌, ◌<◌}
use native.Mathlib.Omega.{arith}
use mathlib.Core.Path.{◌≡◌, refl, sym, ap, subst, ◌∙◌}
use mathlib.Core.Bool.{true, false}
use mathlib.Core.Option.{some}
use mathlib.Core.List.{List, [], ◌++◌, append_assoc}
use lib.Seq.{get_or-set_other, drop-append_seam, take-append_seam}
use lib.ListN.{length, take, drop, get_or}
use lib.IntN.{ℤ}
use lib.Signed.{mag}
use Rattle.lists.proofs.Cases.{by-test, cond-true}
use Rattle.wire.specs.Integer.{encode_int}
use Rattle.wire.specs.Number.{encode_number}
use Rattle.wire.specs.Server.{server_word}
use Rattle.wire.specs.Value.{Bytes}
use Rattle.wire.proofs.Sizes.{drop-bytes}
use Rattle.wire.proofs.Numbers.{number-length}
use Rattle.store.specs.declared.Table.{Table}
use Rattle.store.specs.declared.Entry.{Entry}
use Rattle.store.specs.declared.Store.{Store}
use Rattle.store.specs.Limits.{slot_types, present}
use Rattle.store.specs.Shape.{Cells, EntryShape}
use Rattle.store.specs.Sound.{sound_entry, entry_key_length_ok, values_ok}
use Rattle.store.specs.Store.{entry_held, key_of, find_entry, free_entry, time_left, make_entry, with_entries, put_entry, no_table, no_entry}
use Rattle.store.proofs.Facts.{TableFacts, EntryFacts, facts-entry}
use Rattle.store.proofs.Ruled.{made-key}
use Rattle.session.specs.declared.Session.{Session}
use Rattle.session.specs.declared.Commit.{Commit}
use Rattle.session.specs.declared.Answer.{Answer}
use Rattle.session.specs.declared.Answer.TheVariants as answer
use Rattle.session.specs.Session.{binding_at}
use Rattle.body.specs.Fields.{got, span_in}
use Rattle.body.specs.declared.update.Form.{Form}
use Rattle.body.specs.declared.update.Update.{Update}
use Rattle.body.specs.Bodies.{update_fields, time_mark, form_of}
use Rattle.body.specs.Encodings.{message_bytes, entry_bytes, number_if, update_bytes}
use Rattle.body.proofs.Within.{UpdateWithin, UpdateRead, update-within}
use Rattle.body.proofs.UpdateEncoding.{EntryRead, update-encoded, if-length, entry-start, slot-there, server-there}
use Rattle.body.proofs.OneEncoding.{Fitting, SameFields, update-once, type-once, body-once}
use Rattle.message.specs.declared.Effect.{Effect}
use Rattle.message.specs.Effects.{updated_entry, following_id}
use Rattle.streams.specs.Calls.{Call}
use Rattle.receiver.specs.Model.{State}
use Rattle.receiver.specs.Promise.{Made, ReadPromise, call_of}
use Rattle.receiver.specs.Corollaries.{message_of, fields_of, EntryWent}
use Rattle.message_bytes.specs.MessageBytes.{table_at, entry_at, time_start, server_id_start, integer_start, UpdateMessage, BytesOfUpdate, SameUpdate, OneReading, EntryPlaced, PlaceOfUpdate}
use Rattle.receiver.proofs.EffectKinds.{Went}
use Rattle.receiver.proofs.KeyPlaces.{key-short, went-by-key}
use Rattle.receiver.proofs.SettledLaws.{Updated, updated}
use Rattle.receiver.proofs.Ways.{Way, Judging, staying, waiting-on, judging, ways, answer-is}
use Rattle.receiver.proofs.Acknowledging.{put-here, put-tables, judged, held, bytes, current-facts}
use Rattle.message_bytes.proofs.WholeMessage.{StickTable, body_is, message-is, body-most, body-behind, kept, message-ends}

-- ---- the fields of each form

-- what was read of a body, for the table t with this previous ID
record FieldsAre (form : Form) (previous id : ℕ) (t : Table) (body : List ℕ) (u : Update) : Type 0 where
  read : UpdateRead form t (following_id previous) body u
  small : id < 2 ^ 32
  following : form.explicit ≡ false → id ≡ (previous + 1) % 2 ^ 32
  ignored : List ℕ
  fields : (e : Entry) → EntryRead form body u e → body ≡ update_bytes form t id e ++ ignored

following-small : (previous : ℕ) → following_id previous < 2 ^ 32
unfolding following_id
following-small previous = omega arith

fields-are : (form : Form) (t : Table) (body : List ℕ) → Bytes body → (u : Update) (after previous id : ℕ) → u.id ≡ id
    → update_fields form t (following_id previous) body ≡ got u after → FieldsAre form previous id t body u
fields-are form t body b u after previous id own q =
    let w = (update-within form t (following_id previous) body u after q).0 in
    record {
      read = w;
      small = subst (λ (n : ℕ). n < 2 ^ 32) own (w.id-small b (following-small previous));
      following = λ z. sym own ∙ (w.id-known z ∙ unfold following_id in refl);
      ignored = drop after body;
      fields = λ e r. update-encoded t body b form (following_id previous) u after e r q ∙ ap (λ (n : ℕ). update_bytes form t n e ++ drop after body) own;
    }

-- what stands before key and data
abbrev first : Form → ℕ → Entry → List ℕ
first form id e = number_if form.explicit id ++ number_if form.timed e.remaining

first_then : (form : Form) (t : Table) (id : ℕ) (e : Entry) (rest : List ℕ)
    → update_bytes form t id e ++ rest ≡ first form id e ++ (entry_bytes t e ++ rest)
unfolding update_bytes
first_then form t id e rest = simp append_assoc

-- the remaining time, in the body
time-here : (form : Form) (t : Table) (id : ℕ) (e : Entry) (rest : List ℕ) → form.timed ≡ true
    → take 4 (drop (time_start form) (update_bytes form t id e ++ rest)) ≡ encode_number e.remaining
time-here form t id e rest h =
    let x = number_if form.explicit id in
    let y = encode_number e.remaining in
    let z = entry_bytes t e ++ rest in
    let there : number_if form.timed e.remaining ≡ y = unfold number_if in cond-true form.timed y [] h in
    let q : update_bytes form t id e ++ rest ≡ x ++ (y ++ z) =
    first_then form t id e rest ∙ (append_assoc x (number_if form.timed e.remaining) z ∙ ap (λ (l : List ℕ). x ++ (l ++ z)) there) in
    ap (λ (l : List ℕ). take 4 (drop (time_start form) l)) q
    ∙ (ap (λ (n : ℕ). take 4 (drop n (x ++ (y ++ z)))) (sym (if-length form.explicit id))
    ∙ (ap (take 4) (drop-append_seam x (y ++ z)) ∙ (ap (λ (n : ℕ). take n (y ++ z)) (sym (number-length e.remaining)) ∙ take-append_seam y z)))

-- the integer of a slot, in the body
module _ (form : Form) (t : Table) (id : ℕ) (e : Entry) (rest : List ℕ) where
  integer-there : (i : ℕ) → i < 34 → length e.values ≡ 34 → present t.data_types (get_or slot_types i 0) ≡ true
      → (body : List ℕ) → body ≡ update_bytes form t id e ++ rest
      → take (length (encode_int (get_or e.values i 0))) (drop (integer_start form t e i) body) ≡ encode_int (get_or e.values i 0)
  integer-there i l size h body q =
      rw (q, first_then form t id e rest, ← entry-start form id e.remaining) (slot-there t e i l size h (first form id e) rest)

  -- the server ID, in the body
  server-at : present t.data_types 0 ≡ true → (body : List ℕ) → body ≡ update_bytes form t id e ++ rest
      → take (length (encode_int (server_word e.server_id))) (drop (server_id_start form t e) body) ≡ encode_int (server_word e.server_id)
  server-at h body q = rw (q, first_then form t id e rest, ← entry-start form id e.remaining) (server-there t e h (first form id e) rest)

-- ---- the entry that was put

module _ (form : Form) (t : Table) (following table : ℕ) (body : List ℕ) (u : Update) (f : TableFacts t) (r : UpdateRead form t following body u) where
  abbrev w : UpdateWithin t body u
  w = r.within

  abbrev key : List ℕ
  key = span_in body u.key

  abbrev made : Entry
  made = make_entry table key u.server u.time.timed u.time.remaining u.values

  made-mark : (updated_entry body table u).timed ≡ time_mark form t
  unfolding updated_entry make_entry
  made-mark = r.mark

  -- a timed update's own time, and an untimed one's
  own-time : form.timed ≡ true → (updated_entry body table u).remaining ≡ u.time.remaining
  unfolding updated_entry make_entry time_left time_mark
  own-time h = rw (r.mark, h)

  table-time : form.timed ≡ false → (updated_entry body table u).remaining ≡ time_left t.timed t.expiry
  unfolding updated_entry make_entry time_mark
  table-time h = rw (r.mark, h, r.time-known h)

  entry_read : EntryRead form body u (updated_entry body table u)
  unfolding updated_entry make_entry
  entry_read = record {
    remaining = own-time;
    key = made-key table key u.server u.time.timed u.time.remaining u.values (key-short t table body u f w);
    server = refl;
    values = refl;
  }

entry-owner : (table : ℕ) (body : List ℕ) (u : Update) → (entry_held (updated_entry body table u) ≡ true) × ((updated_entry body table u).table ≡ table)
unfolding updated_entry make_entry entry_held
entry-owner table body u = (refl, refl)

-- ---- a call that answered an update

module _ (s : Session) (t : Store) (m : Made) (p : ReadPromise s t m) (e : Effect)
    (j : Judging s t m.piece (call_of s t m.piece (length m.room)) e)
    (table id place : ℕ) (how : Commit) (a : e.answer ≡ answer.Update table id place how) where
  abbrev u : List ℕ
  u = message_of s m

  abbrev now : Table
  now = get_or t.tables table no_table

  x : Updated s.connection t u table id place how e
  x = updated s.connection t u table id place how e (judged s t m p e j) a

  last : x.end ≡ length u
  last = message-ends s t m p e j (subst StickTable (sym a) tt) x.kind x.start x.end x.framed

  abbrev body : List ℕ
  body = drop x.start u

  same_body : take (x.end - x.start) (drop x.start u) ≡ body
  same_body = body_is u (bytes s t m p e j) x.kind x.start x.end x.framed last

  facts : TableFacts now
  facts = current-facts s t m p e j table x.current

  are : FieldsAre x.form (binding_at s.connection table).previous id now body x.fields
  are =
      let b = drop-bytes x.start (bytes s t m p e j) in
      let q : fields_of s.connection t table x.form body ≡ got x.fields x.after =
      ap (fields_of s.connection t table x.form) (sym same_body) ∙ x.read in
      fields-are x.form now body b x.fields x.after (binding_at s.connection table).previous id x.own-id q

  stored : m.store ≡ put_entry t place (updated_entry body table x.fields)
  stored =
      p.store
      ∙ (ap (λ (k : State). k.store) j.state
      ∙ (x.store ∙ ap (λ (l : List ℕ). put_entry t place (updated_entry l table x.fields)) same_body))

  entry-is : entry_at m place ≡ updated_entry body table x.fields
  entry-is = ap (λ (k : Store). get_or k.entries place no_entry) stored ∙ put-here t place _ x.inside

  table_is : table_at m table ≡ now
  table_is = ap (λ (k : Store). get_or k.tables table no_table) stored ∙ ap (λ (l : List Table). get_or l table no_table) (put-tables t place _)

  abbrev new : Entry
  new = updated_entry body table x.fields

  -- what the store that the call left holds at the place
  there : place < length m.store.entries
  there = omega (arith, x.inside, (held s t m p e j).store_shape.entries, (kept s t m p e j).store_shape.entries)

  new-facts : EntryFacts m.store.tables new
  new-facts =
      let h : entry_held (entry_at m place) ≡ true = ap entry_held entry-is ∙ (entry-owner table body x.fields).0 in
      subst (EntryFacts m.store.tables) entry-is ((kept s t m p e j).store.entry place there h)

  new-sound : sound_entry m.store.tables new ≡ true
  new-sound =
      let n : new.held ≤ 1 = subst (λ (y : Entry). y.held ≤ 1) entry-is ((kept s t m p e j).store.entry_flag place there) in
      facts-entry m.store.tables new n (λ q. new-facts)

  new-shape : EntryShape new
  new-shape =
      let k = (kept s t m p e j).store_shape in
      subst EntryShape entry-is (k.entry place (omega (arith, there, k.entries)))

  placed-there : EntryPlaced t table (entry_at m place) how place
  placed-there =
      let following = following_id (binding_at s.connection table).previous in
      let r = entry_read x.form now following table body x.fields facts are.read in
      let short = key-short now table body x.fields facts are.read.within in
      subst (λ (k : List ℕ). EntryWent how place (find_entry t table k) (free_entry t)) (sym (ap key_of entry-is ∙ r.key))
      (went-by-key t table body x.fields place how short
      (subst (λ (l : List ℕ). Went t (updated_entry l table x.fields) place how) same_body x.went))

  owner-is : get_or m.store.tables new.table no_table ≡ now
  owner-is = ap (λ (n : ℕ). get_or m.store.tables n no_table) (entry-owner table body x.fields).1 ∙ table_is

  update-message : UpdateMessage s m table id now (updated_entry body table x.fields)
  update-message =
      let following = following_id (binding_at s.connection table).previous in
      let w = are.read.within in
      let r = entry_read x.form now following table body x.fields facts are.read in
      let f = are.fields new r in
      let v = subst (Cells 34 64) (sym r.values) w.values in
      let g = message-is u (bytes s t m p e j) x.kind x.start x.end x.framed last in
      record {
        kind = x.kind;
        form = x.form;
        type = x.type;
        body = body;
        message = g;
        body-there = body-behind u x.kind body g;
        body-most = body-most u (bytes s t m p e j) x.kind x.start x.end x.framed last;
        ignored = are.ignored;
        fields = f;
        table-held = (held s t m p e j).connection.current_held table x.current;
        current = x.current;
        held = (entry-owner table body x.fields).0;
        owner = (entry-owner table body x.fields).1;
        shape = new-shape;
        sound = new-sound;
        key-length = subst (λ (y : Table). entry_key_length_ok y new ≡ true) owner-is new-facts.key_length;
        key-rest = new-facts.key_rest;
        widths = subst (λ (y : Table). values_ok y new ≡ true) owner-is new-facts.values;
        following = are.following;
        previous = x.previous;
        mark = made-mark x.form now following table body x.fields facts are.read;
        expiry = table-time x.form now following table body x.fields facts are.read;
        remaining = λ h. ap (λ (l : List ℕ). take 4 (drop (time_start x.form) l)) f ∙ time-here x.form now id new are.ignored h;
        id-32-bit = are.small;
        server-32-bit = subst (λ (z : ℤ). mag z < 2 ^ 31) (sym r.server) w.server;
        values = v;
        server = λ h. server-at x.form now id new are.ignored h body f;
        integer = λ i l h. integer-there x.form now id new are.ignored i l v.size h body f;
        absent = λ i l h. ap (λ (y : List ℕ). get_or y i 0) r.values ∙ w.absent i l h;
        no_server = λ h. r.server ∙ w.no_server h;
      }

by_way : (s : Session) (t : Store) (m : Made) (table id place : ℕ) (how : Commit) → ReadPromise s t m → m.outcome.answer ≡ answer.Update table id place how
    → Way s t m.piece (call_of s t m.piece (length m.room)) → UpdateMessage s m table id (table_at m table) (entry_at m place)
by_way s t m table id place how p h (staying n k q) =
    absurd (let r = sym (ap (λ (x : Call State Answer). x.answer) q) ∙ (sym (answer-is s t m p) ∙ h) in let z : ◌≡◌ {A = ℕ} 0 1 = cc in omega arith)
by_way s t m table id place how p h (waiting-on w) =
    absurd (let r = sym w.answer ∙ (sym (answer-is s t m p) ∙ h) in let z : ◌≡◌ {A = ℕ} 0 1 = cc in omega arith)
by_way s t m table id place how p h (judging e j) =
    let a = sym j.answer ∙ (sym (answer-is s t m p) ∙ h) in
    subst (λ (x : Table). UpdateMessage s m table id x (entry_at m place)) (sym (table_is s t m p e j table id place how a))
    (subst (UpdateMessage s m table id (get_or t.tables table no_table)) (sym (entry-is s t m p e j table id place how a))
    (update-message s t m p e j table id place how a))

pub bytes-of-update : BytesOfUpdate
bytes-of-update s t m table id place how p h = by_way s t m table id place how p h (ways s t m p)

-- ---- why the entry is at its place

placed_by : (s : Session) (t : Store) (m : Made) (table id place : ℕ) (how : Commit) → ReadPromise s t m → m.outcome.answer ≡ answer.Update table id place how
    → Way s t m.piece (call_of s t m.piece (length m.room)) → EntryPlaced t table (entry_at m place) how place
placed_by s t m table id place how p h (staying n k q) =
    absurd (let r = sym (ap (λ (x : Call State Answer). x.answer) q) ∙ (sym (answer-is s t m p) ∙ h) in let z : ◌≡◌ {A = ℕ} 0 1 = cc in omega arith)
placed_by s t m table id place how p h (waiting-on w) =
    absurd (let r = sym w.answer ∙ (sym (answer-is s t m p) ∙ h) in let z : ◌≡◌ {A = ℕ} 0 1 = cc in omega arith)
placed_by s t m table id place how p h (judging e j) =
    placed-there s t m p e j table id place how (sym j.answer ∙ (sym (answer-is s t m p) ∙ h))

pub place-of-update : PlaceOfUpdate
place-of-update s t m table id place how p h = placed_by s t m table id place how p h (ways s t m p)

-- ---- the other places

put-there : (t : Store) (place : ℕ) (e : Entry) (i : ℕ) → (i ≡ place → ⊥) → get_or (put_entry t place e).entries i no_entry ≡ get_or t.entries i no_entry
unfolding put_entry with_entries
put-there t place e i n = get_or-set_other t.entries place i e no_entry n

elsewhere : (s : Session) (t : Store) (m : Made) (table id place : ℕ) (how : Commit) → ReadPromise s t m → m.outcome.answer ≡ answer.Update table id place how
    → (i : ℕ) → (i ≡ place → ⊥) → Way s t m.piece (call_of s t m.piece (length m.room)) → get_or m.store.entries i no_entry ≡ get_or t.entries i no_entry
elsewhere s t m table id place how p h i f (staying n k q) =
    absurd (let r = sym (ap (λ (x : Call State Answer). x.answer) q) ∙ (sym (answer-is s t m p) ∙ h) in let z : ◌≡◌ {A = ℕ} 0 1 = cc in omega arith)
elsewhere s t m table id place how p h i f (waiting-on w) =
    absurd (let r = sym w.answer ∙ (sym (answer-is s t m p) ∙ h) in let z : ◌≡◌ {A = ℕ} 0 1 = cc in omega arith)
elsewhere s t m table id place how p h i f (judging e j) =
    ap (λ (k : Store). get_or k.entries i no_entry) (stored s t m p e j table id place how (sym j.answer ∙ (sym (answer-is s t m p) ∙ h)))
    ∙ put-there t place _ i f

pub updated-elsewhere : (s : Session) (t : Store) (m : Made) (table id place : ℕ) (how : Commit) → ReadPromise s t m → m.outcome.answer ≡ answer.Update table id place how
    → (i : ℕ) → (i ≡ place → ⊥) → get_or m.store.entries i no_entry ≡ get_or t.entries i no_entry
updated-elsewhere s t m table id place how p h i f = elsewhere s t m table id place how p h i f (ways s t m p)

-- ---- one reading

fitting : (s : Session) (m : Made) (table id : ℕ) (t : Table) (e : Entry) → UpdateMessage s m table id t e → Fitting t e
fitting s m table id t e h = record {
  key_length = h.key-length;
  key_size = h.shape.key.size;
  server = h.server-32-bit;
  no_server = h.no_server;
  values = h.values;
  absent = h.absent;
}

module _ (s : Session) (m : Made) (t : Table) (table id : ℕ) (e : Entry) (table' id' : ℕ) (f : Entry)
    (h : UpdateMessage s m table id t e) (k : UpdateMessage s m table' id' t f) where
  same-table : table ≡ table'
  same-table = omega (arith, h.current, k.current)

  same-message : message_bytes h.kind h.body ≡ message_bytes k.kind k.body
  same-message = sym h.message ∙ k.message

  short : (n : ℕ) → n ≤ 1024 → n < 2 ^ 64
  short n l = omega arith

  same_kind : h.kind ≡ k.kind
  same_kind = type-once _ _ h.body k.body (short _ h.body-most) (short _ k.body-most) same-message

  same-form : h.form ≡ k.form
  same-form = let q : some h.form ≡ some k.form = sym h.type ∙ (ap form_of same_kind ∙ k.type) in cc

  same-fields : update_bytes h.form t id e ++ h.ignored ≡ update_bytes h.form t id' f ++ k.ignored
  same-fields =
      sym h.fields
      ∙ (body-once h.kind k.kind h.body k.body (short _ h.body-most) (short _ k.body-most) same-message
      ∙ (k.fields ∙ ap (λ (x : Form). update_bytes x t id' f ++ k.ignored) (sym same-form)))

  fits : Fitting t e
  fits = fitting s m table id t e h

  fits' : Fitting t f
  fits' = fitting s m table' id' t f k

  once : (h.form.explicit ≡ true → id ≡ id') × (h.form.timed ≡ true → e.remaining ≡ f.remaining) × SameFields e f
  once =
      update-once t e f fits fits' h.form id id' h.ignored k.ignored h.id-32-bit k.id-32-bit h.shape.remaining k.shape.remaining same-fields

  same_id : id ≡ id'
  same_id =
      by-test h.form.explicit
      (λ z. once.0 z)
      (λ z.
      h.following z
      ∙ (ap (λ (p : ℕ). ((binding_at s.connection p).previous + 1) % 2 ^ 32) same-table
      ∙ sym (k.following (ap (λ (x : Form). x.explicit) (sym same-form) ∙ z))))

  same-time : e.remaining ≡ f.remaining
  same-time =
      by-test h.form.timed
      (λ z. once.1 z)
      (λ z. h.expiry z ∙ sym (k.expiry (ap (λ (x : Form). x.timed) (sym same-form) ∙ z)))

  same_update : SameUpdate table id e table' id' f
  same_update = record {
    table = same-table;
    id = same_id;
    key = once.2.key;
    server = once.2.server;
    values = once.2.values;
    timed = h.mark ∙ (ap (λ (x : Form). time_mark x t) same-form ∙ sym k.mark);
    remaining = same-time;
  }

pub one-reading : OneReading
one-reading s m t table id e table' id' f h k = same_update s m t table id e table' id' f h k
