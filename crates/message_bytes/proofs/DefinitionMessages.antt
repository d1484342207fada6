-- The message of an accepted definition is the encoding of the table that the call left, and then ignored bytes.
use Prim.Native.Nat.{ℕ, ◌+◌, ◌^◌, ◌≤◌, ◌<◌}
use native.Mathlib.Omega.{arith}
use mathlib.Core.Path.{◌≡◌, refl, sym, ap, subst, ◌∙◌}
use mathlib.Core.Bool.{true}
use mathlib.Core.List.{List, []}
use lib.ListN.{length, drop, get_or}
use lib.Seq.{get_or-set_same, get_or-set_other}
use Rattle.wire.proofs.Sizes.{drop-bytes}
use Rattle.store.specs.declared.Table.{Table}
use Rattle.store.specs.declared.Store.{Store}
use Rattle.store.specs.Limits.{present, rate_types}
use Rattle.store.specs.Shape.{TableShape}
use Rattle.store.specs.Sound.{sound_table}
use Rattle.store.specs.Store.{table_held, name_of, make_table, put_table, no_table}
use Rattle.store.proofs.Facts.{table-facts, facts-table}
use Rattle.store.proofs.Ruled.{made-name}
use Rattle.session.specs.declared.Session.{Session}
use Rattle.session.specs.declared.Connection.{Connection}
use Rattle.session.specs.declared.Binding.{Binding}
use Rattle.session.specs.declared.Answer.{Answer}
use Rattle.session.specs.declared.Answer.TheVariants as answer
use Rattle.session.specs.Session.{binding_at, bind, bind_to, with_tables, holding, is_bound}
use Rattle.session.proofs.Bindings.{bound-here, bound-lost, bound-kept}
use Rattle.session.proofs.CurrentTable.{current-within}
use Rattle.body.specs.Fields.{got, span_in}
use Rattle.body.specs.declared.definition.Definition.{Definition}
use Rattle.body.specs.Bodies.{definition_fields}
use Rattle.body.proofs.Spans.{span-length}
use Rattle.body.proofs.Within.{definition-within}
use Rattle.body.proofs.DefinitionEncoding.{TableRead, definition-encoded, definition-ends, definition-none, definition-absent}
use Rattle.body.proofs.OneEncoding.{FittingTable, definition-once, body-once}
use Rattle.message.specs.declared.Effect.{Effect}
use Rattle.message.specs.Effects.{defined_table}
use Rattle.streams.specs.Calls.{Call}
use Rattle.receiver.specs.Model.{State}
use Rattle.receiver.specs.Promise.{Made, ReadPromise, call_of}
use Rattle.receiver.specs.Corollaries.{message_of, TableWent}
use Rattle.message_bytes.specs.MessageBytes.{table_at, DefinitionMessage, TableDefined, BytesOfDefinition, OneDefinition}
use Rattle.receiver.proofs.EffectKinds.{body_in}
use Rattle.receiver.proofs.SettledLaws.{Defined, defined}
use Rattle.receiver.proofs.Ways.{Way, Judging, staying, waiting-on, judging, ways, answer-is, record-holds}
use Rattle.receiver.proofs.Acknowledging.{judged, held, bytes}
use Rattle.message_bytes.proofs.WholeMessage.{StickTable, body_is, message-is, body-most, body-behind, kept, message-ends}

-- ---- the table that was put

put-table : (t : Store) (place : ℕ) (x : Table) → place < length t.tables → get_or (put_table t place x).tables place no_table ≡ x
unfolding put_table
put-table t place x l = get_or-set_same t.tables place x no_table l

put-others : (t : Store) (place : ℕ) (x : Table) (i : ℕ) → (i ≡ place → ⊥) → get_or (put_table t place x).tables i no_table ≡ get_or t.tables i no_table
unfolding put_table
put-others t place x i n = get_or-set_other t.tables place i x no_table n

table-read : (body : List ℕ) (d : Definition) (after : ℕ) → definition_fields body ≡ got d after → TableRead body d (defined_table body d)
unfolding defined_table make_table
table-read body d after q =
    let w = (definition-within body d after q).0 in
    let l : length (span_in body d.name) ≤ 32 = omega (arith, span-length body d.name w.name_end, w.name_most) in
    record { name = made-name (span_in body d.name) _ l; key_type = refl; key_length = refl; data_types = refl; timed = refl; expiry = refl; periods = refl }

table-held : (body : List ℕ) (d : Definition) → table_held (defined_table body d) ≡ true
unfolding defined_table make_table table_held
table-held body d = refl

-- ---- a call that answered a table

module _ (s : Session) (t : Store) (m : Made) (p : ReadPromise s t m) (e : Effect)
    (j : Judging s t m.piece (call_of s t m.piece (length m.room)) e)
    (place : ℕ) (a : e.answer ≡ answer.Table place) where
  abbrev u : List ℕ
  u = message_of s m

  x : Defined s.connection t u place e
  x = defined s.connection t u place e (judged s t m p e j) a

  last : x.end ≡ length u
  last = message-ends s t m p e j (subst StickTable (sym a) tt) 130 x.start x.end x.framed

  abbrev now : List ℕ
  now = drop x.start u

  abbrev new : Table
  new = defined_table now x.fields

  same_body : body_in u x.start x.end ≡ now
  same_body = body_is u (bytes s t m p e j) 130 x.start x.end x.framed last

  read : definition_fields now ≡ got x.fields x.after
  read = ap definition_fields (sym same_body) ∙ x.read

  stored : m.store ≡ put_table t place (defined_table (body_in u x.start x.end) x.fields)
  stored = p.store ∙ (ap (λ (k : State). k.store) j.state ∙ x.store)

  table_is : table_at m place ≡ new
  table_is =
      ap (λ (k : Store). get_or k.tables place no_table) stored
      ∙ (put-table t place _ x.inside ∙ ap (λ (l : List ℕ). defined_table l x.fields) same_body)

  others-stay : (i : ℕ) → (i ≡ place → ⊥) → table_at m i ≡ get_or t.tables i no_table
  others-stay i n = ap (λ (k : Store). get_or k.tables i no_table) stored ∙ put-others t place _ i n

  entries-stay : m.store.entries ≡ t.entries
  unfolding put_table
  entries-stay = ap (λ (k : Store). k.entries) stored

  counts-stay : m.store.counts ≡ t.counts
  unfolding put_table
  counts-stay = ap (λ (k : Store). k.counts) stored

  -- ---- the record

  abbrev left : Connection
  left = bind s.connection place x.fields.id

  session-is : m.session ≡ holding s.sending left []
  session-is =
      record-holds s t m p j.some
      ∙ (ap (λ (k : State). holding s.sending k.connection k.unfinished) j.state
      ∙ ap (λ (k : Connection). holding s.sending k []) x.connection)

  connection-is : m.session.connection ≡ left
  unfolding holding
  connection-is = ap (λ (k : Session). k.connection) session-is

  few : place < 8
  few = omega (arith, x.inside, (held s t m p e j).store_shape.tables)

  bound-is : binding_at m.session.connection place ≡ bind_to x.fields.id (binding_at s.connection place)
  bound-is =
      let l : place < length s.connection.bindings = omega (arith, few, (held s t m p e j).connection_shape.places) in
      ap (λ (k : Connection). binding_at k place) connection-is ∙ bound-here s.connection place x.fields.id l

  id-is : (binding_at m.session.connection place).id ≡ x.fields.id
  unfolding bind_to
  id-is = ap (λ (k : Binding). k.id) bound-is

  bound-there : is_bound (binding_at m.session.connection place) ≡ true
  unfolding is_bound bind_to
  bound-there = ap is_bound bound-is

  current-is : m.session.connection.current ≡ place + 1
  unfolding bind with_tables
  current-is = ap (λ (k : Connection). k.current) connection-is ∙ sym (current-within place few)

  -- what the store that the call left holds at the place
  there : place < length m.store.tables
  there = omega (arith, x.inside, (held s t m p e j).store_shape.tables, (kept s t m p e j).store_shape.tables)

  new-sound : sound_table new ≡ true
  new-sound =
      let k = (kept s t m p e j).store in
      subst (λ (y : Table). sound_table y ≡ true) table_is (facts-table (table_at m place) (k.table_flag place there) (k.table place there))

  new-shape : TableShape new
  new-shape =
      let k = (kept s t m p e j).store_shape in
      subst TableShape table_is (k.table place (omega (arith, there, k.tables)))

  went-there : TableWent t (name_of new) new place
  went-there =
      let r = table-read now x.fields x.after read in
      subst (λ (n : List ℕ). TableWent t n new place) (sym r.name)
      (subst (λ (l : List ℕ). TableWent t (span_in l x.fields.name) (defined_table l x.fields) place) same_body x.went)

  definition-message : DefinitionMessage s m x.fields.id new
  definition-message =
      let b = drop-bytes x.start (bytes s t m p e j) in
      let r = table-read now x.fields x.after read in
      let g = message-is u (bytes s t m p e j) 130 x.start x.end x.framed last in
      record {
        body = now;
        message = g;
        body-there = body-behind u 130 now g;
        body-most = body-most u (bytes s t m p e j) 130 x.start x.end x.framed last;
        ignored = drop x.after now;
        fields = definition-encoded now b x.fields x.after read new r;
        untimed = λ z. definition-ends now b x.fields x.after read (sym r.timed ∙ z);
        held = table-held now x.fields;
        sound = new-sound;
        shape = new-shape;
        id-32-bit = (definition-within now x.fields x.after read).0.id;
        no-times = λ z.
            let n = definition-none now b x.fields x.after read (sym r.timed ∙ z) in
            (r.expiry ∙ n.0, r.periods ∙ n.1);
        no-period = λ i l h.
            ap (λ (y : List ℕ). get_or y i 0) r.periods
            ∙ definition-absent now b x.fields x.after read i l (ap (λ (n : ℕ). present n (get_or rate_types i 0)) (sym r.data_types) ∙ h);
      }

  table-defined : TableDefined s t m place x.fields.id new
  table-defined =
      let c = s.connection in
      let id = x.fields.id in
      record {
        message = definition-message;
        went = went-there;
        others = others-stay;
        entries = entries-stay;
        counts = counts-stay;
        bound = bound-there;
        bound-id = id-is;
        lost = λ i n b. ap (λ (k : Connection). binding_at k i) connection-is ∙ bound-lost c place id i n b;
        kept = λ i n b. ap (λ (k : Connection). binding_at k i) connection-is ∙ bound-kept c place id i n b;
        current = current-is;
        session = session-is;
      }

by_way : (s : Session) (t : Store) (m : Made) (place : ℕ) → ReadPromise s t m → m.outcome.answer ≡ answer.Table place
    → Way s t m.piece (call_of s t m.piece (length m.room))
    → TableDefined s t m place (binding_at m.session.connection place).id (table_at m place)
by_way s t m place p h (staying n k q) =
    absurd (let r = sym (ap (λ (x : Call State Answer). x.answer) q) ∙ (sym (answer-is s t m p) ∙ h) in let z : ◌≡◌ {A = ℕ} 0 1 = cc in omega arith)
by_way s t m place p h (waiting-on w) =
    absurd (let r = sym w.answer ∙ (sym (answer-is s t m p) ∙ h) in let z : ◌≡◌ {A = ℕ} 0 1 = cc in omega arith)
by_way s t m place p h (judging e j) =
    let a = sym j.answer ∙ (sym (answer-is s t m p) ∙ h) in
    subst (λ (n : ℕ). TableDefined s t m place n (table_at m place)) (sym (id-is s t m p e j place a))
    (subst (TableDefined s t m place _) (sym (table_is s t m p e j place a)) (table-defined s t m p e j place a))

pub bytes-of-definition : BytesOfDefinition
bytes-of-definition s t m place p h = by_way s t m place p h (ways s t m p)

-- ---- one reading

fitting : (s : Session) (m : Made) (id : ℕ) (t : Table) (h : DefinitionMessage s m id t) → FittingTable id t h.ignored
fitting s m id t h = record {
  small = h.id-32-bit;
  shape = h.shape;
  timed = (table-facts t h.sound h.held).timed;
  untimed = h.untimed;
  none = h.no-times;
  absent = h.no-period;
}

pub one-definition : OneDefinition
one-definition s m id t id' u h k =
    let short : (n : ℕ) → n ≤ 1024 → n < 2 ^ 64 = λ n l. omega arith in
    let same : h.body ≡ k.body =
    body-once 130 130 h.body k.body (short _ h.body-most) (short _ k.body-most) (sym h.message ∙ k.message) in
    let r = definition-once id t h.ignored (fitting s m id t h) id' u k.ignored (fitting s m id' u k)
    (sym h.fields ∙ (same ∙ k.fields)) in
    let x = r.1 in
    record {
      id = r.0;
      name = x.name;
      key-type = x.key_type;
      key-length = x.key_length;
      data-types = x.data_types;
      timed = x.times.timed;
      expiry = x.times.expiry;
      periods = x.times.periods;
    }
