-- What a message does keeps record and store sound, and their shape; its reply is short.
use Rattle.std.proofs.Common.{◌≡◌, ℕ, ◌+◌, ◌^◌, ◌<◌, ◌≤◌, true, false, cond, ◌&&◌, eqb, leb, ◌⊎◌, List, length, get_or, ℤ, sym, refl, ap, ◌∙◌, subst, inl, inr, arith, lit<, get_or-set_same, eq-eqb, eqb-true, leb-true, None, Option, Some}
use Rattle.lists.specs.Lists.{first_place}
use Rattle.lists.proofs.Cases.{by-test, and_first, and_second, cond-true, cond-false}
use Rattle.store.specs.declared.Definition.{Definition as Rules}
use Rattle.store.specs.declared.Table.{Table}
use Rattle.store.specs.declared.Entry.{Entry}
use Rattle.store.specs.declared.Store.{Store}
use Rattle.store.specs.Limits.{plain_name, key_kind, is_known, is_string, key_length_ok, slot_types}
use Rattle.store.specs.Store.{table_held, table_free, entry_free, name_of, key_of, table_named, entry_keyed, find_table, find_entry, free_table, with_entries, put_table, put_entry, make_table, make_entry, no_table, no_entry}
use Rattle.store.specs.declared.entries.Place.{Place}
use Rattle.store.specs.Places.{free_of, place_of}
use Rattle.store.specs.Sound.{entry_key_length_ok, slots_ok, values_ok}
use Rattle.store.specs.Shape.{TableShape, EntryShape, StoreShape}
use Rattle.store.proofs.Rules.{known_small, key-length-most}
use Rattle.store.proofs.Facts.{TableFacts, EntryFacts, SoundStore}
use Rattle.store.proofs.Kept.{table-found, table-missing, entry-missing, table-place, free-not-held, only-table, only-entry, put-table-shape, put-entry-shape, made-entry-shape, made-table-shape}
use Rattle.store.proofs.Ruled.{Agrees, put-entry-facts, put-table-facts, made-key, made-rest, made-name, made_plain}
use Rattle.session.specs.declared.Connection.{Connection}
use Rattle.session.specs.declared.Commit.{Commit}
use Rattle.session.specs.declared.Commit.TheVariants as commit
use Rattle.session.specs.declared.Answer.{Answer}
use Rattle.session.specs.declared.Answer.TheVariants as answer
use Rattle.session.specs.Session.{closed_with, make_current, bind, committed, find_bound, binding_at}
use Rattle.session_soundness.specs.Sound.{is_closing, refuses_opening}
use Rattle.session.specs.Shape.{ConnectionShape}
use Rattle.session_soundness.proofs.Facts.{SoundConnection, bound-to-bound}
use Rattle.session_soundness.proofs.Keeping.{put_keeps, close-keeps, current-keeps, bind-keeps, commit-keeps}
use Rattle.session.proofs.Bindings.{found-bound}
use Rattle.session.proofs.Shapes.{closed-shape, current-shape, bind-shape, commit-shape}
use Rattle.body.specs.declared.Failure.{Failure}
use Rattle.body.specs.declared.Failure.TheVariants as failure
use Rattle.body.specs.Fields.{got, span_in}
use Rattle.body.specs.declared.update.Form.{Form}
use Rattle.body.specs.declared.definition.Definition.{Definition}
use Rattle.body.specs.declared.update.Update.{Update}
use Rattle.body.specs.Bodies.{definition_fields, time_mark}
use Rattle.body.proofs.Spans.{span-length, span-bytes}
use Rattle.body.proofs.Within.{definition-within, UpdateRead}
use Rattle.wire.specs.Value.{Bytes}
use Rattle.message.specs.Changes.{no_change, table_change, entry_change, changed}
use Rattle.message.specs.Targets.{goes_to}
use Rattle.message.specs.Effects
use Rattle.message.proofs.commit.Targets.{goes-by-key}

-- a key is no longer than its table's
key-at-most : (t : Table) (n : ℕ) → cond (is_string (key_kind t.key_type)) (leb n t.key_len) (eqb n t.key_len) ≡ true → n ≤ t.key_len
key-at-most t n h =
    let y = leb n t.key_len in
    let z = eqb n t.key_len in
    by-test (is_string (key_kind t.key_type))
    (λ k. leb-true n t.key_len (sym (cond-true (is_string (key_kind t.key_type)) y z k) ∙ h))
    (λ k. let q = eqb-true n t.key_len (sym (cond-false (is_string (key_kind t.key_type)) y z k) ∙ h) in omega arith)

-- an update's mark of a remaining time is 0 or 1 where its table's is
mark-at-most : (form : Form) (t : Table) → t.timed ≤ 1 → time_mark form t ≤ 1
unfolding time_mark
mark-at-most form t l = by-test form.timed (λ e. rw e (omega arith)) (λ e. rw e l)

-- ---- a table and an entry that are made

made-mark : (name : List ℕ) (d : Rules) → (make_table name d).held ≡ 1
unfolding make_table
made-mark name d = refl

made-facts : (name : List ℕ) (d : Rules) → 1 ≤ length name → length name ≤ 32 → plain_name name ≡ true → is_known (key_kind d.key_type) ≡ true
    → key_length_ok d.key_type d.key_len ≡ true → d.data_types < 2 ^ 19 → d.timed ≤ 1 → TableFacts (make_table name d)
unfolding make_table
made-facts name d a b p k l e t = record { name_least = a; name_most = b; plain = made_plain name d b p; known = k; key_length = l; data_types = e; timed = t }

module _ (table : ℕ) (key : List ℕ) (server : ℤ) (timed remaining : ℕ) (values : List ℕ) where
  made-entry-mark : (make_entry table key server timed remaining values).held ≡ 1
  unfolding make_entry
  made-entry-mark = refl

  made-size : length key ≤ 64 → (make_entry table key server timed remaining values).key_len ≤ 64
  unfolding make_entry
  made-size l = l

  made-entry-table : (make_entry table key server timed remaining values).table ≡ table
  unfolding make_entry
  made-entry-table = refl

  made-entry-facts : (tables : List Table) → table < 8 → table_held (get_or tables table no_table) ≡ true → length key ≤ 64
      → cond (is_string (key_kind (get_or tables table no_table).key_type)) (leb (length key) (get_or tables table no_table).key_len) (eqb (length key) (get_or tables table no_table).key_len) ≡ true
      → slots_ok (get_or tables table no_table).data_types slot_types values ≡ true → timed ≤ 1 → EntryFacts tables (make_entry table key server timed remaining values)
  made-entry-facts tables a b l k v m = record {
    place = unfold make_entry in a;
    table_held = unfold make_entry in b;
    timed = unfold make_entry in m;
    key_length = unfold make_entry entry_key_length_ok in k;
    key_rest = made-rest table key server timed remaining values l;
    values = unfold make_entry values_ok in v;
  }

closing-0 : is_closing 0 ≡ true
unfolding is_closing refuses_opening
closing-0 = refl

closing-25 : is_closing 25 ≡ true
unfolding is_closing refuses_opening
closing-25 = refl

closing-26 : is_closing 26 ≡ true
unfolding is_closing refuses_opening
closing-26 = refl

closing-27 : is_closing 27 ≡ true
unfolding is_closing refuses_opening
closing-27 = refl

closing-29 : is_closing 29 ≡ true
unfolding is_closing refuses_opening
closing-29 = refl

pub failure-least : (f : Failure) → 20 ≤ Effects.failure_number f
unfolding Effects.failure_number
failure-least failure.Short = omega arith
failure-least failure.OutOfRange = omega arith
failure-least failure.NotPlain = omega arith

pub failure-most : (f : Failure) → Effects.failure_number f ≤ 30
unfolding Effects.failure_number
failure-most failure.Short = omega arith
failure-most failure.OutOfRange = omega arith
failure-most failure.NotPlain = omega arith

-- record and store together, sound and of their types' shape
pub record Held (c : Connection) (s : Store) : Type 0 where
  pub store : SoundStore s
  pub store_shape : StoreShape s
  pub connection : SoundConnection s.tables c
  pub connection_shape : ConnectionShape c

-- of what a message does on a store
abbrev pub Kept : Store → Effects.Effect → Type 0
Kept s e = Held e.connection (changed s e.change)

module _ (c : Connection) (s : Store) (h : Held c s) where
  pub close-kept : (n : ℕ) → is_closing n ≡ true → n < 2 ^ 8 → Held (closed_with c n) s
  close-kept n k l = record {
    store = h.store;
    store_shape = h.store_shape;
    connection = close-keeps h.connection n k;
    connection_shape = closed-shape h.connection_shape l;
  }

  pub stays-kept : {d : Connection} → Held d s → Held d (changed s no_change)
  unfolding changed no_change
  stays-kept g = g

  pub refuse-with-kept : (n : ℕ) (a : Answer) → is_closing n ≡ true → n < 2 ^ 8 → Kept s (Effects.refuse_with c n a)
  unfolding Effects.refuse_with
  refuse-with-kept n a k l = stays-kept (close-kept n k l)

  refuse-kept : (n : ℕ) → is_closing n ≡ true → n < 2 ^ 8 → Kept s (Effects.refuse c n)
  unfolding Effects.refuse
  refuse-kept n k l = refuse-with-kept n (answer.Refused n) k l

  pub error-kept : (type : ℕ) → Kept s (Effects.peer_error c type)
  unfolding Effects.peer_error Effects.note
  error-kept type = stays-kept (close-kept 0 closing-0 (lit< tt))

  pub note-kept : (a : Answer) (reply : List ℕ) → Kept s (Effects.note c a reply)
  unfolding Effects.note
  note-kept a reply = stays-kept h

  -- ---- a switch

  switch-at : (id p : ℕ) → find_bound c id ≡ Some p → Held (make_current c p) s
  switch-at id p e =
      let b = found-bound c id p e in
      record {
        store = h.store;
        store_shape = h.store_shape;
        connection = current-keeps h.connection p (omega (arith, b.0, h.connection_shape.places)) (bound-to-bound id (binding_at c p) b.1);
        connection_shape = current-shape h.connection_shape p;
      }

  pub switch_kept : (id : ℕ) (f : (Option ℕ)) → find_bound c id ≡ f → Kept s (Effects.switch_to c f)
  unfolding Effects.switch_to Effects.note
  switch_kept id (Some p) e = stays-kept (switch-at id p e)
  switch_kept id None e = refuse-kept 27 closing-27 (lit< tt)

  -- ---- a definition

  -- a table by the rules, under an ID
  module _ (name : List ℕ) (id : ℕ) (t : Table) (id_fits : id < 2 ^ 32) (mark : t.held ≡ 1) (facts : TableFacts t) (shape : TableShape t)
      (t_name : name_of t ≡ name) where
    t-held : table_held t ≡ true
    unfolding table_held
    t-held = eq-eqb t.held 1 mark

    -- tables that agree
    agreed : (old : Table) → Effects.agrees old t ≡ true → Agrees old t
    unfolding Effects.agrees
    agreed old a =
        let p = eqb old.key_type t.key_type in
        let q = eqb old.key_len t.key_len in
        let r = eqb old.data_types t.data_types in
        let b = and_second p (q && r) a in
        record {
          key_type = eqb-true old.key_type t.key_type (and_first p (q && r) a);
          key_length = eqb-true old.key_len t.key_len (and_first q r b);
          data_types = eqb-true old.data_types t.data_types (and_second q r b);
        }

    define-connection : (place : ℕ) → place < 8 → SoundConnection (put_table s place t).tables (bind c place id)
    unfolding put_table
    define-connection place l =
        bind-keeps (put_keeps place t t-held h.connection) place id l h.connection_shape.places
        (ap table_held (get_or-set_same s.tables place t no_table (omega (arith, h.store_shape.tables))) ∙ t-held)

    -- at a place where no other table has the name, and that is free or agrees
    define-at : (place : ℕ) → place < 8
        → ((q : ℕ) → q < length s.tables → (q ≡ place → ⊥) → table_named name (get_or s.tables q no_table) ≡ false)
        → (table_held (get_or s.tables place no_table) ≡ false) ⊎ Agrees (get_or s.tables place no_table) t
        → Kept s (Effects.define_at c id t place)
    unfolding Effects.define_at changed table_change
    define-at place l other keeps = record {
      store =
          put-table-facts s h.store_shape h.store place t l
          (record {
            flag = mark;
            facts = facts;
            shape = shape;
            fresh = λ q m n. ap (λ (k : List ℕ). table_named k (get_or s.tables q no_table)) t_name ∙ other q m n;
            keeps = keeps;
          });
      store_shape = put-table-shape s place t h.store_shape shape;
      connection = define-connection place l;
      connection_shape = bind-shape h.connection_shape place id_fits;
    }

    define-new : (f : (Option ℕ)) → first_place table_free s.tables ≡ f → find_table s name ≡ None → Kept s (Effects.define_new c id t f)
    unfolding Effects.define_new free_table
    define-new (Some p) e n =
        let k = table-place s p e in
        define-at p (omega (arith, k.inside, h.store_shape.tables)) (λ q m z. table-missing s name n q no_table m)
        (inl (free-not-held (get_or s.tables p no_table) (k.passes no_table)))
    define-new None e n = refuse-kept 26 closing-26 (lit< tt)

    pub define-kept : (f : (Option ℕ)) → find_table s name ≡ f → Kept s (Effects.define_named c s.tables id t f)
    unfolding Effects.define_named
    define-kept (Some p) e =
        let k = table-found s name p e in
        by-test (Effects.agrees (get_or s.tables p no_table) t)
        (λ a. rw a (define-at p (omega (arith, k.inside, h.store_shape.tables)) (only-table s name p h.store e) (inr (agreed (get_or s.tables p no_table) a))))
        (λ a. rw a (refuse-kept 25 closing-25 (lit< tt)))
    define-kept None e = define-new (first_place table_free s.tables) refl e

  -- the table that a definition describes
  pub definition-kept : (body : List ℕ) (d : Definition) (next : ℕ) → Bytes body → definition_fields body ≡ got d next
      → Kept s (Effects.define_named c s.tables d.id (Effects.defined_table body d) (first_place (table_named (span_in body d.name)) s.tables))
  unfolding Effects.defined_table find_table
  definition-kept body d next bytes e =
      let w = (definition-within body d next e).0 in
      let name = span_in body d.name in
      let n : length name ≡ d.name.len = span-length body d.name w.name_end in
      let r : Rules = record {
        key_type = d.key_type;
        key_len = d.key_length;
        data_types = d.data_types;
        timed = d.times.timed;
        expiry = d.times.expiry;
        periods = d.times.periods;
      } in
      let l = key-length-most d.key_type d.key_length w.key_length in
      define-kept name d.id (make_table name r) w.id (made-mark name r)
      (made-facts name r (omega (arith, n, w.name_least)) (omega (arith, n, w.name_most)) w.plain w.key_type w.key_length w.data_types w.timed)
      (made-table-shape name r (omega (arith, n, w.name_most)) (span-bytes body d.name w.name_end bytes).byte
      (record {
        key_type = omega (arith, known_small d.key_type w.key_type);
        key_length = omega arith;
        data_types = omega (arith, w.data_types);
        timed = omega (arith, w.timed);
        expiry = w.expiry;
        periods = w.periods;
      }))
      (made-name name r (omega (arith, n, w.name_most))) (find_table s name) refl

  -- ---- an update

  -- an entry by the rules, under an update ID
  module _ (table id : ℕ) (key : List ℕ) (e : Entry) (id_fits : id < 2 ^ 32) (now : c.current ≡ table + 1) (mark : e.held ≡ 1)
      (facts : EntryFacts s.tables e) (shape : EntryShape e) (e-table : e.table ≡ table) (e-key : key_of e ≡ key) where
    commit-connection : SoundConnection s.tables (committed c table id)
    commit-connection =
        let l = h.connection.current_limit in
        commit-keeps h.connection table id (omega (arith, h.connection_shape.places)) (h.connection.current_held table now)

    -- no entry at another place has the key
    commit-at : (place : ℕ) (how : Commit)
        → ((q : ℕ) → q < length s.entries → (q ≡ place → ⊥) → entry_keyed table key (get_or s.entries q no_entry) ≡ false)
        → Kept s (Effects.commit_at c id e place how)
    unfolding Effects.commit_at changed entry_change put_entry with_entries
    commit-at place how other = record {
      store =
          put-entry-facts s h.store_shape h.store place e
          (record {
            flag = mark;
            facts = facts;
            shape = shape;
            fresh = λ q m n.
                ap (λ (x : List ℕ). entry_keyed e.table x (get_or s.entries q no_entry)) e-key
                ∙ (ap (λ (x : ℕ). entry_keyed x key (get_or s.entries q no_entry)) e-table ∙ other q m n);
          });
      store_shape = put-entry-shape s place e h.store_shape shape;
      connection = subst (λ (n : ℕ). SoundConnection s.tables (committed c n id)) (sym e-table) commit-connection;
      connection_shape = subst (λ (n : ℕ). ConnectionShape (committed c n id)) (sym e-table) (commit-shape h.connection_shape table id_fits);
    }

    pub commit-kept : (f : (Option ℕ)) → find_entry s table key ≡ f → Kept s (Effects.commit_entry c id e (place_of f (first_place entry_free s.entries)))
    unfolding Effects.commit_entry place_of free_of
    commit-kept (Some p) q = commit-at p commit.Replaced (only-entry s table key p h.store q)
    commit-kept None q = commit-free (first_place entry_free s.entries)
      where
        commit-free : (f : (Option ℕ)) → Kept s (Effects.commit_entry c id e (place_of None f))
        commit-free (Some p) = commit-at p commit.New (λ r m z. entry-missing s table key q r no_entry m)
        commit-free None = refuse-kept 29 closing-29 (lit< tt)

  -- the entry that an update makes
  pub update-kept : (form : Form) (following : ℕ) (body : List ℕ) (table : ℕ) (u : Update) → Bytes body → following < 2 ^ 32
      → c.current ≡ table + 1 → UpdateRead form (get_or s.tables table no_table) following body u
      → Kept s (Effects.commit_entry c u.id (Effects.updated_entry body table u) (goes_to s.entries (Effects.updated_entry body table u)))
  unfolding Effects.updated_entry find_entry
  update-kept form following body table u bytes l now r =
      let t = get_or s.tables table no_table in
      let w = r.within in
      let key = span_in body u.key in
      let n : length key ≡ u.key.len = span-length body u.key w.key_end in
      let small : table < 8 = (let l = h.connection.current_limit in omega arith) in
      let held = h.connection.current_held table now in
      let tf = h.store.table table (omega (arith, small, h.store_shape.tables)) held in
      let most = key-length-most t.key_type t.key_len tf.key_length in
      let short : length key ≤ 64 = omega (arith, key-at-most t u.key.len w.key_length) in
      let mark : u.time.timed ≤ 1 = rw r.mark (mark-at-most form t tf.timed) in
      let left = r.time-small bytes (h.store_shape.table table small).expiry in
      let made = make_entry table key u.server u.time.timed u.time.remaining u.values in
      let size : made.key_len ≤ 64 = made-size table key u.server u.time.timed u.time.remaining u.values short in
      let table_is = made-entry-table table key u.server u.time.timed u.time.remaining u.values in
      let key-is = made-key table key u.server u.time.timed u.time.remaining u.values short in
      subst (λ (f : Place). Kept s (Effects.commit_entry c u.id made f)) (sym (goes-by-key s.entries made table key size table_is key-is))
      (commit-kept table u.id key made (r.id-small bytes l) now
      (made-entry-mark table key u.server u.time.timed u.time.remaining u.values)
      (made-entry-facts table key u.server u.time.timed u.time.remaining u.values s.tables small held short (rw n w.key_length) w.slots mark)
      (made-entry-shape table key u.server u.time.timed u.time.remaining u.values (omega arith) (omega arith)
      (span-bytes body u.key w.key_end bytes).byte w.server (omega (arith, mark)) left w.values)
      table_is key-is (find_entry s table key) refl)
