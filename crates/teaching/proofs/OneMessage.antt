-- What one definition and one update do to a reader that doesn't hold the table or the key: the next table or entry.
use Rattle.std.specs.Prelude.{None, Some}
use Prim.Native.Nat.{ℕ, ◌+◌, ◌-◌, ◌^◌, ◌<◌}
use native.Mathlib.Omega.{arith}
use mathlib.Core.Path.{◌≡◌, refl, sym, ap, ◌∙◌}
use mathlib.Core.List.{List, [], ◌∷◌, ◌++◌}
use mathlib.Core.Bool.{true, false, cond, not, ◌||◌}
use lib.ListN.{length, get_or, length-take}
use lib.Dec.{ltb, leb, eqb}
use lib.IntN.{pos}
use borrow.Author.Tests.{lt-ltb, eqb-true, ne_eqb, not-false}
use Rattle.lists.specs.Lists.{every, first_place}
use Rattle.lists.proofs.Cases.{by-test, and_first, and_second, and-false-second, cond-true}
use Rattle.lists.proofs.Bytes.{pad-take}
use Rattle.store.specs.declared.Table.{Table}
use Rattle.store.specs.declared.Entry.{Entry}
use Rattle.store.specs.declared.Store.{Store}
use Rattle.store.specs.Limits.{name_max, key_max, table_places, entry_places, present, slot_types}
use Rattle.store.specs.Store.{table_held, table_free, entry_free, entry_held, entry_of, entry_keyed, table_named, name_of, key_of, make_table, make_entry, no_table, no_entry, put_table, put_entry, with_entries}
use Rattle.store.specs.Shape.{TableShape}
use Rattle.store.specs.Sound.{entry_key_length_ok, values_ok}
use Rattle.store.specs.declared.entries.Place.TheVariants as place
use Rattle.store.specs.Places.{place_of, free_of}
use Rattle.session.specs.declared.Binding.{Binding}
use Rattle.session.specs.declared.Connection.{Connection}
use Rattle.session.specs.declared.Commit.TheVariants as commit
use Rattle.session.specs.Session.{is_closed, established, binding_at, is_updated, bind, bind_to, current_of, committed, commit_to, with_tables}
use Rattle.session.proofs.Bindings.{bind-length, bound-here, commit-length, committed-here}
use Rattle.body.specs.declared.update.Form.{Form}
use Rattle.body.specs.Fields.{got, span_in}
use Rattle.body.specs.Bodies.{update_fields, form_of, time_mark}
use Rattle.body.specs.Encodings.{definition_bytes, update_bytes, entry_bytes}
use Rattle.body.specs.ReadBack.{times_back, present_only, update_back, DefinitionBack, UpdateBack, Sendable}
use Rattle.body.proofs.UpdateBack.{updates-read-back}
use Rattle.message.specs.Changes.{changed, table_change, entry_change}
use Rattle.message.specs.Targets.{keyed_as, goes_to}
use Rattle.message.specs.declared.Effect.{Effect}
use Rattle.message.specs.Effects.{commits, fields_then, defined_table, define_at, define_new, define_named, definition, updated_entry, with_fields, following_id, update_of, update, other_message, by_form, stick_table, acknowledge, commit_at, commit_entry, done}
use Rattle.session.specs.declared.Sending.{Sending}
use Rattle.sending.specs.Sending.{follows, form_for, type_of}
use Rattle.sending.proofs.Leaving.{types-read-back}
use Rattle.teaching.proofs.Members.{every-member, members-every}
use Rattle.teaching.proofs.Filled.{filled, filled_at, filled_put, filled-first, filled_none, none}

-- ---- what is read of a table and of an entry

-- the table that the definition of a table makes
unfoldable pub read_table : Table → Table
read_table t =
    make_table (name_of t)
    (record {
      key_type = t.key_type;
      key_len = t.key_len;
      data_types = t.data_types;
      timed = (times_back t).timed;
      expiry = (times_back t).expiry;
      periods = (times_back t).periods;
    })

-- the entry that an update of an entry of table t makes, where that table was read to a place
unfoldable pub read_entry : ℕ → Table → Entry → Entry
read_entry place t e =
    make_entry place (key_of e)
    (cond (present t.data_types 0) e.server_id (pos 0))
    (cond (eqb e.timed 1) 1 (times_back t).timed)
    (cond (eqb e.timed 1) e.remaining (times_back t).expiry)
    (present_only t.data_types slot_types e.values)

-- the name stays
pub name-kept : (t : Table) → TableShape t → name_of (read_table t) ≡ name_of t
unfolding read_table make_table name_of
name-kept t h = pad-take name_max (name_of t) (omega (arith, length-take t.name_len t.name, h.name.size))

-- ---- an open reader that holds these tables and entries, in place order, where it had the store `start` without any

-- every place is free
pub record AllFree (start : Store) : Type 0 where
  pub tables : length start.tables ≡ table_places
  pub entries : length start.entries ≡ entry_places
  pub tables-free : every table_free start.tables ≡ true
  pub entries-free : every entry_free start.entries ≡ true

pub record Reading (start : Store) (c : Connection) (s : Store) (ts : List Table) (es : List Entry) : Type 0 where
  pub free : AllFree start
  pub opened : is_closed c ≡ false
  pub phase : c.phase ≡ established
  pub places : length c.bindings ≡ table_places
  pub tables : s.tables ≡ filled start.tables ts
  pub entries : s.entries ≡ filled start.entries es

-- its current table is that at place k, bound to the ID; where the sender sent an update since it defined that table, the reader has its ID
pub record Current (c : Connection) (x : Sending) (k id : ℕ) : Type 0 where
  pub current : c.current ≡ k + 1
  pub bound : (binding_at c k).id ≡ id
  pub updated : x.sent ≡ 1 → is_updated (binding_at c k) ≡ true
  pub previous : x.sent ≡ 1 → (binding_at c k).previous ≡ x.last

-- ---- a definition

-- a free place has no name
free-unnamed : (name : List ℕ) (t : Table) → table_free t ≡ true → not (table_named name t) ≡ true
unfolding table_free table_named table_held
free-unnamed name t h =
    let n : t.held ≡ 1 → ⊥ = λ q. omega (arith, eqb-true t.held 0 h) in
    rw (ne_eqb t.held 1 n)

none_named : (name : List ℕ) (ts : List Table) → every table_free ts ≡ true → none (table_named name) ts ≡ true
none_named name ts h =
    members-every (λ t. not (table_named name t)) ts (λ t m. free-unnamed name t (every-member table_free ts t h m))

definition-read : (c : Connection) (tables : List Table) (id : ℕ) (t : Table) → DefinitionBack id t
    → definition c tables (definition_bytes id t) ≡ define_named c tables id (read_table t) (first_place (table_named (name_of t)) tables)
unfolding definition fields_then defined_table read_table
definition-read c tables id t b = rw (b.fields, b.name)

is-definition : (c : Connection) (tables : List Table) (entries : List Entry) (body : List ℕ)
    → done c entries (stick_table c tables 130 body) ≡ definition c tables body
unfolding done stick_table by_form form_of other_message
is-definition c tables entries body = refl

module _ (start : Store) (c : Connection) (s : Store) (ts : List Table) (es : List Entry) (r : Reading start c s ts es) (id : ℕ) (t : Table) (back : DefinitionBack id t)
    (few : length ts < 8) (held : none table_free ts ≡ true) (new : none (table_named (name_of t)) ts ≡ true) where
  pub defines : done c s.entries (stick_table c s.tables 130 (definition_bytes id t)) ≡ define_at c id (read_table t) (length ts)
  unfolding define_named define_new
  defines =
      let a : first_place (table_named (name_of t)) s.tables ≡ None =
      ap (first_place (table_named (name_of t))) r.tables ∙ filled_none (table_named (name_of t)) start.tables ts new (none_named (name_of t) start.tables r.free.tables-free) in
      let b : first_place table_free s.tables ≡ Some (length ts) =
      ap (first_place table_free) r.tables ∙ filled-first table_free start.tables no_table ts (omega (arith, r.free.tables)) held r.free.tables-free in
      is-definition c s.tables s.entries (definition_bytes id t)
      ∙ (definition-read c s.tables id t back ∙ rw (a, b))

  abbrev defining : Effect
  defining = define_at c id (read_table t) (length ts)

  pub defined-reply : defining.reply ≡ []
  unfolding define_at
  defined-reply = refl

  pub defined-reading : Reading start defining.connection (changed s defining.change) (ts ++ (read_table t ∷ [])) es
  unfolding define_at bind with_tables is_closed changed table_change put_table
  defined-reading = record {
    free = r.free;
    opened = r.opened;
    phase = r.phase;
    places = bind-length c (length ts) id ∙ r.places;
    tables = rw r.tables (filled_put start.tables no_table ts (read_table t) (omega (arith, r.free.tables)));
    entries = r.entries;
  }

  pub defined-current : (x : Sending) → x.sent ≡ 0 → Current defining.connection x (length ts) id
  unfolding define_at bind with_tables current_of
  defined-current x z = record {
    current = cond-true (ltb (length ts) 8) (length ts + 1) 0 (lt-ltb (length ts) 8 few);
    bound = ap (λ (b : Binding). b.id) (bound-here c (length ts) id (omega (arith, r.places))) ∙ unfold bind_to in refl;
    updated = λ o. absurd (omega arith);
    previous = λ o. absurd (omega arith);
  }

-- ---- an update

-- a free place has no key
free-unkeyed : (e f : Entry) → entry_free f ≡ true → not (keyed_as e f) ≡ true
unfolding entry_free keyed_as entry_keyed entry_of entry_held
free-unkeyed e f h =
    let n : f.held ≡ 1 → ⊥ = λ q. omega (arith, eqb-true f.held 0 h) in
    rw (ne_eqb f.held 1 n, and-false-second (leb e.key_len key_max) false refl)

none-keyed : (e : Entry) (fs : List Entry) → every entry_free fs ≡ true → none (keyed_as e) fs ≡ true
none-keyed e fs h = members-every (λ f. not (keyed_as e f)) fs (λ f m. free-unkeyed e f (every-member entry_free fs f h m))

-- an update reads the table's key type, key length and data types, which the reader has too
same_bytes : (form : Form) (t : Table) (id : ℕ) (e : Entry) → update_bytes form t id e ≡ update_bytes form (read_table t) id e
unfolding update_bytes entry_bytes read_table make_table
same_bytes form t id e = refl

sendable-there : (t : Table) (e : Entry) → Sendable t e → Sendable (read_table t) e
sendable-there t e z = record {
  shape = z.shape;
  key_most = z.key_most;
  key_length = unfold entry_key_length_ok read_table make_table in z.key_length;
  values = unfold values_ok read_table make_table in z.values;
}

module _ (x : Sending) (id : ℕ) where
  follows-sent : follows x id ≡ true → x.sent ≡ 1
  unfolding follows
  follows-sent h = eqb-true x.sent 1 (and_first (eqb x.sent 1) (eqb id (following_id x.last)) h)

  pub follows-last : follows x id ≡ true → id ≡ following_id x.last
  unfolding follows
  follows-last h = eqb-true id (following_id x.last) (and_second (eqb x.sent 1) (eqb id (following_id x.last)) h)

module _ (start : Store) (c : Connection) (s : Store) (ts : List Table) (es : List Entry) (r : Reading start c s ts es) (x : Sending) (k id : ℕ) (now : Current c x k id)
    (t : Table) (few : k < length ts) (there : get_or ts k no_table ≡ read_table t) (update-id : ℕ) (small : update-id < 2 ^ 32) (e : Entry) (z : Sendable t e)
    (room : length es < 128) (held : none entry_free es ≡ true) (new : none (keyed_as (read_entry k t e)) es ≡ true) where
  abbrev form : Form
  form = form_for x e update-id

  abbrev body : List ℕ
  body = update_bytes form t update-id e

  abbrev following : ℕ
  following = following_id (binding_at c k).previous

  incremental : form.explicit ≡ false → follows x update-id ≡ true
  unfolding form_for
  incremental h = not-false (follows x update-id) h

  reads : UpdateBack form (read_table t) following update-id e
  reads =
      updates-read-back form (read_table t) following update-id e small
      (λ h.
      follows-last x update-id (incremental h)
      ∙ ap following_id (sym (now.previous (follows-sent x update-id (incremental h)))))
      (sendable-there t e z)

  known : (form.explicit || is_updated (binding_at c k)) ≡ true
  known =
      by-test form.explicit
      (λ h. rw h)
      (λ h. rw (h, now.updated (follows-sent x update-id (incremental h))))

  fields : update_fields form (get_or s.tables k no_table) following body ≡ got (update_back form (read_table t) update-id e) (length body)
  fields =
      let g : get_or s.tables k no_table ≡ read_table t =
      ap (λ (l : List Table). get_or l k no_table) r.tables ∙ (filled_at start.tables no_table ts k few ∙ there) in
      rw (g, same_bytes form t update-id e) reads.fields

  entry_read : updated_entry body k (update_back form (read_table t) update-id e) ≡ read_entry k t e
  unfolding updated_entry read_entry time_mark form_for
  entry_read =
      let q : span_in body (update_back form (read_table t) update-id e).key ≡ key_of e = rw (same_bytes form t update-id e) reads.key in
      rw q (unfold read_table make_table in refl)

  asks : stick_table c s.tables (type_of form) body ≡ commits update-id (read_entry k t e)
  unfolding stick_table by_form update update_of with_fields fields_then
  asks =
      let q : c.current ≡ 0 → ⊥ = λ y. omega (arith, now.current) in
      let p : c.current - 1 ≡ k = omega (arith, now.current) in
      rw (types-read-back form, ne_eqb c.current 0 q, p, known, fields, entry_read)

  goes : goes_to s.entries (read_entry k t e) ≡ place.Free (length es)
  unfolding goes_to place_of free_of
  goes =
      let made = read_entry k t e in
      let a : first_place (keyed_as made) s.entries ≡ None =
      ap (first_place (keyed_as made)) r.entries ∙ filled_none (keyed_as made) start.entries es new (none-keyed made start.entries r.free.entries-free) in
      let b : first_place entry_free s.entries ≡ Some (length es) =
      ap (first_place entry_free) r.entries ∙ filled-first entry_free start.entries no_entry es (omega (arith, r.free.entries)) held r.free.entries-free in
      rw (a, b)

  pub commits-new : done c s.entries (stick_table c s.tables (type_of form) body) ≡ commit_at c update-id (read_entry k t e) (length es) commit.New
  unfolding done commit_entry
  commits-new = rw (asks, goes)

  abbrev committing : Effect
  committing = commit_at c update-id (read_entry k t e) (length es) commit.New

  pub commit-reply : committing.reply ≡ acknowledge id update-id
  unfolding commit_at read_entry make_entry
  commit-reply = ap (λ (n : ℕ). acknowledge n update-id) now.bound

  pub committed-reading : Reading start committing.connection (changed s committing.change) ts (es ++ (read_entry k t e ∷ []))
  unfolding commit_at committed with_tables is_closed changed entry_change put_entry with_entries
  committed-reading = record {
    free = r.free;
    opened = r.opened;
    phase = r.phase;
    places = commit-length c (read_entry k t e).table update-id ∙ r.places;
    tables = r.tables;
    entries = rw r.entries (filled_put start.entries no_entry es (read_entry k t e) (omega (arith, r.free.entries)));
  }

  pub committed-current : (y : Sending) → y.last ≡ update-id → k < 8 → Current committing.connection y k id
  unfolding commit_at committed with_tables read_entry make_entry
  committed-current y l m =
      let h : binding_at (committed c k update-id) k ≡ commit_to update-id (binding_at c k) = committed-here c k update-id (omega (arith, r.places)) in
      record {
        current = now.current;
        bound = ap (λ (b : Binding). b.id) h ∙ (unfold commit_to in now.bound);
        updated = λ o. ap is_updated h ∙ unfold commit_to is_updated in refl;
        previous = λ o. ap (λ (b : Binding). b.previous) h ∙ (unfold commit_to in sym l);
      }
