-- Putting a table or an entry by the rules keeps a sound store sound.
use Rattle.std.proofs.Common.{◌≡◌, ℕ, ◌-◌, ◌<◌, ◌≤◌, Bool, true, false, cond, ◌&&◌, eqb, leb, ◌⊎◌, List, length, get_or, set, ℤ, sym, refl, ap, ◌∙◌, subst, ⊎_elim, arith, get_or-set_other, get_or-set_same, eq-eqb}
use Rattle.lists.specs.Lists.{all_of, every, distinct, is_zero, eq_bytes, up_to}
use Rattle.lists.proofs.Cases.{never, not-passed, and_first, and_second, and-false-second, eq-or-ne}
use Rattle.lists.proofs.Stores.{stored-each, stored-apart}
use Rattle.lists.proofs.Bytes.{pad-take, pad-drop, zeros-zero}
use Rattle.store.specs.declared.Table.{Table}
use Rattle.store.specs.declared.Entry.{Entry}
use Rattle.store.specs.declared.Store.{Store}
use Rattle.store.specs.declared.Definition.{Definition}
use Rattle.store.specs.Limits.{key_max, name_max, plain_name, key_kind, is_string, slot_types}
use Rattle.store.specs.Store.{table_held, entry_held, name_of, key_of, table_named, entry_keyed, make_entry, make_table, with_entries, counts_of, count_of, owned_by, put_table, put_entry, no_table, no_entry, empty_store}
use Rattle.store.specs.Shape.{TableShape, EntryShape, StoreShape}
use Rattle.store.specs.Sound.{same_name, entry_key_length_ok, key_rest_zero, slots_ok, values_ok, same_key, counts_right, sound_store, sound_table, sound_entry}
use Rattle.store.proofs.Facts.{TableFacts, EntryFacts, SoundStore, named-facts, facts-named, keyed-facts, facts-keyed, name-size, key-size}

-- ---- the rules

-- "A known table and key has its values replaced. Otherwise the entry takes the lowest free place": no other place holds its table and key
pub record EntryRules (s : Store) (place : ℕ) (e : Entry) : Type 0 where
  pub flag : e.held ≡ 1
  pub facts : EntryFacts s.tables e
  pub shape : EntryShape e
  pub fresh : (j : ℕ) → j < length s.entries → (j ≡ place → ⊥) → entry_keyed e.table (key_of e) (get_or s.entries j no_entry) ≡ false

-- "A held name must agree in key type, key length and data types"
pub record Agrees (t u : Table) : Type 0 where
  pub key_type : t.key_type ≡ u.key_type
  pub key_length : t.key_len ≡ u.key_len
  pub data_types : t.data_types ≡ u.data_types

pub record TableRules (s : Store) (place : ℕ) (t : Table) : Type 0 where
  pub flag : t.held ≡ 1
  pub facts : TableFacts t
  pub shape : TableShape t
  pub fresh : (j : ℕ) → j < length s.tables → (j ≡ place → ⊥) → table_named (name_of t) (get_or s.tables j no_table) ≡ false
  pub keeps : (table_held (get_or s.tables place no_table) ≡ false) ⊎ Agrees (get_or s.tables place no_table) t

-- ---- an entry

keyed-first : (e f : Entry) → entry_keyed e.table (key_of e) f ≡ false → same_key e f ≡ false
unfolding same_key
keyed-first e f h = and-false-second (entry_held e) (entry_keyed e.table (key_of e) f) h

keyed-second : (e f : Entry) → (entry_held f ≡ true → length (key_of f) ≡ f.key_len) → entry_keyed e.table (key_of e) f ≡ false → same_key f e ≡ false
unfolding same_key
keyed-second e f z h =
    not-passed (entry_held f && entry_keyed f.table (key_of f) e)
    (λ q.
    let a = and_first (entry_held f) (entry_keyed f.table (key_of f) e) q in
    let k = keyed-facts f.table (key_of f) e (and_second (entry_held f) (entry_keyed f.table (key_of f) e) q) in
    never
    (facts-keyed e.table (key_of e) f
    (record { held = a; owner = sym k.owner; size = sym (z a) ∙ ap length (sym k.bytes); bytes = sym k.bytes }))
    h)

module _ (s : Store) (h : StoreShape s) (r : SoundStore s) where
  owner-facts : (e : Entry) → EntryFacts s.tables e → TableFacts (get_or s.tables e.table no_table)
  owner-facts e f = r.table e.table (omega (arith, f.place, h.tables)) f.table_held

  held-size : (i : ℕ) → i < length s.entries → entry_held (get_or s.entries i no_entry) ≡ true
      → length (key_of (get_or s.entries i no_entry)) ≡ (get_or s.entries i no_entry).key_len
  held-size i l q =
      let e = get_or s.entries i no_entry in
      let f = r.entry i l q in
      key-size (get_or s.tables e.table no_table) e (owner-facts e f) f.key_length (h.entry i (omega (arith, h.entries)))

  pub put-entry-facts : (place : ℕ) (e : Entry) → EntryRules s place e → SoundStore (put_entry s place e)
  unfolding put_entry with_entries
  put-entry-facts place e w =
      record {
        table_flag = r.table_flag;
        table = r.table;
        names = r.names;
        entry_flag = stored-each es place e no_entry (λ (f : Entry). f.held ≤ 1) (omega (arith, w.flag)) r.entry_flag;
        entry = stored-each es place e no_entry (λ (f : Entry). entry_held f ≡ true → EntryFacts s.tables f) (λ q. w.facts) r.entry;
        keys = stored-apart es place e no_entry same_key
            (λ j l f.
            (keyed-first e (get_or es j no_entry) (w.fresh j l f), keyed-second e (get_or es j no_entry) (held-size j l) (w.fresh j l f)))
            r.keys;
        counts = refl;
      }
    where
      es : List Entry
      es = s.entries

-- ---- a table

table-held : (t : Table) → t.held ≡ 1 → table_held t ≡ true
unfolding table_held
table-held t h = eq-eqb t.held 1 h

named-first : (t u : Table) → table_named (name_of t) u ≡ false → same_name t u ≡ false
unfolding same_name
named-first t u h = and-false-second (table_held t) (table_named (name_of t) u) h

named-second : (t u : Table) → (table_held u ≡ true → length (name_of u) ≡ u.name_len) → table_named (name_of t) u ≡ false → same_name u t ≡ false
unfolding same_name
named-second t u z h =
    not-passed (table_held u && table_named (name_of u) t)
    (λ q.
    let a = and_first (table_held u) (table_named (name_of u) t) q in
    let k = named-facts (name_of u) t (and_second (table_held u) (table_named (name_of u) t) q) in
    never
    (facts-named (name_of t) u (record { held = a; size = sym (z a) ∙ ap length (sym k.bytes); bytes = sym k.bytes }))
    h)

-- what an entry's soundness takes of its table
unfoldable length_by : ℕ → ℕ → ℕ → Bool
length_by key_type most n = cond (is_string (key_kind key_type)) (leb n most) (eqb n most)

agreeing-length : (t u : Table) (e : Entry) → Agrees t u → entry_key_length_ok t e ≡ entry_key_length_ok u e
unfolding entry_key_length_ok length_by
agreeing-length t u e a =
    ap (λ (k : ℕ). length_by k t.key_len e.key_len) a.key_type ∙ ap (λ (n : ℕ). length_by u.key_type n e.key_len) a.key_length

agreeing-values : (t u : Table) (e : Entry) → Agrees t u → values_ok t e ≡ values_ok u e
unfolding values_ok
agreeing-values t u e a = ap (λ (n : ℕ). slots_ok n slot_types e.values) a.data_types

module _ (tables : List Table) (place : ℕ) (t : Table) (held : t.held ≡ 1) (inside : place < length tables)
    (keeps : (table_held (get_or tables place no_table) ≡ false) ⊎ Agrees (get_or tables place no_table) t) where
  entry-stays : (e : Entry) → EntryFacts tables e → EntryFacts (set tables place t) e
  entry-stays e f =
      ⊎_elim
      (λ z.
      let here = ap (λ (n : ℕ). get_or (set tables place t) n no_table) z ∙ get_or-set_same tables place t no_table inside in
      let old = ap (λ (n : ℕ). get_or tables n no_table) z in
      ⊎_elim
      (λ g. never (subst (λ (u : Table). table_held u ≡ true) old f.table_held) g)
      (λ a.
      record {
        place = f.place;
        table_held = subst (λ (u : Table). table_held u ≡ true) (sym here) (table-held t held);
        key_length =
            subst (λ (u : Table). entry_key_length_ok u e ≡ true) (sym here)
            (sym (agreeing-length (get_or tables place no_table) t e a) ∙ subst (λ (u : Table). entry_key_length_ok u e ≡ true) old f.key_length);
        timed = f.timed;
        key_rest = f.key_rest;
        values =
            subst (λ (u : Table). values_ok u e ≡ true) (sym here)
            (sym (agreeing-values (get_or tables place no_table) t e a) ∙ subst (λ (u : Table). values_ok u e ≡ true) old f.values);
      })
      keeps)
      (λ z.
      let there = get_or-set_other tables place e.table t no_table z in
      record {
        place = f.place;
        table_held = subst (λ (u : Table). table_held u ≡ true) (sym there) f.table_held;
        key_length = subst (λ (u : Table). entry_key_length_ok u e ≡ true) (sym there) f.key_length;
        timed = f.timed;
        key_rest = f.key_rest;
        values = subst (λ (u : Table). values_ok u e ≡ true) (sym there) f.values;
      })
      (eq-or-ne e.table place)

module _ (s : Store) (h : StoreShape s) (r : SoundStore s) where
  named-size : (i : ℕ) → i < length s.tables → table_held (get_or s.tables i no_table) ≡ true
      → length (name_of (get_or s.tables i no_table)) ≡ (get_or s.tables i no_table).name_len
  named-size i l q = name-size (get_or s.tables i no_table) (r.table i l q) (h.table i (omega (arith, h.tables)))

  pub put-table-facts : (place : ℕ) (t : Table) → place < 8 → TableRules s place t → SoundStore (put_table s place t)
  unfolding put_table
  put-table-facts place t inside w =
      record {
        table_flag = stored-each ts place t no_table (λ (u : Table). u.held ≤ 1) (omega (arith, w.flag)) r.table_flag;
        table = stored-each ts place t no_table (λ (u : Table). table_held u ≡ true → TableFacts u) (λ q. w.facts) r.table;
        names = stored-apart ts place t no_table same_name
            (λ j l f.
            (named-first t (get_or ts j no_table) (w.fresh j l f), named-second t (get_or ts j no_table) (named-size j l) (w.fresh j l f)))
            r.names;
        entry_flag = r.entry_flag;
        entry = λ i l q. entry-stays ts place t w.flag (omega (arith, h.tables)) w.keeps (get_or s.entries i no_entry) (r.entry i l q);
        keys = r.keys;
        counts = r.counts;
      }
    where
      ts : List Table
      ts = s.tables

-- ---- a made entry and a made table

pub made-key : (table : ℕ) (key : List ℕ) (server : ℤ) (timed remaining : ℕ) (values : List ℕ) → length key ≤ 64
    → key_of (make_entry table key server timed remaining values) ≡ key
unfolding key_of make_entry
made-key table key server timed remaining values l = pad-take key_max key l

pub made-rest : (table : ℕ) (key : List ℕ) (server : ℤ) (timed remaining : ℕ) (values : List ℕ) → length key ≤ 64
    → key_rest_zero (make_entry table key server timed remaining values) ≡ true
unfolding key_rest_zero make_entry
made-rest table key server timed remaining values l = ap (every is_zero) (pad-drop key_max key l) ∙ zeros-zero (key_max - length key)

pub made-name : (name : List ℕ) (d : Definition) → length name ≤ 32 → name_of (make_table name d) ≡ name
unfolding name_of make_table
made-name name d l = pad-take name_max name l

pub made_plain : (name : List ℕ) (d : Definition) → length name ≤ 32 → plain_name name ≡ true → plain_name (name_of (make_table name d)) ≡ true
made_plain name d l h = ap plain_name (made-name name d l) ∙ h

-- ---- the store without tables and entries

pub empty-sound : sound_store empty_store ≡ true
unfolding sound_store empty_store all_of every distinct sound_table sound_entry same_name same_key counts_right eq_bytes counts_of count_of owned_by up_to no_table no_entry table_held entry_held
empty-sound = refl
