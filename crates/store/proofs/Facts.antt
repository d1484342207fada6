-- Soundness as facts: what a sound store holds, and that such facts make a store sound.
use Rattle.std.proofs.Common.{◌≡◌, ℕ, ◌^◌, ◌<◌, ◌≤◌, Bool, true, false, not, ◌&&◌, ◌||◌, eqb, ltb, leb, List, [], ◌∷◌, length, get_or, sym, ◌∙◌, arith, length-take-le, ltb-true, lt-ltb, eq-eqb, eqb-true, le-leb, leb-true}
use Rattle.lists.specs.Lists.{all_of, every, distinct, eq_bytes}
use Rattle.lists.proofs.Cases.{by-test, and_first, and_second, and_intro, unless-elim, unless-intro, cond-true, cond-false, all_none, all_first, all_rest, all-intro}
use Rattle.lists.proofs.Every.{every-at, every-from}
use Rattle.lists.proofs.Distinct.{distinct-at, distinct_from}
use Rattle.lists.proofs.Bytes.{eq-bytes, bytes_eq}
use Rattle.store.specs.declared.Table.{Table}
use Rattle.store.specs.declared.Entry.{Entry}
use Rattle.store.specs.declared.Store.{Store}
use Rattle.store.specs.Limits.{plain_name, key_kind, is_known, is_string, key_length_ok, data_types_ok}
use Rattle.store.specs.Store.{table_held, entry_held, name_of, key_of, table_named, entry_of, entry_keyed, counts_of, no_table, no_entry}
use Rattle.store.specs.Shape.{TableShape, EntryShape}
use Rattle.store.specs.Sound.{name_length_ok, name_plain, key_type_ok, table_key_length_ok, table_types_ok, timed_ok, table_tests, sound_table, same_name, entry_table_ok, entry_timed_ok, entry_key_length_ok, key_rest_zero, values_ok, entry_tests, sound_entry, same_key, counts_right, sound_store}
use Rattle.store.proofs.Rules.{key-length-most}
use Rattle.store.proofs.Counting.{right-counts, counts-right}

-- ---- facts

-- of a held table
pub record TableFacts (t : Table) : Type 0 where
  pub name_least : 1 ≤ t.name_len
  pub name_most : t.name_len ≤ 32
  pub plain : plain_name (name_of t) ≡ true
  pub known : is_known (key_kind t.key_type) ≡ true
  pub key_length : key_length_ok t.key_type t.key_len ≡ true
  pub data_types : t.data_types < 2 ^ 19
  pub timed : t.timed ≤ 1

-- of a held entry, among these tables
pub record EntryFacts (tables : List Table) (e : Entry) : Type 0 where
  pub place : e.table < 8
  pub table_held : table_held (get_or tables e.table no_table) ≡ true
  pub timed : e.timed ≤ 1
  pub key_length : entry_key_length_ok (get_or tables e.table no_table) e ≡ true
  pub key_rest : key_rest_zero e ≡ true
  pub values : values_ok (get_or tables e.table no_table) e ≡ true

pub record SoundStore (s : Store) : Type 0 where
  pub table_flag : (i : ℕ) → i < length s.tables → (get_or s.tables i no_table).held ≤ 1
  pub table : (i : ℕ) → i < length s.tables → table_held (get_or s.tables i no_table) ≡ true → TableFacts (get_or s.tables i no_table)
  pub names : (i j : ℕ) → i < j → j < length s.tables → same_name (get_or s.tables i no_table) (get_or s.tables j no_table) ≡ false
  pub entry_flag : (i : ℕ) → i < length s.entries → (get_or s.entries i no_entry).held ≤ 1
  pub entry : (i : ℕ) → i < length s.entries → entry_held (get_or s.entries i no_entry) ≡ true
      → EntryFacts s.tables (get_or s.entries i no_entry)
  pub keys : (i j : ℕ) → i < j → j < length s.entries → same_key (get_or s.entries i no_entry) (get_or s.entries j no_entry) ≡ false
  pub counts : s.counts ≡ counts_of s.entries

-- ---- a table

pub table-facts : (t : Table) → sound_table t ≡ true → table_held t ≡ true → TableFacts t
unfolding sound_table name_length_ok name_plain key_type_ok table_key_length_ok table_types_ok data_types_ok timed_ok
table-facts t h q =
    let r0 = unless-elim (table_held t) (all_of (table_tests t)) (and_second (leb t.held 1) (not (table_held t) || all_of (table_tests t)) h) q in
    let r1 = all_rest (name_length_ok t) (name_plain t ∷ key_type_ok t ∷ table_key_length_ok t ∷ table_types_ok t ∷ timed_ok t ∷ []) r0 in
    let r2 = all_rest (name_plain t) (key_type_ok t ∷ table_key_length_ok t ∷ table_types_ok t ∷ timed_ok t ∷ []) r1 in
    let r3 = all_rest (key_type_ok t) (table_key_length_ok t ∷ table_types_ok t ∷ timed_ok t ∷ []) r2 in
    let r4 = all_rest (table_key_length_ok t) (table_types_ok t ∷ timed_ok t ∷ []) r3 in
    let r5 = all_rest (table_types_ok t) (timed_ok t ∷ []) r4 in
    let n = all_first (name_length_ok t) (name_plain t ∷ key_type_ok t ∷ table_key_length_ok t ∷ table_types_ok t ∷ timed_ok t ∷ []) r0 in
    record {
      name_least = leb-true 1 t.name_len (and_first (leb 1 t.name_len) (leb t.name_len 32) n);
      name_most = leb-true t.name_len 32 (and_second (leb 1 t.name_len) (leb t.name_len 32) n);
      plain = all_first (name_plain t) (key_type_ok t ∷ table_key_length_ok t ∷ table_types_ok t ∷ timed_ok t ∷ []) r1;
      known = all_first (key_type_ok t) (table_key_length_ok t ∷ table_types_ok t ∷ timed_ok t ∷ []) r2;
      key_length = all_first (table_key_length_ok t) (table_types_ok t ∷ timed_ok t ∷ []) r3;
      data_types = ltb-true t.data_types (2 ^ 19) (all_first (table_types_ok t) (timed_ok t ∷ []) r4);
      timed = leb-true t.timed 1 (all_first (timed_ok t) [] r5);
    }

pub facts-table : (t : Table) → t.held ≤ 1 → (table_held t ≡ true → TableFacts t) → sound_table t ≡ true
unfolding sound_table name_length_ok name_plain key_type_ok table_key_length_ok table_types_ok data_types_ok timed_ok
facts-table t m f =
    and_intro (leb t.held 1) (not (table_held t) || all_of (table_tests t)) (le-leb t.held 1 m)
    (unless-intro (table_held t) (all_of (table_tests t))
    (λ q.
    let r = f q in
    all-intro (name_length_ok t) (name_plain t ∷ key_type_ok t ∷ table_key_length_ok t ∷ table_types_ok t ∷ timed_ok t ∷ [])
    (and_intro (leb 1 t.name_len) (leb t.name_len 32) (le-leb 1 t.name_len r.name_least) (le-leb t.name_len 32 r.name_most))
    (all-intro (name_plain t) (key_type_ok t ∷ table_key_length_ok t ∷ table_types_ok t ∷ timed_ok t ∷ []) r.plain
    (all-intro (key_type_ok t) (table_key_length_ok t ∷ table_types_ok t ∷ timed_ok t ∷ []) r.known
    (all-intro (table_key_length_ok t) (table_types_ok t ∷ timed_ok t ∷ []) r.key_length
    (all-intro (table_types_ok t) (timed_ok t ∷ []) (lt-ltb t.data_types (2 ^ 19) r.data_types)
    (all-intro (timed_ok t) [] (le-leb t.timed 1 r.timed) all_none)))))))

-- ---- an entry

module _ (tables : List Table) (e : Entry) where
  abbrev owner : Table
  owner = get_or tables e.table no_table

  pub entry-facts : sound_entry tables e ≡ true → entry_held e ≡ true → EntryFacts tables e
  unfolding sound_entry entry_table_ok entry_timed_ok
  entry-facts h q =
      let r0 = unless-elim (entry_held e) (all_of (entry_tests tables e)) (and_second (leb e.held 1) (not (entry_held e) || all_of (entry_tests tables e)) h) q in
      let r1 = all_rest (entry_table_ok tables e) (entry_timed_ok e ∷ entry_key_length_ok owner e ∷ key_rest_zero e ∷ values_ok owner e ∷ []) r0 in
      let r2 = all_rest (entry_timed_ok e) (entry_key_length_ok owner e ∷ key_rest_zero e ∷ values_ok owner e ∷ []) r1 in
      let r3 = all_rest (entry_key_length_ok owner e) (key_rest_zero e ∷ values_ok owner e ∷ []) r2 in
      let r4 = all_rest (key_rest_zero e) (values_ok owner e ∷ []) r3 in
      let p = all_first (entry_table_ok tables e) (entry_timed_ok e ∷ entry_key_length_ok owner e ∷ key_rest_zero e ∷ values_ok owner e ∷ []) r0 in
      record {
        place = ltb-true e.table 8 (and_first (ltb e.table 8) (table_held owner) p);
        table_held = and_second (ltb e.table 8) (table_held owner) p;
        timed = leb-true e.timed 1 (all_first (entry_timed_ok e) (entry_key_length_ok owner e ∷ key_rest_zero e ∷ values_ok owner e ∷ []) r1);
        key_length = all_first (entry_key_length_ok owner e) (key_rest_zero e ∷ values_ok owner e ∷ []) r2;
        key_rest = all_first (key_rest_zero e) (values_ok owner e ∷ []) r3;
        values = all_first (values_ok owner e) [] r4;
      }

  pub facts-entry : e.held ≤ 1 → (entry_held e ≡ true → EntryFacts tables e) → sound_entry tables e ≡ true
  unfolding sound_entry entry_table_ok entry_timed_ok
  facts-entry m f =
      and_intro (leb e.held 1) (not (entry_held e) || all_of (entry_tests tables e)) (le-leb e.held 1 m)
      (unless-intro (entry_held e) (all_of (entry_tests tables e))
      (λ q.
      let r = f q in
      all-intro (entry_table_ok tables e) (entry_timed_ok e ∷ entry_key_length_ok owner e ∷ key_rest_zero e ∷ values_ok owner e ∷ [])
      (and_intro (ltb e.table 8) (table_held owner) (lt-ltb e.table 8 r.place) r.table_held)
      (all-intro (entry_timed_ok e) (entry_key_length_ok owner e ∷ key_rest_zero e ∷ values_ok owner e ∷ []) (le-leb e.timed 1 r.timed)
      (all-intro (entry_key_length_ok owner e) (key_rest_zero e ∷ values_ok owner e ∷ []) r.key_length
      (all-intro (key_rest_zero e) (values_ok owner e ∷ []) r.key_rest (all-intro (values_ok owner e) [] r.values all_none))))))

-- ---- a store

table-flag : (t : Table) → sound_table t ≡ true → t.held ≤ 1
unfolding sound_table
table-flag t h = leb-true t.held 1 (and_first (leb t.held 1) (not (table_held t) || all_of (table_tests t)) h)

entry-flag : (tables : List Table) (e : Entry) → sound_entry tables e ≡ true → e.held ≤ 1
unfolding sound_entry
entry-flag tables e h = leb-true e.held 1 (and_first (leb e.held 1) (not (entry_held e) || all_of (entry_tests tables e)) h)

module _ (s : Store) where
  abbrev tables-ok : Bool
  tables-ok = every sound_table s.tables

  abbrev names-ok : Bool
  names-ok = distinct same_name s.tables

  abbrev entries-ok : Bool
  entries-ok = every (sound_entry s.tables) s.entries

  abbrev keys-ok : Bool
  keys-ok = distinct same_key s.entries

  abbrev counts-ok : Bool
  counts-ok = counts_right s

  pub sound-facts : sound_store s ≡ true → SoundStore s
  unfolding sound_store
  sound-facts h =
      let r1 = all_rest tables-ok (names-ok ∷ entries-ok ∷ keys-ok ∷ counts-ok ∷ []) h in
      let r2 = all_rest names-ok (entries-ok ∷ keys-ok ∷ counts-ok ∷ []) r1 in
      let ts = all_first tables-ok (names-ok ∷ entries-ok ∷ keys-ok ∷ counts-ok ∷ []) h in
      let ns = all_first names-ok (entries-ok ∷ keys-ok ∷ counts-ok ∷ []) r1 in
      let es = all_first entries-ok (keys-ok ∷ counts-ok ∷ []) r2 in
      let r3 = all_rest entries-ok (keys-ok ∷ counts-ok ∷ []) r2 in
      let ks = all_first keys-ok (counts-ok ∷ []) r3 in
      let cs = all_first counts-ok [] (all_rest keys-ok (counts-ok ∷ []) r3) in
      record {
        table_flag = λ i l. table-flag (get_or s.tables i no_table) (every-at sound_table s.tables no_table i ts l);
        table = λ i l. table-facts (get_or s.tables i no_table) (every-at sound_table s.tables no_table i ts l);
        names = λ i j l m. distinct-at same_name s.tables no_table i j ns l m;
        entry_flag = λ i l. entry-flag s.tables (get_or s.entries i no_entry) (every-at (sound_entry s.tables) s.entries no_entry i es l);
        entry = λ i l. entry-facts s.tables (get_or s.entries i no_entry) (every-at (sound_entry s.tables) s.entries no_entry i es l);
        keys = λ i j l m. distinct-at same_key s.entries no_entry i j ks l m;
        counts = right-counts s cs;
      }

  pub facts-sound : SoundStore s → sound_store s ≡ true
  unfolding sound_store
  facts-sound r =
      all-intro tables-ok (names-ok ∷ entries-ok ∷ keys-ok ∷ counts-ok ∷ [])
      (every-from sound_table s.tables no_table (λ i l. facts-table (get_or s.tables i no_table) (r.table_flag i l) (r.table i l)))
      (all-intro names-ok (entries-ok ∷ keys-ok ∷ counts-ok ∷ []) (distinct_from same_name s.tables no_table (λ i j l m. r.names i j l m))
      (all-intro entries-ok (keys-ok ∷ counts-ok ∷ [])
      (every-from (sound_entry s.tables) s.entries no_entry
      (λ i l. facts-entry s.tables (get_or s.entries i no_entry) (r.entry_flag i l) (r.entry i l)))
      (all-intro keys-ok (counts-ok ∷ []) (distinct_from same_key s.entries no_entry (λ i j l m. r.keys i j l m))
      (all-intro counts-ok [] (counts-right s r.counts) all_none))))

-- ---- names and keys as facts

pub record Named (name : List ℕ) (t : Table) : Type 0 where
  pub held : table_held t ≡ true
  pub size : t.name_len ≡ length name
  pub bytes : name_of t ≡ name

pub record Keyed (table : ℕ) (key : List ℕ) (e : Entry) : Type 0 where
  pub held : entry_held e ≡ true
  pub owner : e.table ≡ table
  pub size : e.key_len ≡ length key
  pub bytes : key_of e ≡ key

pub named-facts : (name : List ℕ) (t : Table) → table_named name t ≡ true → Named name t
unfolding table_named
named-facts name t h =
    let r = and_second (table_held t) (eqb t.name_len (length name) && eq_bytes (name_of t) name) h in
    record {
      held = and_first (table_held t) (eqb t.name_len (length name) && eq_bytes (name_of t) name) h;
      size = eqb-true t.name_len (length name) (and_first (eqb t.name_len (length name)) (eq_bytes (name_of t) name) r);
      bytes = eq-bytes (name_of t) name (and_second (eqb t.name_len (length name)) (eq_bytes (name_of t) name) r);
    }

pub facts-named : (name : List ℕ) (t : Table) → Named name t → table_named name t ≡ true
unfolding table_named
facts-named name t r =
    and_intro (table_held t) (eqb t.name_len (length name) && eq_bytes (name_of t) name) r.held
    (and_intro (eqb t.name_len (length name)) (eq_bytes (name_of t) name) (eq-eqb t.name_len (length name) r.size) (bytes_eq (name_of t) name r.bytes))

pub keyed-facts : (table : ℕ) (key : List ℕ) (e : Entry) → entry_keyed table key e ≡ true → Keyed table key e
unfolding entry_keyed entry_of
keyed-facts table key e h =
    let o = and_first (entry_held e && (eqb e.table table && eqb e.key_len (length key))) (eq_bytes (key_of e) key) h in
    let r = and_second (entry_held e) (eqb e.table table && eqb e.key_len (length key)) o in
    record {
      held = and_first (entry_held e) (eqb e.table table && eqb e.key_len (length key)) o;
      owner = eqb-true e.table table (and_first (eqb e.table table) (eqb e.key_len (length key)) r);
      size = eqb-true e.key_len (length key) (and_second (eqb e.table table) (eqb e.key_len (length key)) r);
      bytes = eq-bytes (key_of e) key (and_second (entry_held e && (eqb e.table table && eqb e.key_len (length key))) (eq_bytes (key_of e) key) h);
    }

pub facts-keyed : (table : ℕ) (key : List ℕ) (e : Entry) → Keyed table key e → entry_keyed table key e ≡ true
unfolding entry_keyed entry_of
facts-keyed table key e r =
    and_intro (entry_held e && (eqb e.table table && eqb e.key_len (length key))) (eq_bytes (key_of e) key)
    (and_intro (entry_held e) (eqb e.table table && eqb e.key_len (length key)) r.held
    (and_intro (eqb e.table table) (eqb e.key_len (length key)) (eq-eqb e.table table r.owner) (eq-eqb e.key_len (length key) r.size)))
    (bytes_eq (key_of e) key r.bytes)

-- ---- lengths of names and keys

pub name-size : (t : Table) → TableFacts t → TableShape t → length (name_of t) ≡ t.name_len
unfolding name_of
name-size t f h = length-take-le t.name_len t.name (omega (arith, f.name_most, h.name.size))

key-within : (t : Table) (e : Entry) → entry_key_length_ok t e ≡ true → e.key_len ≤ t.key_len
unfolding entry_key_length_ok
key-within t e h =
    let b = is_string (key_kind t.key_type) in
    let x = leb e.key_len t.key_len in
    let y = eqb e.key_len t.key_len in
    by-test b
    (λ q. leb-true e.key_len t.key_len (sym (cond-true b x y q) ∙ h))
    (λ q. omega (arith, eqb-true e.key_len t.key_len (sym (cond-false b x y q) ∙ h)))

pub key-most : (t : Table) (e : Entry) → TableFacts t → entry_key_length_ok t e ≡ true → e.key_len ≤ 64
key-most t e f h = omega (arith, key-within t e h, key-length-most t.key_type t.key_len f.key_length)

pub key-size : (t : Table) (e : Entry) → TableFacts t → entry_key_length_ok t e ≡ true → EntryShape e → length (key_of e) ≡ e.key_len
unfolding key_of
key-size t e f h z = length-take-le e.key_len e.key (omega (arith, key-most t e f h, z.key.size))
