-- Lookup in a sound store, and that putting a table or an entry by the rules keeps a store sound and every other lookup.
use Rattle.std.proofs.Common.{◌≡◌, ℕ, ◌^◌, ◌<◌, ◌≤◌, true, false, eqb, List, length, get_or, set, replicate, ℤ, sym, ◌∙◌, subst, ⊎_elim, arith, lit<, length-set, eqb-true, None, Some}
use lib.ListN.{get_or-replicate, length-replicate, get_or-eq_default}
use lib.Signed.{mag}
use native.Mathlib.Nat.{pow-le-pow_right}
use Rattle.lists.specs.Lists.{pad_to}
use Rattle.lists.proofs.Cases.{by-test, and_intro, cond-true, cond-false, lt-or-le}
use Rattle.lists.proofs.Places.{First, first-at, first-nothing, first-only}
use Rattle.lists.proofs.Stores.{stored-each}
use Rattle.lists.proofs.Bytes.{pad-length, pad-at}
use Rattle.store.specs.declared.Table.{Table}
use Rattle.store.specs.declared.Entry.{Entry}
use Rattle.store.specs.declared.Store.{Store}
use Rattle.store.specs.declared.Definition.{Definition}
use Rattle.store.specs.Limits.{key_max, name_max}
use Rattle.store.specs.Store.{table_held, entry_held, table_free, entry_free, name_of, key_of, table_named, entry_keyed, find_table, find_entry, free_table, free_entry, time_left, make_entry, make_table, with_entries, put_table, put_entry, no_table, no_entry, empty_store}
use Rattle.store.specs.Shape.{Cells, TableShape, EntryShape, StoreShape}
use Rattle.store.specs.Sound.{same_name, same_key}
use Rattle.store.proofs.Counting.{counts-cells}
use Rattle.store.proofs.Facts.{SoundStore, named-facts, keyed-facts}

-- ---- what lookup and the search for a free place say

pub table-found : (s : Store) (name : List ℕ) (i : ℕ) → find_table s name ≡ Some i → First (table_named name) s.tables i
unfolding find_table
table-found s name i e = first-at (table_named name) s.tables i e

pub table-missing : (s : Store) (name : List ℕ) → find_table s name ≡ None → (j : ℕ) (d : Table) → j < length s.tables
    → table_named name (get_or s.tables j d) ≡ false
unfolding find_table
table-missing s name e = first-nothing (table_named name) s.tables e

pub entry_found : (s : Store) (table : ℕ) (key : List ℕ) (i : ℕ) → find_entry s table key ≡ Some i → First (entry_keyed table key) s.entries i
unfolding find_entry
entry_found s table key i e = first-at (entry_keyed table key) s.entries i e

pub entry-missing : (s : Store) (table : ℕ) (key : List ℕ) → find_entry s table key ≡ None → (j : ℕ) (d : Entry) → j < length s.entries
    → entry_keyed table key (get_or s.entries j d) ≡ false
unfolding find_entry
entry-missing s table key e = first-nothing (entry_keyed table key) s.entries e

-- the lowest free place is free, and no lower one is
pub table-place : (s : Store) (i : ℕ) → free_table s ≡ Some i → First table_free s.tables i
unfolding free_table
table-place s i e = first-at table_free s.tables i e

pub entry_place : (s : Store) (i : ℕ) → free_entry s ≡ Some i → First entry_free s.entries i
unfolding free_entry
entry_place s i e = first-at entry_free s.entries i e

pub free-not-held : (t : Table) → table_free t ≡ true → table_held t ≡ false
unfolding table_free table_held
free-not-held t h = rw (eqb-true t.held 0 h)

-- ---- two held places with one name or one key

equal-names : (name : List ℕ) (t u : Table) → table_named name t ≡ true → table_named name u ≡ true → same_name t u ≡ true
unfolding same_name
equal-names name t u h k =
    let p = named-facts name t h in
    and_intro (table_held t) (table_named (name_of t) u) p.held (subst (λ (n : List ℕ). table_named n u ≡ true) (sym p.bytes) k)

equal-keys : (table : ℕ) (key : List ℕ) (e f : Entry) → entry_keyed table key e ≡ true → entry_keyed table key f ≡ true → same_key e f ≡ true
unfolding same_key
equal-keys table key e f h k =
    let p = keyed-facts table key e h in
    and_intro (entry_held e) (entry_keyed e.table (key_of e) f) p.held
    (subst (λ (n : ℕ). entry_keyed n (key_of e) f ≡ true) (sym p.owner) (subst (λ (l : List ℕ). entry_keyed table l f ≡ true) (sym p.bytes) k))

-- lookup finds the only one
pub only-table : (s : Store) (name : List ℕ) (i : ℕ) → SoundStore s → find_table s name ≡ Some i → (j : ℕ) → j < length s.tables → (j ≡ i → ⊥)
    → table_named name (get_or s.tables j no_table) ≡ false
only-table s name i r e = first-only (table_named name) same_name s.tables no_table i (table-found s name i e) (equal-names name) r.names

pub only-entry : (s : Store) (table : ℕ) (key : List ℕ) (i : ℕ) → SoundStore s → find_entry s table key ≡ Some i → (j : ℕ) → j < length s.entries → (j ≡ i → ⊥)
    → entry_keyed table key (get_or s.entries j no_entry) ≡ false
only-entry s table key i r e = first-only (entry_keyed table key) same_key s.entries no_entry i (entry_found s table key i e) (equal-keys table key) r.keys

-- ---- the shape after a put

pub put-table-shape : (s : Store) (place : ℕ) (t : Table) → StoreShape s → TableShape t → StoreShape (put_table s place t)
unfolding put_table
put-table-shape s place t h q =
    let n = length-set s.tables place t ∙ h.tables in
    record {
      tables = n;
      counts = h.counts;
      entries = h.entries;
      table = λ i l. stored-each s.tables place t no_table TableShape q (λ k m. h.table k (omega (arith, h.tables))) i (omega (arith, n));
      entry = h.entry;
    }

pub put-entry-shape : (s : Store) (place : ℕ) (e : Entry) → StoreShape s → EntryShape e → StoreShape (put_entry s place e)
unfolding put_entry with_entries
put-entry-shape s place e h q =
    let n = length-set s.entries place e ∙ h.entries in
    record {
      tables = h.tables;
      counts = counts-cells (set s.entries place e) (omega (arith, n));
      entries = n;
      table = h.table;
      entry = λ i l. stored-each s.entries place e no_entry EntryShape q (λ k m. h.entry k (omega (arith, h.entries))) i (omega (arith, n));
    }

-- ---- the shape of what is made

zero-cells : (n bits : ℕ) → Cells n bits (replicate n 0)
zero-cells n bits =
    record {
      size = length-replicate n 0;
      small = λ i. ⊎_elim (λ l. small-zero (get_or-replicate n i 0 0 l)) (λ l. small-zero (get_or-eq_default (replicate n 0) 0 (omega (arith, length-replicate {A = ℕ} n 0)))) (lt-or-le i n);
    }
  where
    small-zero : {x : ℕ} → x ≡ 0 → x < 2 ^ bits
    small-zero {x} e = let z : 0 ≤ bits = omega arith in omega (arith, pow-le-pow_right {n = 2} (lit< tt) z)

-- bytes that are padded
pub pad-cells : (n : ℕ) (xs : List ℕ) → ((i : ℕ) → get_or xs i 0 < 2 ^ 8) → Cells n 8 (pad_to n xs)
pad-cells n xs f =
    record {
      size = pad-length n xs;
      small = λ i.
          ⊎_elim
          (λ l. omega (arith, pad-at n xs i 0 l, f i))
          (λ l. omega (arith, get_or-eq_default (pad_to n xs) 0 {n = i} (omega (arith, pad-length n xs))))
          (lt-or-le i n);
    }

time-fits : (timed remaining : ℕ) → remaining < 2 ^ 32 → time_left timed remaining < 2 ^ 32
unfolding time_left
time-fits timed remaining l =
    by-test (eqb timed 0)
    (λ h. subst (λ (n : ℕ). n < 2 ^ 32) (sym (cond-true (eqb timed 0) 0 remaining h)) (omega arith))
    (λ h. subst (λ (n : ℕ). n < 2 ^ 32) (sym (cond-false (eqb timed 0) 0 remaining h)) l)

pub made-entry-shape : (table : ℕ) (key : List ℕ) (server : ℤ) (timed remaining : ℕ) (values : List ℕ) → table < 2 ^ 64 → length key < 2 ^ 64
    → ((i : ℕ) → get_or key i 0 < 2 ^ 8) → mag server < 2 ^ 31 → timed < 2 ^ 32 → remaining < 2 ^ 32 → Cells 34 64 values
    → EntryShape (make_entry table key server timed remaining values)
unfolding make_entry
made-entry-shape table key server timed remaining values a b f m t l v =
    record {
      held = omega arith;
      server = m;
      timed = t;
      remaining = time-fits timed remaining l;
      table = a;
      key_length = b;
      key = pad-cells key_max key f;
      values = v;
    }

pub record DefinitionShape (d : Definition) : Type 0 where
  pub key_type : d.key_type < 2 ^ 32
  pub key_length : d.key_len < 2 ^ 32
  pub data_types : d.data_types < 2 ^ 32
  pub timed : d.timed < 2 ^ 32
  pub expiry : d.expiry < 2 ^ 32
  pub periods : Cells 8 32 d.periods

pub made-table-shape : (name : List ℕ) (d : Definition) → length name < 2 ^ 64 → ((i : ℕ) → get_or name i 0 < 2 ^ 8) → DefinitionShape d
    → TableShape (make_table name d)
unfolding make_table
made-table-shape name d b f h =
    record {
      held = omega arith;
      key_type = h.key_type;
      timed = h.timed;
      data_types = h.data_types;
      name_length = b;
      key_length = h.key_length;
      expiry = h.expiry;
      periods = h.periods;
      name = pad-cells name_max name f;
    }

table-zero : TableShape no_table
unfolding no_table
table-zero =
    record {
      held = omega arith;
      key_type = omega arith;
      timed = omega arith;
      data_types = omega arith;
      name_length = omega arith;
      key_length = omega arith;
      expiry = omega arith;
      periods = zero-cells 8 32;
      name = zero-cells name_max 8;
    }

pub entry_zero : EntryShape no_entry
unfolding no_entry
entry_zero =
    record {
      held = omega arith;
      server = lit< tt;
      timed = omega arith;
      remaining = omega arith;
      table = omega arith;
      key_length = omega arith;
      key = zero-cells key_max 8;
      values = zero-cells 34 64;
    }

pub empty-shape : StoreShape empty_store
unfolding empty_store
empty-shape =
    record {
      tables = length-replicate 8 no_table;
      counts = zero-cells 8 32;
      entries = length-replicate 128 no_entry;
      table = λ i l. rw (get_or-replicate 8 i no_table no_table l) table-zero;
      entry = λ i l. rw (get_or-replicate 128 i no_entry no_entry l) entry_zero;
    }
