-- What the code reads past the end of tables and entries, what the types say of their arrays, and keys by their bytes.
use Rattle.std.proofs.Common.{◌≡◌, ℕ, ◌<◌, true, false, ◌&&◌, eqb, List, [], length, get_or, take, pos, ap, ◌∙◌, arith, length-take, eqb-true}
use mir.Val.{Val}
use denote.Laws.{Is}
use denote.Array.{Array}
use denote.Struct.Declared.{row}
use Rattle.lists.specs.Lists.{eq_bytes}
use Rattle.lists.proofs.Cases.{and-true, and-false, and_second, and-false-second}
use Rattle.lists.proofs.Bytes.{bytes-longer}
use Rattle.lists.proofs.Every.{get_d_any}
use Rattle.store.specs.declared.Table.{Table}
use Rattle.store.specs.declared.Entry.{Entry}
use Rattle.store.specs.Store.{entry_held, entry_of, entry_keyed, key_of, no_table, no_entry}
use Rattle.store.specs.contracts.Table as table-type
use Rattle.store.specs.contracts.Entry as entry-type
use Rattle.store.proofs.Typed.{tables-shape, entries-shape}

-- what the code's reads give past the end of an array
abbrev pub blank_table : Table
blank_table = record {
  held = 0;
  key_type = 0;
  timed = 0;
  data_types = 0;
  name_len = 0;
  key_len = 0;
  expiry = 0;
  periods = [];
  name = [];
}

abbrev pub blank_entry : Entry
blank_entry = record { held = 0; server_id = pos 0; timed = 0; remaining = 0; table = 0; key_len = 0; key = []; values = [] }

-- ---- arrays

-- so many elements, each with an array of so many bytes
pub record Arrays {A : Type 0} (array : A → List ℕ) (blank : A) (many size : ℕ) (xs : List A) : Type 0 where
  pub count : length xs ≡ many
  pub long : (k : ℕ) → k < many → length (array (get_or xs k blank)) ≡ size

arrays-of : {A : Type 0} (array : A → List ℕ) (blank d : A) (many size : ℕ) (xs : List A) → length xs ≡ many
    → ((k : ℕ) → k < many → length (array (get_or xs k d)) ≡ size) → Arrays array blank many size xs
arrays-of {A} array blank d many size xs n f =
    record { count = n; long = λ k l. ap (λ (x : A). length (array x)) (get_d_any xs k blank d (omega arith)) ∙ f k l }

abbrev pub Names : List Table → Type 0
Names tables = Arrays (λ (t : Table). t.name) blank_table 8 32 tables

abbrev pub Keys : List Entry → Type 0
Keys entries = Arrays (λ (e : Entry). e.key) blank_entry 128 64 entries

-- what the types of the code say of tables and entries
pub array-names : (ts : List Table) (vs : List Val) → Is (Array (row table-type.the_type) 8) ts vs → Names ts
array-names ts vs p = let h = tables-shape ts vs p in arrays-of (λ (t : Table). t.name) blank_table no_table 8 32 ts h.0 (λ k l. (h.1 k l).name.size)

pub array-keys : (es : List Entry) (vs : List Val) → Is (Array (row entry-type.the_type) 128) es vs → Keys es
array-keys es vs p = let h = entries-shape es vs p in arrays-of (λ (e : Entry). e.key) blank_entry no_entry 128 64 es h.0 (λ k l. (h.1 k l).key.size)

-- ---- keys

-- an entry of the table with a key of n bytes: the key's bytes decide
module _ (e : Entry) (table : ℕ) (key : List ℕ) where
  pub not-of : entry_of table (length key) e ≡ false → entry_keyed table key e ≡ false
  unfolding entry_keyed
  not-of h = and-false (entry_of table (length key) e) (eq_bytes (key_of e) key) h

  of-key-length : (n : ℕ) → entry_of table n e ≡ true → e.key_len ≡ n
  unfolding entry_of
  of-key-length n h =
      eqb-true e.key_len n
      (and_second (eqb e.table table) (eqb e.key_len n)
      (and_second (entry_held e) (eqb e.table table && eqb e.key_len n) h))

  pub by_bytes : entry_of table (length key) e ≡ true → entry_keyed table key e ≡ eq_bytes (take (length key) e.key) key
  unfolding entry_keyed key_of
  by_bytes h =
      and-true (entry_of table (length key) e) (eq_bytes (key_of e) key) h
      ∙ ap (λ (n : ℕ). eq_bytes (take n e.key) key) (of-key-length (length key) h)

  -- a key longer than any is no entry's
  pub long-key : length e.key < length key → entry_keyed table key e ≡ false
  unfolding entry_keyed key_of
  long-key l =
      and-false-second (entry_of table (length key) e) (eq_bytes (key_of e) key)
      (bytes-longer (take e.key_len e.key) key (λ q. omega (arith, length-take e.key_len e.key)))
