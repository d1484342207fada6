-- What the types of the code say of a table, an entry and a store.
use Rattle.std.proofs.Common.{◌≡◌, ℕ, ◌<◌, List, length, get_or, w8, w32, w64, Fits, SFits, rules}
use mir.Val.{Val}
use denote.Laws.{Is}
use denote.Array.{Array}
use denote.Struct.Declared.{row}
use Rattle.lists.proofs.Maps.{length-mapped}
use Rattle.lists.proofs.Elements.{each-element}
use Rattle.store.specs.declared.Table.{Table}
use Rattle.store.specs.declared.Entry.{Entry}
use Rattle.store.specs.declared.Store.{Store}
use Rattle.store.specs.Store.{no_table, no_entry}
use Rattle.store.specs.Shape.{TableShape, EntryShape, StoreShape}
use Rattle.store.specs.contracts.Table as table-type
use Rattle.store.specs.contracts.Entry as entry-type
use Rattle.store.specs.contracts.Store as store-type

pub table-shape : (t : Table) (vs : List Val) → Is (row table-type.the_type) t vs → TableShape t
table-shape t vs p =
    record {
      held = search rules;
      key_type = search rules;
      timed = search rules;
      data_types = search rules;
      name_length = search rules;
      key_length = search rules;
      expiry = search rules;
      periods = record { size = search rules; small = λ i. let f : Fits w32 (get_or t.periods i 0) = search rules in f.fits };
      name = record { size = search rules; small = λ i. let f : Fits w8 (get_or t.name i 0) = search rules in f.fits };
    }

pub entry-shape : (e : Entry) (vs : List Val) → Is (row entry-type.the_type) e vs → EntryShape e
entry-shape e vs p =
    record {
      held = search rules;
      server = let f : SFits w32 e.server_id = search rules in f.sfits;
      timed = search rules;
      remaining = search rules;
      table = search rules;
      key_length = search rules;
      key = record { size = search rules; small = λ i. let f : Fits w8 (get_or e.key i 0) = search rules in f.fits };
      values = record { size = search rules; small = λ i. let f : Fits w64 (get_or e.values i 0) = search rules in f.fits };
    }

-- arrays of tables and of entries
pub tables-shape : (ts : List Table) (vs : List Val) → Is (Array (row table-type.the_type) 8) ts vs
    → (length ts ≡ 8) × ((i : ℕ) → i < 8 → TableShape (get_or ts i no_table))
tables-shape ts vs p = (p.1.0.1, each-element (row table-type.the_type) TableShape table-shape 8 ts vs p no_table)

pub entries-shape : (es : List Entry) (vs : List Val) → Is (Array (row entry-type.the_type) 128) es vs
    → (length es ≡ 128) × ((i : ℕ) → i < 128 → EntryShape (get_or es i no_entry))
entries-shape es vs p = (p.1.0.1, each-element (row entry-type.the_type) EntryShape entry-shape 128 es vs p no_entry)

pub store-shape : (s : Store) (vs : List Val) → Is (row store-type.the_type) s vs → StoreShape s
store-shape s vs p =
    record {
      tables = search (rules, length-mapped);
      counts = record { size = search rules; small = λ i. let f : Fits w32 (get_or s.counts i 0) = search rules in f.fits };
      entries = search (rules, length-mapped);
      table =
          each-element (row table-type.the_type) TableShape table-shape 8 s.tables _ p.1.1.0 no_table;
      entry =
          each-element (row entry-type.the_type) EntryShape entry-shape 128 s.entries _ p.1.1.1.1.0 no_entry;
    }
