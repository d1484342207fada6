-- The reading call: the store as it is written is the one that `promised` speaks of.
use mathlib.Core.Path.{◌≡◌, ◌∙◌}
use Rattle.reading.proofs.finish.Finishing.{promised, with_counts, written, table-past, entry_past}
use Rattle.reading.proofs.read_lent.Goals as goal
use Rattle.reading.proofs.read_lent.Goals.{in-Nothing, in-Table+then-place-lt-TABLES, in-Table+else-place-lt-TABLES, in-Entry+then-place-lt-ENTRIES, in-Entry+else-place-lt-ENTRIES}

pub returns : goal.returns
returns c =
    let shape = c.store_shaped.ensures in
    let counts = c.finish_read-finished.result.counts in
    let stored : c.match-finished.store ≡ written (with_counts c.args.store.now counts) c.finish_read-finished.result.change =
    elim c.match-finished.branch [
      | in-Nothing w ↦ rw w.in-Nothing.is w.store-is
      | in-Table+then-place-lt-TABLES w ↦ rw w.in-Table.is w.store-is
      | in-Table+else-place-lt-TABLES w ↦ rw w.in-Table.is (w.store-is ∙ table-past c.args.store.now shape counts _ _ w.if-place-lt-TABLES.false)
      | in-Entry+then-place-lt-ENTRIES w ↦ rw w.in-Entry.is w.store-is
      | in-Entry+else-place-lt-ENTRIES w ↦ rw w.in-Entry.is (w.store-is ∙ entry_past c.args.store.now shape counts _ _ w.if-place-lt-ENTRIES.false)
    ] in
    promised _ _ _ c.start_read-started.result c.scan-scanned.result _ c.finish_read-finished.result _ _ stored shape c.start_read-started.ensures (rw c.sought-entry.ensures at c.scan-scanned.ensures) c.finish_read-finished.ensures
