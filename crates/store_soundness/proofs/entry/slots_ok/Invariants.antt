use Rattle.store_soundness.proofs.entry.EntryTests.{Slots}
use Rattle.store_soundness.proofs.entry.slots_ok.Given as goal

abbrev pub invariant-loop-i : goal.invariant-loop-i
invariant-loop-i l = Slots l.types l.values l.i
