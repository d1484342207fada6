use Rattle.store.specs.Limits.{slot_types}
use Rattle.dump.proofs.PresentValues.{Along}
use Rattle.dump.proofs.entry.put_slots.Given as goal

abbrev pub invariant-loop-i : goal.invariant-loop-i
invariant-loop-i l = Along l.types slot_types l.fn.values l.initial.w l.w l.i
