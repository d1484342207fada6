use Rattle.store.specs.Limits.{rate_types}
use Rattle.dump.proofs.PresentValues.{Along}
use Rattle.dump.proofs.table.put_periods.Given as goal

abbrev pub invariant-loop-i : goal.invariant-loop-i
invariant-loop-i l = Along l.types rate_types l.fn.t.periods l.initial.w l.w l.i
