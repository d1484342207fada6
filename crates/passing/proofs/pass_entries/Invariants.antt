use Rattle.passing.proofs.Turning.{Turned}
use Rattle.passing.proofs.pass_entries.Given as goal

abbrev pub invariant-loop-i : goal.invariant-loop-i
invariant-loop-i l = Turned l.milliseconds l.fn.store l.store l.counts l.i
