use Rattle.wire.proofs.Reading.{Reading}
use Rattle.wire.proofs.read_int.Given as goal

abbrev pub invariant-loop-n : goal.invariant-loop-n
invariant-loop-n l = Reading l.s l.at l.i l.value l.weight l.n
