use Rattle.wire.proofs.Write.{Written}
use Rattle.wire.proofs.write_int.Given as goal

abbrev pub invariant-loop-y : goal.invariant-loop-y
invariant-loop-y l = Written l.v l.out l.y

abbrev pub decreases-loop-y : goal.decreases-loop-y
decreases-loop-y l = l.y
