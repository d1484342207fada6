use Rattle.std.proofs.Common.{arith}
use Rattle.dump.proofs.bound.BoundWords.{bound-start, bound-turn}
use Rattle.dump.proofs.bound.bindings_lines.Goals as goal

pub loop-place-init : goal.loop-place-init
loop-place-init c = bound-start c.args.bindings _

pub loop-place-preserved : goal.loop-place-preserved
loop-place-preserved c = bound-turn c.args.bindings c.loop-place.place c.loop-place.invariant _ (omega (arith, c.loop-place-test.true)) c.binding_lines.ensures
