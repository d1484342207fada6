use Rattle.dump.proofs.bound.BoundWords.{Bound}
use Rattle.dump.proofs.bound.bindings_lines.Given as goal

abbrev pub invariant-loop-place : goal.invariant-loop-place
invariant-loop-place l = Bound l.fn.bindings l.initial.w l.w l.place
