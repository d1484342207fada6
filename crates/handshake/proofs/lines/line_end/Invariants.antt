use Rattle.handshake.proofs.lines.LineLoop.{Walking}
use Rattle.handshake.proofs.lines.line_end.Given as goal

abbrev pub invariant-loop-i : goal.invariant-loop-i
invariant-loop-i l = Walking l.s l.at l.i
