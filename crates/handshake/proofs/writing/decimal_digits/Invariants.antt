use Rattle.handshake.proofs.writing.DigitArray.{Filling}
use Rattle.handshake.proofs.writing.decimal_digits.Given as goal

abbrev pub invariant-loop-y : goal.invariant-loop-y
invariant-loop-y l = Filling l.n l.bytes l.i l.y

abbrev pub decreases-loop-y : goal.decreases-loop-y
decreases-loop-y l = l.y
