use Rattle.handshake.proofs.sender.Numbers.{Summing}
use Rattle.handshake.proofs.sender.read_digits.Given as goal

abbrev pub invariant-loop-d : goal.invariant-loop-d
invariant-loop-d l = Summing l.s l.n l.d-index
