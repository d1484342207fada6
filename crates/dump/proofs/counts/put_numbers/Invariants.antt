use Rattle.dump.proofs.counts.CountWords.{Numbers}
use Rattle.dump.proofs.counts.put_numbers.Given as goal

abbrev pub invariant-loop-n : goal.invariant-loop-n
invariant-loop-n l = Numbers l.fn.counts l.initial.w l.w l.n-index
