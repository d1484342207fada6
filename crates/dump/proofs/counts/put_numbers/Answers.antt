use Rattle.std.proofs.Common.{arith}
use Rattle.text.proofs.LineWords.{no_words}
use Rattle.dump.proofs.counts.CountWords.{numbers-next}
use Rattle.dump.proofs.counts.put_numbers.Goals as goal

pub loop-n-init : goal.loop-n-init
loop-n-init c = no_words _

pub loop-n-preserved : goal.loop-n-preserved
loop-n-preserved c = numbers-next c.args.counts c.loop-n.n-index c.loop-n.invariant (omega (arith, c.loop-n-test.true)) (rw c.from.ensures at c.put_decimal_word.ensures)
