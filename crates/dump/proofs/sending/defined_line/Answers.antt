use Rattle.dump.specs.RecordLines.{defined_line}
use Rattle.dump.proofs.sending.SendingWords.{place-line}
use Rattle.dump.proofs.sending.defined_line.Goals as goal

pub returns : goal.returns
unfolding defined_line
returns c = place-line _ c.args.x.defined (rw c.place_before.ensures at c.number_line.ensures)
