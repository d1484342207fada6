use Rattle.dump.specs.RecordLines.{current_line}
use Rattle.dump.proofs.sending.SendingWords.{place-line}
use Rattle.dump.proofs.record_lines.current_line.Goals as goal

pub returns : goal.returns
unfolding current_line
returns c = place-line _ c.args.c.current (rw c.place_before.ensures at c.number_line.ensures)
