use Rattle.wire.proofs.Writing.{writes-joined}
use Rattle.dump.specs.RecordLines.{sending_lines}
use Rattle.dump.proofs.sending.sending_lines.Goals as goal

pub returns : goal.returns
unfolding sending_lines
returns c = writes-joined c.defined_line.ensures c.sent_line.ensures
