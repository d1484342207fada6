use Rattle.handshake.proofs.writing.Putting.{line_written}
use Rattle.handshake.proofs.writing.put_line.Goals as goal

pub returns : goal.returns
returns c = line_written c.put.ensures c.put-2.ensures
