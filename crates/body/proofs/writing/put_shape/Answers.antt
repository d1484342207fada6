use Rattle.wire.proofs.Writing.{writes-joined}
use Rattle.body.proofs.writing.put_shape.Goals as goal

pub returns : goal.returns
returns c = writes-joined c.int.ensures (writes-joined c.int-2.ensures c.int-3.ensures)
