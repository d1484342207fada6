use Rattle.wire.proofs.Writing.{writes-joined}
use Rattle.body.proofs.writing.put_counted.Goals as goal

pub returns : goal.returns
returns c = writes-joined c.int.ensures c.put.ensures
