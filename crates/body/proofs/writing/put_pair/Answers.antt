use Rattle.wire.proofs.Writing.{writes-joined}
use Rattle.body.specs.Encodings.{period_bytes}
use Rattle.body.proofs.writing.WritingLaws.{put-there, put-none}
use Rattle.body.proofs.writing.put_pair.Goals as goal

pub returns-then-present : goal.returns-then-present
unfolding period_bytes
returns-then-present c = put-there _ c.if-present.ensures (writes-joined c.int.ensures c.int-then-present.ensures)

pub returns-else-present : goal.returns-else-present
unfolding period_bytes
returns-else-present c = put-none _ c.if-present.ensures
