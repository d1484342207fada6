use Rattle.body.specs.Encodings.{value_bytes}
use Rattle.body.proofs.writing.WritingLaws.{put-there, put-none}
use Rattle.body.proofs.writing.put_value.Goals as goal

pub returns-then-present : goal.returns-then-present
unfolding value_bytes
returns-then-present c = put-there _ c.if-present.ensures c.int.ensures

pub returns-else-present : goal.returns-else-present
unfolding value_bytes
returns-else-present c = put-none _ c.if-present.ensures
