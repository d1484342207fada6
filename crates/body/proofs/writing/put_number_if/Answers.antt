use Rattle.body.specs.Encodings.{number_if}
use Rattle.body.proofs.writing.WritingLaws.{put-there, put-none}
use Rattle.std.proofs.Common.{sym}
use Rattle.body.proofs.writing.put_number_if.Goals as goal

pub returns-then-there : goal.returns-then-there
unfolding number_if
returns-then-there c = put-there _ (sym c.if-there.true) c.number.ensures

pub returns-else-there : goal.returns-else-there
unfolding number_if
returns-else-there c = put-none _ (sym c.if-there.false)
