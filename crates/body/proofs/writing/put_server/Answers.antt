use Rattle.std.proofs.Common.{rules, ap}
use Rattle.wire.specs.Integer.{encode_int}
use Rattle.wire.proofs.Writing.{writes-as}
use Rattle.body.specs.Encodings.{server_bytes}
use Rattle.body.proofs.writing.WritingLaws.{put-there, put-none}
use Rattle.body.proofs.writing.put_server.Goals as goal

pub returns-then-present : goal.returns-then-present
unfolding server_bytes
returns-then-present c = put-there _ c.if-present.ensures (writes-as (ap encode_int (search rules)) c.int.ensures)

pub returns-else-present : goal.returns-else-present
unfolding server_bytes
returns-else-present c = put-none _ c.if-present.ensures
