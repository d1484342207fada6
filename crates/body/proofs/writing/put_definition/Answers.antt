use Rattle.std.proofs.Common.{rules}
use Rattle.wire.proofs.Writing.{writes-joined, writes-as}
use Rattle.body.proofs.DefinitionBack.{definition-parts}
use Rattle.body.proofs.writing.WritingLaws.{written}
use Rattle.body.proofs.writing.put_definition.Goals as goal

pub returns : goal.returns
returns c =
    let all = writes-joined c.put_named.ensures (writes-joined c.put_shape.ensures c.put_times.ensures) in
    written (writes-as (definition-parts _ _) all) (search (rules, all.same))
