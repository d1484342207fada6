use Rattle.std.proofs.Common.{rules}
use Rattle.wire.proofs.Writing.{writes-joined}
use Rattle.body.specs.Encodings.{update_bytes}
use Rattle.body.proofs.writing.WritingLaws.{written}
use Rattle.body.proofs.writing.put_update.Goals as goal

pub returns : goal.returns
unfolding update_bytes
returns c =
    let all = writes-joined c.put_number_if.ensures (writes-joined c.put_number_if-2.ensures c.put_entry.ensures) in
    written all (search (rules, all.same))
