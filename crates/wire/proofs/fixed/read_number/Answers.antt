use Rattle.wire.proofs.Numbers.{four}
use Rattle.wire.proofs.fixed.read_number.Goals as goal

pub returns : goal.returns
returns c =
    let part = c.in_ok-get.ensures.lookup.0 in
    let chunk = c.in_ok-bytes.ensures.cases in
    four c.args.s.now c.in_ok-get.field-0.now c.in_ok-bytes.bytes.now c.args.at _ part.0 part.2 chunk.enough chunk.same c.from_be_bytes.ensures
