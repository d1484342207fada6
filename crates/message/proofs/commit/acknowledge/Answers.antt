use Rattle.std.proofs.Common.{arith, ◌∙◌, length-append}
use Rattle.wire.proofs.Numbers.{number-length}
use Rattle.message.proofs.Acknowledging.{acknowledge-bytes, room-int}
use Rattle.message.proofs.commit.acknowledge.Goals as goal

pub returns : goal.returns
returns c =
    let r = c.copy_from_slice-reply.ensures.whole (omega arith) in
    let n = room-int c.args.id c.ranges.id.fits r (c.as_slice.ensures.value ∙ c.write_int-e.ensures) in
    let e = c.extend_from_slice.ensures.whole (omega (arith, n)) in
    c.extend_from_slice-2.ensures.whole (rw (e, length-append, c.write_number.ensures, number-length) (omega (arith, n)))
    ∙ rw (e, r, c.len.ensures.value, c.as_slice.ensures.value, c.write_number.ensures, c.write_int-e.ensures, acknowledge-bytes c.args.id c.args.update c.ranges.id.fits)
