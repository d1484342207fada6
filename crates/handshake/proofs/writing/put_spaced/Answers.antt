use Rattle.std.proofs.Common.{ap, ◌∙◌}
use Rattle.handshake.specs.Bytes.{decimal}
use Rattle.handshake.proofs.writing.Putting.{spaced_written}
use Rattle.handshake.proofs.writing.put_spaced.Goals as goal

pub returns : goal.returns
returns c = spaced_written _ (c.as_slice.ensures.value ∙ c.decimal_digits.ensures ∙ ap decimal c.from.ensures) c.put.ensures c.put-2.ensures
