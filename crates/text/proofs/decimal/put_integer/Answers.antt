use Rattle.std.proofs.Common.{rules}
use Rattle.text.proofs.decimal.DecimalText.{signed_low, signed_high}
use Rattle.text.proofs.decimal.put_integer.Goals.{then-n-lt0, else-n-lt0}
use Rattle.text.proofs.decimal.put_integer.Goals as goal

pub returns : goal.returns
returns c =
    elim c.if-n-lt0.branch [
      | then-n-lt0 w ↦ signed_low c.args.n (search rules) _ c.unsigned_abs.ensures.value w.if-n-lt0.true w.put.ensures (rw w.w-is at c.put_decimal.ensures)
      | else-n-lt0 w ↦ signed_high c.args.n (search rules) _ c.unsigned_abs.ensures.value w.if-n-lt0.false (rw w.w-is at c.put_decimal.ensures)
    ]
