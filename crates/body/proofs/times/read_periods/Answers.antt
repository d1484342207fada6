use native.Mathlib.Omega.{arith}
use mathlib.Core.Path.{◌∙◌}
use Rattle.body.proofs.Filling.{turn}
use Rattle.body.proofs.times.read_periods.Goals as goal

pub loop-i-preserved : goal.loop-i-preserved
loop-i-preserved c =
    let (filled, same) = c.loop-i.invariant in
    let (read, stays) = c.in_ok-place.ensures in
    (turn filled _ (omega arith) c.rate_type.ensures _ _ (rw same at read), stays ∙ same)
