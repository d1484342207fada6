use native.Mathlib.Omega.{arith}
use mathlib.Core.Path.{◌∙◌}
use Rattle.body.proofs.Filling.{turn}
use Rattle.body.proofs.update_data.read_values.Goals as goal

pub loop-slot-preserved : goal.loop-slot-preserved
loop-slot-preserved c =
    let (filled, same) = c.loop-slot.invariant in
    let (read, stays) = c.in_ok-place.ensures in
    (turn filled _ (omega arith) c.slot_type.ensures _ _ (rw same at read), stays ∙ same)
