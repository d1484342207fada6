use Rattle.std.proofs.Common.{rules}
use Rattle.wire.proofs.Reading.{goes_on}
use Rattle.wire.proofs.read_int.Goals as goal

pub loop-n-preserved : goal.loop-n-preserved
loop-n-preserved c = goes_on c.loop-n.invariant (search rules) (search rules) (search rules) (search rules) (search rules) c.doubled_seven_times-weight.ensures
