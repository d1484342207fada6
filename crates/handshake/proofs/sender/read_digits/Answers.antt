use Rattle.handshake.proofs.sender.Numbers.{sum-turn}
use Rattle.handshake.proofs.sender.read_digits.Goals as goal

pub loop-d-preserved : goal.loop-d-preserved
loop-d-preserved c = sum-turn c.loop-d.invariant c.loop-d-test.true c.from.ensures
