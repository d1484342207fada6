use Rattle.wire.proofs.buffer.Reach.{nothing, put_full, put-turn}
use Rattle.wire.proofs.buffer.put.Goals as goal

pub loop-b-init : goal.loop-b-init
loop-b-init c = nothing _ _

pub returns-then-room-next : goal.returns-then-room-next
returns-then-room-next c = put_full _ c.loop-b.b-index c.loop-b.invariant c.if-room-next.true

pub loop-b-preserved : goal.loop-b-preserved
loop-b-preserved c = put-turn _ c.loop-b.b-index c.loop-b.invariant c.loop-b-test.true c.if-room-next.false
