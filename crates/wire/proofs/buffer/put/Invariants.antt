use Rattle.std.proofs.Common.{take}
use Rattle.wire.specs.Room.{Wrote}
use Rattle.wire.proofs.buffer.put.Given as goal

abbrev pub invariant-loop-b : goal.invariant-loop-b
invariant-loop-b l = Wrote l.initial.room l.at (take l.b-index l.bytes) l.room l.next
