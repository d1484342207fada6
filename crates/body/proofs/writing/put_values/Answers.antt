use Rattle.std.proofs.Common.{rules}
use native.Mathlib.Omega.{arith}
use Rattle.store.proofs.Rules.{slot-count}
use Rattle.body.proofs.writing.WritingLaws.{values-start, each_turn}
use Rattle.body.proofs.writing.put_values.Goals as goal

pub loop-slot-init : goal.loop-slot-init
loop-slot-init c = values-start _ _ _ (search rules)

pub loop-slot-preserved : goal.loop-slot-preserved
loop-slot-preserved c = each_turn c.loop-slot.invariant c.slot_type.result (omega (arith, c.loop-slot-test.true, slot-count)) c.slot_type.ensures c.put_value.ensures
