use Rattle.std.proofs.Common.{arith, rules, ◌≡◌, ◌∙◌, sym, length}
use Rattle.store.specs.Limits.{slot_types}
use Rattle.store.proofs.Rules.{slot-count}
use Rattle.dump.proofs.PresentValues.{along-start, along-turn, along-end}
use Rattle.dump.proofs.entry.put_slots.Goals as goal

pub loop-i-init : goal.loop-i-init
loop-i-init c = along-start c.args.types slot_types c.args.values _

pub loop-i-preserved : goal.loop-i-preserved
loop-i-preserved c =
    let l : length c.args.values ≡ 34 = search rules in
    along-turn c.args.types slot_types c.args.values c.loop-i.i (slot-count ∙ sym l) c.loop-i.invariant c.slot_type.result (omega (arith, c.loop-i-test.true)) c.slot_type.ensures
    c.put_present.ensures

pub returns : goal.returns
returns c =
    let l : length c.args.values ≡ 34 = search rules in
    along-end c.args.types slot_types c.args.values c.loop-i.i (slot-count ∙ sym l) c.loop-i.invariant (omega arith)
