use Rattle.std.proofs.Common.{rules, ◌≡◌, length}
use Rattle.passing.proofs.Turning.{turn_start, turn_held, turn_free, turn_end}
use Rattle.passing.proofs.pass_entries.Goals as goal
use Rattle.passing.proofs.pass_entries.Goals.{then-held-ne0, else-held-ne0}

pub loop-i-init : goal.loop-i-init
loop-i-init c = turn_start c.args.milliseconds c.args.store.now

pub loop-i-preserved : goal.loop-i-preserved
loop-i-preserved c =
    let n : length c.loop-i.store.entries ≡ 128 = search rules in
    elim c.if-held-ne0.branch [
      | then-held-ne0 w ↦ rw (w.store-is, w.counts-is) (turn_held _ _ c.loop-i.invariant n c.loop-i-test.true _ _ _ w.pass_entry-left.ensures w.count_entry-counted.ensures)
      | else-held-ne0 w ↦ rw (w.store-is, w.counts-is) (turn_free _ _ c.loop-i.invariant n c.loop-i-test.true _ w.if-held-ne0.false)
    ]

pub returns : goal.returns
returns c = turn_end _ _ c.loop-i.invariant c.loop-i-test.false
