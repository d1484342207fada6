use Rattle.std.proofs.Common.{rules, ◌≡◌, length}
use Rattle.store_scan.proofs.Filling.{fill_start, fill_held, fill_free, fill_end}
use Rattle.store_scan.proofs.codes_of.Goals as goal
use Rattle.store_scan.proofs.codes_of.Goals.{then-held-ne0, else-held-ne0}

pub loop-i-init : goal.loop-i-init
loop-i-init c = fill_start c.args.tables c.args.store.now.entries

pub loop-i-preserved : goal.loop-i-preserved
loop-i-preserved c =
    let n : length c.args.store.now.entries ≡ 128 = search rules in
    elim c.if-held-ne0.branch [
      | then-held-ne0 w ↦ rw (w.codes-is, w.found-is) (fill_held _ _ c.loop-i.invariant n c.loop-i-test.true _ _ _ w.count_entry-counted.ensures w.entry_code.ensures)
      | else-held-ne0 w ↦ rw (w.codes-is, w.found-is) (fill_free _ _ c.loop-i.invariant n c.loop-i-test.true _ w.if-held-ne0.false)
    ]

pub returns : goal.returns
returns c = fill_end _ _ _ _ _ c.loop-i.invariant c.loop-i-test.false _ c.counted_codes.ensures
