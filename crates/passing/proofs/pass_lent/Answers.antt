use Rattle.passing.proofs.Promising.{stays-as, passes-to}
use Rattle.passing.proofs.pass_lent.Goals as goal

pub returns-then-not-store_ok : goal.returns-then-not-store_ok
returns-then-not-store_ok c = stays-as _ _ c.store_shaped.ensures c.ranges.milliseconds.fits _ c.store_ok.ensures c.if-not-store_ok.true

pub returns : goal.returns
returns c = passes-to _ _ c.store_shaped.ensures c.ranges.milliseconds.fits _ c.store_ok.ensures c.if-not-store_ok.false _ c.pass_entries.ensures
