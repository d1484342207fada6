use Rattle.std.proofs.Common.{◌∙◌}
use borrow.Author.Tests.{le-ltb}
use Rattle.store.proofs.Rules.{powers, power_pos, present-at, present-past}
use Rattle.store.proofs.types.present.Goals as goal

pub nonzero_div-result : goal.nonzero_div-result
unfolding powers
nonzero_div-result c = power_pos c.args.t c.if-t-lt32.true

pub returns-then-t-lt32 : goal.returns-then-t-lt32
unfolding powers
returns-then-t-lt32 c = present-at c.args.types c.args.t c.if-t-lt32.true

pub returns-else-t-lt32 : goal.returns-else-t-lt32
returns-else-t-lt32 c = le-ltb c.args.t 32 c.if-t-lt32.false ∙ present-past c.args.types c.args.t c.ranges.types.fits c.if-t-lt32.false
