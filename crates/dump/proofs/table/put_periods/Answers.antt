use Rattle.std.proofs.Common.{arith, rules, ◌≡◌, ◌∙◌, sym, length}
use Rattle.store.specs.Limits.{rate_types}
use Rattle.store.proofs.Rules.{rate-count}
use Rattle.dump.specs.StoreLines.{periods_of}
use Rattle.dump.proofs.PresentValues.{along-start, along-turn, along-end}
use Rattle.dump.proofs.table.put_periods.Goals as goal

pub loop-i-init : goal.loop-i-init
loop-i-init c = along-start c.args.t.data_types rate_types c.args.t.periods _

pub loop-i-preserved : goal.loop-i-preserved
loop-i-preserved c =
    let l : length c.args.t.periods ≡ 8 = search rules in
    along-turn c.args.t.data_types rate_types c.args.t.periods c.loop-i.i (rate-count ∙ sym l) c.loop-i.invariant c.rate_type.result (omega (arith, c.loop-i-test.true)) c.rate_type.ensures
    (rw c.from.ensures at c.put_present.ensures)

pub returns : goal.returns
unfolding periods_of
returns c =
    let l : length c.args.t.periods ≡ 8 = search rules in
    along-end c.args.t.data_types rate_types c.args.t.periods c.loop-i.i (rate-count ∙ sym l) c.loop-i.invariant (omega arith)
