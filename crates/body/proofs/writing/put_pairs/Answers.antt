use Rattle.std.proofs.Common.{rules}
use native.Mathlib.Omega.{arith}
use Rattle.store.proofs.Rules.{rate-count}
use Rattle.body.proofs.writing.WritingLaws.{pairs_start, each_turn}
use Rattle.body.proofs.writing.put_pairs.Goals as goal

pub loop-i-init : goal.loop-i-init
loop-i-init c = pairs_start _ _ _ (search rules)

pub loop-i-preserved : goal.loop-i-preserved
loop-i-preserved c = each_turn c.loop-i.invariant c.rate_type.result (omega (arith, c.loop-i-test.true, rate-count)) c.rate_type.ensures c.put_pair.ensures
