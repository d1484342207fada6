use Rattle.std.proofs.Common.{arith}
use Rattle.session.proofs.bound_ids.BindingLoops.{rebind-next, rebind-end}
use Rattle.session.proofs.bound_ids.rebind_all.Goals as goal

pub loop-i-preserved : goal.loop-i-preserved
loop-i-preserved c = rebind-next c.loop-i.invariant _ (omega arith) c.rebind_one.ensures

pub returns : goal.returns
returns c = rebind-end c.loop-i.invariant (omega (arith, c.loop-i.invariant.long))
