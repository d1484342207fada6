use Rattle.session.proofs.bound_ids.BindingLoops.{Rebinding}
use Rattle.session.proofs.bound_ids.rebind_all.Given as goal

abbrev pub invariant-loop-i : goal.invariant-loop-i
invariant-loop-i l = Rebinding l.place l.id l.initial.b-items l.b-items l.i
