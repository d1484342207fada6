use Rattle.std.proofs.Common.{◌≡◌, length}
use Rattle.lists.specs.Lists.{distinct}
use Rattle.lists.proofs.all_distinct.Given as goal

abbrev pub invariant-loop-x : goal.invariant-loop-x
invariant-loop-x g l = distinct g.A.Apart.alike l.fn.xs ≡ distinct g.A.Apart.alike l.rest

abbrev pub decreases-loop-x : goal.decreases-loop-x
decreases-loop-x g l = length l.rest
