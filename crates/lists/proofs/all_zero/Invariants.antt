use Rattle.std.proofs.Common.{◌≡◌, take}
use Rattle.lists.specs.Lists.{every, is_zero}
use Rattle.lists.proofs.all_zero.Given as goal

abbrev pub invariant-loop-b : goal.invariant-loop-b
invariant-loop-b l = l.zero ≡ every is_zero (take l.b-index l.bytes)
