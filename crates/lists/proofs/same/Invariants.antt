use Rattle.std.proofs.Common.{◌≡◌, drop}
use Rattle.lists.specs.Lists.{eq_bytes}
use Rattle.lists.proofs.same.Given as goal

abbrev pub invariant-loop-i : goal.invariant-loop-i
invariant-loop-i l = eq_bytes l.a l.b ≡ eq_bytes (drop l.i l.a) (drop l.i l.b)
