use Rattle.std.proofs.Common.{◌≡◌, take}
use Rattle.lists.specs.Lists.{every}
use Rattle.store_soundness.specs.Narrow.{is_narrow}
use Rattle.store_soundness.proofs.entry.all_narrow.Given as goal

abbrev pub invariant-loop-v : goal.invariant-loop-v
invariant-loop-v l = l.narrow ≡ every is_narrow (take l.v-index l.v-items)
