use Rattle.std.proofs.Common.{◌≡◌, take}
use Rattle.lists.specs.Lists.{every}
use Rattle.store_soundness.specs.Hashes.{other_hash}
use Rattle.store_soundness.proofs.hashes.hash_apart.Given as goal

abbrev pub invariant-loop-other : goal.invariant-loop-other
invariant-loop-other l = l.apart ≡ every (other_hash l.hash) (take l.other-index l.hashes)
