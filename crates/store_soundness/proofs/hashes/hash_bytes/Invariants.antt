use Rattle.store_soundness.proofs.hashes.Hashing.{Hashing}
use Rattle.store_soundness.proofs.hashes.hash_bytes.Given as goal

abbrev pub invariant-loop-b : goal.invariant-loop-b
invariant-loop-b l = Hashing l.start l.bytes l.hash l.b-index
