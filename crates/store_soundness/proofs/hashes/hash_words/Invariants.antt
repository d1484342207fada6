use Rattle.store_soundness.proofs.hashes.Hashing.{Words}
use Rattle.store_soundness.proofs.hashes.hash_words.Given as goal

abbrev pub invariant-loop-k : goal.invariant-loop-k
invariant-loop-k l = Words l.words l.start l.key l.hash l.k
