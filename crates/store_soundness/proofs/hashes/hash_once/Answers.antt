use Rattle.store_soundness.proofs.hashes.Hashing.{free_apart, held_apart}
use Rattle.store_soundness.proofs.hashes.hash_once.Goals as goal

pub returns-then-hash-ge-HASH_END : goal.returns-then-hash-ge-HASH_END
returns-then-hash-ge-HASH_END c = free_apart _ _ c.if-hash-ge-HASH_END.true

pub returns-else-hash-ge-HASH_END : goal.returns-else-hash-ge-HASH_END
returns-else-hash-ge-HASH_END c = held_apart _ _ _ c.if-hash-ge-HASH_END.false c.hash_apart.ensures
