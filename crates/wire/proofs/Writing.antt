-- Bytes written through a `Writer`: nothing, two one after the other, the same bytes under another name.
use Rattle.std.proofs.Common.{◌≡◌, ℕ, ◌+◌, ◌<◌, ◌≤◌, List, [], ◌++◌, length, take, refl, ◌∙◌}
use Rattle.std.proofs.Common.{slice_set, slice_index_or}
use borrow.Rule.Slice.Mut.{set_vals}
use Rattle.wire.specs.declared.writer.Writer.{Writer}
use Rattle.wire.specs.Writing.{Writes}
use Rattle.wire.proofs.buffer.Reach.{joined, retold, nothing, put_full, put-turn}

pub writes-nothing : (w : Writer) → Writes [] w w
writes-nothing w = record { wrote = nothing w.room.now w.at; same = refl }

module _ {u v w : Writer} where
  pub writes-joined : {s t : List ℕ} → Writes s u v → Writes t v w → Writes (s ++ t) u w
  writes-joined p q = record { wrote = joined p.wrote q.wrote; same = q.same ∙ p.same }

module _ {u v : Writer} where
  pub writes-as : {s t : List ℕ} → s ≡ t → Writes s u v → Writes t u v
  writes-as e p = record { wrote = retold e p.wrote; same = p.same }

-- ---- so many of the bytes are written
module _ {u v : Writer} (bytes : List ℕ) (i : ℕ) (p : Writes (take i bytes) u v) where
  pub write_full : length v.room.now ≤ v.at → Writes bytes u v
  write_full h = record { wrote = put_full bytes i p.wrote h; same = p.same }

  pub write-turn : i < length bytes → v.at < length v.room.now
      → Writes (take (i + 1) bytes) u (record { room = set_vals (slice_set v.room.now v.at (slice_index_or bytes i 0)) v.room; at = v.at + 1 })
  write-turn h l = record { wrote = put-turn bytes i p.wrote h l; same = p.same }
