-- What a function that writes through a `Writer` promises.
use Rattle.std.specs.Prelude.{◌≡◌, ℕ, List}
use Rattle.wire.specs.declared.writer.Writer.{Writer}
use Rattle.wire.specs.Room.{Wrote}

-- The bytes stand behind what was written, as far as the room reaches, and the rest of the room is as it was; the room is the one that was lent.
pub record Writes (bytes : List ℕ) (old new : Writer) : Type 0 where
  pub wrote : Wrote old.room.now old.at bytes new.room.now new.at
  pub same : new.room.ghost_name ≡ old.room.ghost_name
