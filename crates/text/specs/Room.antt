-- Text in a lent room: what the room holds afterwards, and where the next text goes.
use Rattle.std.specs.Prelude.{ℕ, ◌-◌, Bool, cond, ◌&&◌, ltb, leb}
-- what a function that puts a text into a room promises: the room's final content and the next position
unfoldable pub use Rattle.wire.specs.Room.{filled, reached}
pub use Rattle.wire.specs.Room.{Wrote}

-- a text of at most so many bytes fits behind a position, in a room of some size
unfoldable pub fits_behind : ℕ → ℕ → ℕ → Bool
fits_behind size next most = ltb next size && leb most (size - next)

-- the position for such a text: `next` where it fits behind, else the start
unfoldable pub place_for : ℕ → ℕ → ℕ → ℕ
place_for size next most = cond (fits_behind size next most) next 0
