-- Bytes written at a position of lent room, where they fit whole, or as far as the room reaches; everything else stays as it came.
use Rattle.std.specs.Prelude.{ℕ, zero, suc, ◌+◌, ◌-◌, min, ◌≡◌, List, [], ◌∷◌, cond, leb, length, None, Option, Some}
use Rattle.lists.specs.Lists.{overlay}

-- ---- where they fit whole

-- The answer: the position after the bytes, or no room for them.
unfoldable pub put_result : List ℕ → ℕ → List ℕ → Option ℕ
put_result room at bytes = cond (leb (at + length bytes) (length room)) (Some (at + length bytes)) None

-- The room afterwards.
unfoldable pub put_room : List ℕ → ℕ → List ℕ → List ℕ
put_room room at bytes = cond (leb (at + length bytes) (length room)) (overlay at bytes room) room

-- ---- as far as the room reaches

-- The bytes in the room from a position on, as far as the room reaches, and the rest of the room as it came.
unfoldable pub filled : List ℕ → ℕ → List ℕ → List ℕ
filled [] at bytes = []
filled (x ∷ room) (suc at) bytes = x ∷ filled room at bytes
filled (x ∷ room) zero [] = x ∷ room
filled (x ∷ room) zero (b ∷ bytes) = b ∷ filled room zero bytes

-- The position behind the bytes, or behind the room where they are cut.
unfoldable pub reached : List ℕ → ℕ → List ℕ → ℕ
reached room at bytes = at + min (length bytes) (length room - at)

-- What a function that puts bytes into a room so promises: the room's final content and the next position.
pub record Wrote (room : List ℕ) (at : ℕ) (bytes final : List ℕ) (next : ℕ) : Type 0 where
  pub content : final ≡ filled room at bytes
  pub position : next ≡ reached room at bytes
