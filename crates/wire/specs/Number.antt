-- The 4-byte big-endian numbers of document 01 ("4-byte big-endian update ID").
use Rattle.std.specs.Prelude.{ℕ, ◌+◌, ◌*◌, ◌/◌, ◌%◌, ◌^◌, List, [], ◌∷◌, cond, leb, length, get_or, None, Option, Some}

-- The number that four bytes stand for.
unfoldable pub number_of : ℕ → ℕ → ℕ → ℕ → ℕ
number_of a b c d = a * 2 ^ 24 + b * 2 ^ 16 + c * 2 ^ 8 + d

-- The number at position `at` of s, where four bytes stand there, and the position after it.
unfoldable pub read_number : List ℕ → ℕ → Option (ℕ × ℕ)
read_number s at =
    cond (leb (at + 4) (length s))
    (Some ((number_of (get_or s at 0) (get_or s (at + 1) 0) (get_or s (at + 2) 0) (get_or s (at + 3) 0)), (at + 4)))
    None

-- The four bytes of a number below 2^32, the highest first.
unfoldable pub encode_number : ℕ → List ℕ
encode_number v = v / 2 ^ 24 % 256 ∷ v / 2 ^ 16 % 256 ∷ v / 2 ^ 8 % 256 ∷ v % 256 ∷ []
