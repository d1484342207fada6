-- Numbers, bytes and lines as text.
use Rattle.std.specs.Prelude.{ℕ, suc, ◌+◌, ◌/◌, ◌%◌, List, [], ◌∷◌, ◌++◌, cond, ltb, ℤ, pos, negsuc}
use Rattle.handshake.specs.Bytes.{ascii, decimal}

-- hex digits, in capitals: 0 to 9 are bytes 48 to 57, A to F bytes 65 to 70
unfoldable pub hex_digit : ℕ → ℕ
hex_digit d = cond (ltb d 10) (48 + d) (55 + d)

-- two digits for each byte
unfoldable pub hex : List ℕ → List ℕ
hex [] = []
hex (b ∷ s) = hex_digit (b / 16) ∷ hex_digit (b % 16) ∷ hex s

-- `-` for no bytes
unfoldable pub hex_or_none : List ℕ → List ℕ
hex_or_none [] = ascii "-"
hex_or_none (b ∷ s) = hex (b ∷ s)

-- a minus sign before the digits of a negative number
unfoldable pub signed : ℤ → List ℕ
signed (pos n) = decimal n
signed (negsuc n) = ascii "-" ++ decimal (suc n)

-- a space before each word
unfoldable pub spaced : List (List ℕ) → List ℕ
spaced [] = []
spaced (w ∷ ws) = ascii " " ++ (w ++ spaced ws)

-- words with single spaces between, and LF
unfoldable pub line : List ℕ → List (List ℕ) → List ℕ
line first rest = first ++ (spaced rest ++ ascii "\n")
