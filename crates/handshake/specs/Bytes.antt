-- Byte strings: texts, ranges, decimal numbers, and bytes at the front of a room.
use Rattle.std.specs.Prelude.{ℕ, zero, suc, ◌+◌, ◌*◌, ◌-◌, ◌/◌, ◌%◌, List, [], ◌∷◌, ◌++◌, Bool, true, false, cond, ◌&&◌, ltb, leb, length, None, Option, Some}
use Rattle.std.specs.List.{list_all}
use Prim.Native.Char.{code}
use Prim.Native.String.{String, [] as ε, ◌∷◌ as ◌◃◌}
use Rattle.lists.specs.Lists.{eq_bytes, front}
use Rattle.lists.specs.declared.inline.Bytes.{Bytes}

-- the bytes of a text in quotes
abbrev pub ascii : String → List ℕ
ascii ε = []
ascii (c ◃ s) = code c ∷ ascii s

-- s is one of the strings listed
unfoldable pub one_of : List ℕ → List (List ℕ) → Bool
one_of s [] = false
one_of s (t ∷ ts) = cond (eq_bytes s t) true (one_of s ts)

-- ---- ranges

-- each byte is lo or more, and hi or less
unfoldable pub within : ℕ → ℕ → List ℕ → Bool
within lo hi s = list_all (λ b. leb lo b && leb b hi) s

-- ---- decimal numbers

-- the digits of n without leading zeros, f of them at most
unfoldable pub decimal_in : ℕ → ℕ → List ℕ
decimal_in zero n = []
decimal_in (suc f) n = cond (ltb n 10) ((48 + n) ∷ []) (decimal_in f (n / 10) ++ ((48 + n % 10) ∷ []))

-- twenty digits are enough for a number of 64 bits
unfoldable pub decimal : ℕ → List ℕ
decimal n = decimal_in 20 n

-- the number whose digits are those of n, then these
unfoldable pub read_digits : ℕ → List ℕ → ℕ
read_digits n [] = n
read_digits n (d ∷ ds) = read_digits (n * 10 + (d - 48)) ds

-- the digits as `decimal_digits` returns them: at most twenty bytes
abbrev pub digits_of : ℕ → Bytes 20
digits_of n = decimal n

-- ---- a room

-- the room where bytes are written that it may be too short for
unfoldable pub room_with : List ℕ → List ℕ → List ℕ
room_with bytes room = cond (leb (length bytes) (length room)) (front bytes room) room

unfoldable pub written_to : List ℕ → List ℕ → Option ℕ
written_to bytes room = cond (leb (length bytes) (length room)) (Some (length bytes)) None
