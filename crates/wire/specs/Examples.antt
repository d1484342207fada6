-- The definitions at limits, at positions, and where the bytes end.
use Rattle.std.specs.Prelude.{◌-◌, ◌^◌, ◌≡◌, refl, [], ◌∷◌, pos, negsuc, Err, None, Ok, Some}
use Rattle.wire.specs.declared.IntError.TheVariants as int
use Rattle.wire.specs.Integer.{read_int, read_first, with_later, later_bytes, before, weighted, fitting}
use Rattle.wire.specs.Number.{read_number, number_of, encode_number}
use Rattle.wire.specs.Server.{server_word, server_id_of}

-- ---- an integer in the midst of bytes; the cases of document 01's table P are in `worked_cases`
read-4660 : read_int (0x07 ∷ 0xF4 ∷ 0x94 ∷ 0x01 ∷ 0x09 ∷ []) 1 ≡ Ok (4660, 4)
unfolding read_int read_first with_later later_bytes before weighted fitting
read-4660 = refl

-- ---- "A value over 2^64 - 1, or a tenth byte of 128 or more, is an overflow", and how many bytes were looked at (request 10)
over : read_int (0xF0 ∷ 0xF1 ∷ 0xFE ∷ 0xFE ∷ 0xFE ∷ 0xFE ∷ 0xFE ∷ 0xFE ∷ 0xFE ∷ 0x0E ∷ []) 0 ≡ Err (int.Overflow 10)
unfolding read_int read_first with_later later_bytes before weighted fitting
over = refl

tenth-over : read_int (0xF0 ∷ 0x80 ∷ 0x80 ∷ 0x80 ∷ 0x80 ∷ 0x80 ∷ 0x80 ∷ 0x80 ∷ 0x80 ∷ 0x80 ∷ []) 0 ≡ Err (int.Overflow 10)
unfolding read_int read_first with_later later_bytes before weighted fitting
tenth-over = refl

nine-short : read_int (0xF0 ∷ 0x80 ∷ 0x80 ∷ 0x80 ∷ 0x80 ∷ 0x80 ∷ 0x80 ∷ 0x80 ∷ 0x80 ∷ []) 0 ≡ Err (int.Short 9)
unfolding read_int read_first with_later later_bytes before weighted fitting
nine-short = refl

one-short : read_int (0x07 ∷ 0xF0 ∷ []) 1 ≡ Err (int.Short 1)
unfolding read_int read_first with_later later_bytes before weighted fitting
one-short = refl

none-at-end : read_int (0x07 ∷ 0xF0 ∷ []) 2 ≡ Err (int.Short 0)
unfolding read_int read_first with_later later_bytes before weighted fitting
none-at-end = refl

none-past-end : read_int (0x07 ∷ 0xF0 ∷ []) 3 ≡ Err (int.Short 0)
unfolding read_int read_first with_later later_bytes before weighted fitting
none-past-end = refl

-- ---- the server ID at its four exact points, and the two refusals beside them
id-least : server_id_of (2 ^ 64 - 2 ^ 31) ≡ Some (negsuc (2 ^ 31 - 1))
unfolding server_id_of
id-least = refl

id-minus-one : server_id_of (2 ^ 64 - 1) ≡ Some (negsuc 0)
unfolding server_id_of
id-minus-one = refl

id-zero : server_id_of 0 ≡ Some (pos 0)
unfolding server_id_of
id-zero = refl

id-largest : server_id_of (2 ^ 31 - 1) ≡ Some (pos (2 ^ 31 - 1))
unfolding server_id_of
id-largest = refl

past-largest : server_id_of (2 ^ 31) ≡ None
unfolding server_id_of
past-largest = refl

below-least : server_id_of (2 ^ 64 - 2 ^ 31 - 1) ≡ None
unfolding server_id_of
below-least = refl

word-least : server_word (negsuc (2 ^ 31 - 1)) ≡ 2 ^ 64 - 2 ^ 31
unfolding server_word
word-least = refl

-- ---- a 4-byte number, both ways
number-bytes : encode_number 0x01020304 ≡ 1 ∷ 2 ∷ 3 ∷ 4 ∷ []
unfolding encode_number
number-bytes = refl

number_read : read_number (9 ∷ 1 ∷ 2 ∷ 3 ∷ 4 ∷ []) 1 ≡ Some (0x01020304, 5)
unfolding read_number number_of
number_read = refl
