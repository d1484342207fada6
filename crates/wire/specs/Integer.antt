-- "The encoded integer" of document 01, sentence by sentence.
use Rattle.std.specs.Prelude.{ℕ, zero, suc, ◌+◌, ◌*◌, ◌-◌, ◌/◌, ◌%◌, ◌^◌, List, [], ◌∷◌, cond, ltb, length, drop, Err, Ok, Result}
use Rattle.wire.specs.declared.IntError.{IntError}
use Rattle.wire.specs.declared.IntError.TheVariants as int
use Rattle.lists.specs.declared.inline.Bytes.{Bytes}

-- ---- writing

-- "While y is 128 or more, a byte 128 + (y mod 128) follows and y becomes (y - 128) / 128, rounded down; last comes the byte y."
-- At most n bytes; nine are enough for a 64-bit value.
unfoldable pub encode_rest : ℕ → ℕ → List ℕ
encode_rest zero y = []
encode_rest (suc n) y = cond (ltb y 128) (y ∷ []) ((128 + y % 128) ∷ encode_rest n ((y - 128) / 128))

-- "A value v below 240 is one byte. Otherwise the first byte is 240 + (v mod 16) and the rest stands for y = (v - 240) / 16, rounded down."
unfoldable pub encode_int : ℕ → List ℕ
encode_int v = cond (ltb v 240) (v ∷ []) ((240 + v % 16) ∷ encode_rest 9 ((v - 240) / 16))

-- ---- reading

-- Request 10: "The integer reader's answer, on too few bytes and on overflow, now also gives how many bytes it looked at": all there were,
-- or those of the encoding that overflows, which are ten where it doesn't end.

-- The bytes after the first: they end, or they are cut short after so many, or as many as are allowed don't end.
pub data Later : Type 0 where
  ended : List ℕ → Later
  cut : ℕ → Later
  endless : Later

-- A byte that doesn't end them stands before the others.
unfoldable pub before : ℕ → Later → Later
before b (ended bs) = ended (b ∷ bs)
before b (cut k) = cut (suc k)
before b endless = endless

-- ".. a later byte below 128 ends it." At most n bytes.
unfoldable pub later_bytes : ℕ → List ℕ → Later
later_bytes zero s = endless
later_bytes (suc n) [] = cut 0
later_bytes (suc n) (b ∷ s) = cond (ltb b 128) (ended (b ∷ [])) (before b (later_bytes n s))

-- "Read backwards: the value is the first byte plus 16 × 128^k times the byte number k (from 0) after it; .."
-- What the bytes from number k on add to the first byte.
unfoldable pub weighted : ℕ → List ℕ → ℕ
weighted k [] = 0
weighted k (b ∷ bs) = 16 * 128 ^ k * b + weighted (suc k) bs

-- "A value over 2^64 - 1, .. is an overflow." The value v of an encoding of n bytes that ends before position `next`.
unfoldable pub fitting : ℕ → ℕ → ℕ → Result (ℕ × ℕ) IntError
fitting v n next = cond (ltb (2 ^ 64 - 1) v) (Err (int.Overflow n)) (Ok (v, next))

-- The integer at position `at` whose first byte is `first`. "A value over 2^64 - 1, or a tenth byte of 128 or more, is an overflow."
unfoldable pub with_later : ℕ → ℕ → Later → Result (ℕ × ℕ) IntError
with_later at first (ended bs) = fitting (first + weighted 0 bs) (1 + length bs) (at + 1 + length bs)
with_later at first (cut k) = Err (int.Short (1 + k))
with_later at first endless = Err (int.Overflow 10)

-- ".. a first byte below 240 stands alone; .." An encoding has at most ten bytes, so at most nine later ones.
-- The list is what stands from position `at` on.
unfoldable pub read_first : ℕ → List ℕ → Result (ℕ × ℕ) IntError
read_first at [] = Err (int.Short 0)
read_first at (b ∷ s) = cond (ltb b 240) (Ok (b, (at + 1))) (with_later at b (later_bytes 9 s))

-- The encoded integer at position `at` of s: its value and the position after it. From the end on it is short of its first byte.
unfoldable pub read_int : List ℕ → ℕ → Result (ℕ × ℕ) IntError
read_int s at = read_first at (drop at s)

-- ---- the smallest value of each length

-- "Smallest value of each length (1 to 5 from 002):" the row of n + 1 bytes is number n.
unfoldable pub smallest : List ℕ
smallest =
    0 ∷ 240 ∷ 2288 ∷ 264432 ∷ 33818864 ∷ 4328786160 ∷ 554084600048 ∷ 70922828777712 ∷ 9078122083518704 ∷ 1161999626690365680 ∷ []

-- ---- what `write_int` returns: the bytes, at most ten
abbrev pub encoded_int : ℕ → Bytes 10
encoded_int v = encode_int v

-- ---- `tenth_byte`, private: the integer whose first nine bytes, read backwards, give `value`, where the list is what follows them
unfoldable pub tenth_byte : ℕ → ℕ → List ℕ → Result (ℕ × ℕ) IntError
tenth_byte value at [] = Err (int.Short 9)
tenth_byte value at (b ∷ s) = cond (ltb b 128) (fitting (value + 16 * 128 ^ 8 * b) 10 (at + 1)) (Err (int.Overflow 10))
