-- Values with a limit, and the value rule over the width: "Types 13 and 15 .. take 64 bits, all others 32."
use Rattle.std.specs.Prelude.{ℕ, ◌+◌, ◌-◌, ◌^◌, ◌≤◌, ◌<◌, ◌≡◌, List, ◌++◌, cond, ltb, length, get_or, take, drop, Err, Ok, Result}
use Rattle.wire.specs.declared.IntError.{IntError}
use Rattle.wire.specs.declared.values.FieldError.{FieldError}
use Rattle.wire.specs.declared.IntError.TheVariants as int
use Rattle.wire.specs.declared.values.FieldError.TheVariants as field
use Rattle.wire.specs.Integer.{encode_int, read_int}

-- A list of bytes.
pub record Bytes (s : List ℕ) : Type 0 where
  pub byte : (i : ℕ) → get_or s i 0 < 256

-- How a field fails by how its integer does.
abbrev pub field_error : IntError → FieldError
field_error (int.Short looked) = field.Short
field_error (int.Overflow looked) = field.OutOfRange

-- An encoded integer that is at most `limit`. Out of range: it overflows or is over the limit.
unfoldable pub limited : ℕ → Result (ℕ × ℕ) IntError → Result (ℕ × ℕ) FieldError
limited limit (Ok (v, next)) = cond (ltb limit v) (Err field.OutOfRange) (Ok (v, next))
limited limit (Err e) = Err (field_error e)

unfoldable pub read_limited : ℕ → List ℕ → ℕ → Result (ℕ × ℕ) FieldError
read_limited limit s at = limited limit (read_int s at)

-- A value of k bits.
unfoldable pub read_width : ℕ → List ℕ → ℕ → Result (ℕ × ℕ) FieldError
read_width k = read_limited (2 ^ k - 1)

-- The value rule at a width, "The 32-bit and 64-bit value rules share one fact": an integer of k bits is that value and every other is out
-- of range; the encoding of every value of k bits reads as that value, whatever stands before and behind it, and that of a greater one is
-- out of range; and what reads as a value is that value's encoding, of k bits.
pub record WidthRule (k : ℕ) : Type 0 where
  pub within : (s : List ℕ) (at v next : ℕ) → read_int s at ≡ Ok (v, next) → v < 2 ^ k → read_width k s at ≡ Ok (v, next)
  pub over : (s : List ℕ) (at v next : ℕ) → read_int s at ≡ Ok (v, next) → 2 ^ k ≤ v → read_width k s at ≡ (Err field.OutOfRange)
  pub short : (s : List ℕ) (at looked : ℕ) → read_int s at ≡ Err (int.Short looked) → read_width k s at ≡ (Err field.Short)
  pub overflow : (s : List ℕ) (at looked : ℕ) → read_int s at ≡ Err (int.Overflow looked) → read_width k s at ≡ (Err field.OutOfRange)
  pub small : (s : List ℕ) (at v next : ℕ) → read_width k s at ≡ Ok (v, next) → v < 2 ^ k
  pub trip : (p t : List ℕ) (v : ℕ) → v < 2 ^ k → read_width k (p ++ (encode_int v ++ t)) (length p) ≡ Ok (v, (length p + length (encode_int v)))
  pub trip-over : (p t : List ℕ) (v : ℕ) → v < 2 ^ 64 → 2 ^ k ≤ v → read_width k (p ++ (encode_int v ++ t)) (length p) ≡ (Err field.OutOfRange)
  pub own : (s : List ℕ) (at v next : ℕ) → Bytes s → read_width k s at ≡ Ok (v, next)
      → (next ≡ at + length (encode_int v)) × (take (length (encode_int v)) (drop at s) ≡ encode_int v)
