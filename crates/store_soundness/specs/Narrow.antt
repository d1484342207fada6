-- A value that fits every data type's width.
use Rattle.std.specs.Prelude.{ℕ, ◌^◌, Bool, ltb}

-- "Types 13 and 15 .. take 64 bits, all others 32"
abbrev pub is_narrow : ℕ → Bool
is_narrow v = ltb v (2 ^ 32)
