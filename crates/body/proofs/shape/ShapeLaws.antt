-- What is read of key type, key length and data types is small.
use Prim.Native.Nat.{ℕ, ◌^◌, ◌<◌}
use native.Mathlib.Omega.{arith}
use mathlib.Core.Path.{◌≡◌, sym}
use mathlib.Core.List.{List}
use mathlib.Core.Bool.{true, false}
use borrow.Author.Tests.{lt-ltb, le-ltb, lt-leb, le-leb}
use Rattle.lists.proofs.Cases.{lt-or-le, split, not-passed}
use Rattle.store.specs.Limits.{key_kind, is_known, data_types_ok, key_length_ok}
use Rattle.store.proofs.Rules.{known_small, key-length-most}
use Rattle.body.specs.Fields.{got, integer, between}
use Rattle.body.specs.Bodies.{is_key_type}
use Rattle.body.proofs.FieldLaws.{same-integer}
use Rattle.body.proofs.Taken.{integer-passed, between-high}

-- ---- `is_key_type`
pub no_type : (n : ℕ) → 0xffffffff < n → false ≡ is_key_type n
unfolding is_key_type
no_type n h = sym (not-passed (is_known (key_kind n)) λ k. let z : ⊥ = omega (arith, known_small n k) in z)

-- "Data types are bits 0 to 18"
types-between : (n : ℕ) → between 0 0x7ffff n ≡ data_types_ok n
unfolding between data_types_ok
types-between n =
    split (lt-or-le 0x7ffff n)
    (λ l. rw (le-leb 0 n (omega arith), lt-leb n 0x7ffff l, le-ltb n (2 ^ 19) (omega arith)))
    (λ l. rw (le-leb 0 n (omega arith), le-leb n 0x7ffff l, lt-ltb n (2 ^ 19) (omega arith)))

-- ---- `read_shape`
small-type : (n : ℕ) → is_key_type n ≡ true → n < 8
unfolding is_key_type
small-type n t = known_small n t

module _ (s : List ℕ) (at : ℕ) (v next : ℕ) where
  pub type_fits : got v next ≡ integer is_key_type s at → v < 2 ^ 32
  type_fits e = omega (arith, small-type v (integer-passed is_key_type s at v next (sym e)))

  pub len_fits : (kind : ℕ) → got v next ≡ integer (key_length_ok kind) s at → v < 2 ^ 32
  len_fits kind e = omega (arith, key-length-most kind v (integer-passed (key_length_ok kind) s at v next (sym e)))

  pub between_fits : (high : ℕ) → got v next ≡ integer (between 0 high) s at → high < 2 ^ 32 → v < 2 ^ 32
  between_fits high e l = omega (arith, between-high 0 high v (integer-passed (between 0 high) s at v next (sym e)))

pub types_read : (s : List ℕ) (at : ℕ) → integer (between 0 0x7ffff) s at ≡ integer data_types_ok s at
types_read s at = same-integer (between 0 0x7ffff) data_types_ok types-between s at

pub ruleset shape_laws = (type_fits, len_fits, between_fits, types_read)
