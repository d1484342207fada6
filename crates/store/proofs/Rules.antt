-- The rules of key types and data types: one law for each case.
use Rattle.std.proofs.Common.{◌≡◌, ℕ, ◌/◌, ◌%◌, ◌^◌, ◌<◌, ◌≤◌, Bool, true, false, eqb, leb, List, [], ◌∷◌, length, get_or, sym, refl, ap, ◌∙◌, subst, arith, lit<, eqb-true, leb-true, None, Option, Some}
use mathlib.Core.Logic.{◌⊎◌, inl, inr}
use native.Mathlib.Nat.{div-eq_of_lt, pow-le-pow_right}
use lib.ListN.{get_or-eq_default}
use borrow.Author.Tests.{ne_eqb}
use Rattle.lists.specs.Lists.{every, up_to, among}
use Rattle.lists.proofs.Cases.{by-test, never, and_second}
use Rattle.lists.proofs.Every.{every-at, up_at, up-length}
use Rattle.store.specs.declared.types.KeyKind.{KeyKind}
use Rattle.store.specs.declared.types.KeyKind.TheVariants.{Integer, Ipv4, Ipv6, Str, Binary}
use Rattle.store.specs.Limits.{key_max, key_kind, key_type_of, is_known, key_length_fits, key_length_ok, present, is_rate, is_wide, rate_types, slot_types, slots_for, integers_of}

-- a number that is none of these has no kind
pub kind-unknown : (n : ℕ) → (n ≡ 2 → ⊥) → (n ≡ 4 → ⊥) → (n ≡ 5 → ⊥) → (n ≡ 6 → ⊥) → (n ≡ 7 → ⊥) → None ≡ key_kind n
unfolding key_kind
kind-unknown n a b c d e = rw (ne_eqb n 2 a, ne_eqb n 4 b, ne_eqb n 5 c, ne_eqb n 6 d, ne_eqb n 7 e)

-- the number of a kind is of that kind, and a known kind has one number
pub kind-of-number : (k : (Option KeyKind)) → key_kind (key_type_of k) ≡ k
unfolding key_kind key_type_of
kind-of-number (Some Integer) = refl
kind-of-number (Some Ipv4) = refl
kind-of-number (Some Ipv6) = refl
kind-of-number (Some Str) = refl
kind-of-number (Some Binary) = refl
kind-of-number None = refl

number_at : (n m : ℕ) → key_type_of (key_kind m) ≡ m → eqb n m ≡ true → n ≡ key_type_of (key_kind n)
number_at n m q h = let e = eqb-true n m h in e ∙ sym q ∙ ap (λ (k : ℕ). key_type_of (key_kind k)) (sym e)

pub number-of-kind : (n : ℕ) → is_known (key_kind n) ≡ true → n ≡ key_type_of (key_kind n)
unfolding key_kind key_type_of
number-of-kind n h =
    by-test (eqb n 2) (number_at n 2 refl) λ a.
    by-test (eqb n 4) (number_at n 4 refl) λ b.
    by-test (eqb n 5) (number_at n 5 refl) λ c.
    by-test (eqb n 6) (number_at n 6 refl) λ d.
    by-test (eqb n 7) (number_at n 7 refl) λ e. never h (rw (a, b, c, d, e) refl)

number_small : (k : (Option KeyKind)) → key_type_of k < 8
unfolding key_type_of
number_small (Some Integer) = omega arith
number_small (Some Ipv4) = omega arith
number_small (Some Ipv6) = omega arith
number_small (Some Str) = omega arith
number_small (Some Binary) = omega arith
number_small None = omega arith

pub known_small : (n : ℕ) → is_known (key_kind n) ≡ true → n < 8
known_small n h = omega (arith, number-of-kind n h, number_small (key_kind n))

-- a right key length fits the key's bytes
fits-most : (kind : (Option KeyKind)) (n : ℕ) → key_length_fits key_max kind n ≡ true → n ≤ key_max
fits-most (Some Integer) n h = omega (arith, eqb-true n 4 h)
fits-most (Some Ipv4) n h = omega (arith, eqb-true n 4 h)
fits-most (Some Ipv6) n h = omega (arith, eqb-true n 16 h)
fits-most (Some Str) n h = leb-true n key_max (and_second (leb 1 n) (leb n key_max) h)
fits-most (Some Binary) n h = leb-true n key_max (and_second (leb 1 n) (leb n key_max) h)
fits-most None n h = never refl (sym h)

pub key-length-most : (key_type n : ℕ) → key_length_ok key_type n ≡ true → n ≤ 64
unfolding key_length_ok
key-length-most key_type n h = fits-most (key_kind key_type) n h

-- ---- data types

unfoldable pub powers : List ℕ
powers =
    1 ∷ 2 ∷ 4 ∷ 8 ∷ 16 ∷ 32 ∷ 64 ∷ 128 ∷ 256 ∷ 512 ∷ 1024 ∷ 2048 ∷ 4096 ∷ 8192 ∷ 16384 ∷ 32768 ∷ 65536 ∷ 131072 ∷ 262144 ∷ 524288
    ∷ 1048576 ∷ 2097152 ∷ 4194304 ∷ 8388608 ∷ 16777216 ∷ 33554432 ∷ 67108864 ∷ 134217728 ∷ 268435456 ∷ 536870912 ∷ 1073741824
    ∷ 2147483648 ∷ []

unfoldable is_power : ℕ → Bool
is_power t = eqb (get_or powers t 0) (2 ^ t)

all-powers : every is_power (up_to 32) ≡ true
unfolding every up_to is_power powers
all-powers = refl

pub power_at : (t : ℕ) → t < 32 → get_or powers t 0 ≡ 2 ^ t
unfolding is_power
power_at t h =
    eqb-true (get_or powers t 0) (2 ^ t)
    (subst (λ (n : ℕ). is_power n ≡ true) (up_at 32 t 0 h) (every-at is_power (up_to 32) 0 t all-powers (omega (arith, up-length 32))))

pub present-past : (types t : ℕ) → types < 2 ^ 32 → 32 ≤ t → false ≡ present types t
unfolding present
present-past types t h l =
    let p = pow-le-pow_right {n = 2} (lit< tt) l in
    let z : types / 2 ^ t ≡ 0 = div-eq_of_lt (omega arith) in
    rw z

pub present-at : (types t : ℕ) → t < 32 → eqb ((types / get_or powers t 0) % 2) 1 ≡ present types t
unfolding present
present-at types t h = rw (power_at t h)

-- a data type that is none of these two takes 32 bits
pub not_wide : (t : ℕ) → ((t ≡ 13) ⊎ (t ≡ 15) → ⊥) → false ≡ is_wide t
unfolding is_wide among
not_wide t h = rw (ne_eqb t 13 (λ e. h (inl e)), ne_eqb t 15 (λ e. h (inr e)))

-- 10 single integers and 8 times 3: 34 slots, each of a data type from 1 to 18
pub slot-count : length slot_types ≡ 34
unfolding slot_types slots_for integers_of is_rate rate_types among
slot-count = refl

pub rate-count : length rate_types ≡ 8
unfolding rate_types
rate-count = refl

pub slot-past : (slot : ℕ) → 34 ≤ slot → 0 ≡ get_or slot_types slot 0
slot-past slot h = sym (get_or-eq_default slot_types 0 (omega (arith, slot-count)))

pub power_pos : (t : ℕ) → t < 32 → 0 < get_or powers t 0
power_pos t h = omega (arith, power_at t h, pow-le-pow_right {n = 2} (lit< tt) (omega_zero t))
  where
    omega_zero : (n : ℕ) → 0 ≤ n
    omega_zero n = omega arith
