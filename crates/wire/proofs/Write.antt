-- Writing, case by case; the state at the head of `write_int`'s loop, and a law for each way through it.
use Prim.Native.Nat.{ℕ, zero, suc, ◌+◌, ◌-◌, ◌/◌, ◌%◌, ◌^◌, ◌≤◌, ◌<◌}
use native.Mathlib.Omega.{arith}
use native.Mathlib.Nat.{pow-suc}
use mathlib.Core.Path.{◌≡◌, sym}
use mathlib.Core.List.{List, [], ◌∷◌, ◌++◌, append_assoc}
use lib.ListN.{length, length-append}
use borrow.Author.Rules.{rules}
use borrow.Author.Tests.{lt-ltb, le-ltb}
use mir.Syntax.{w64}
use mir.Val.{Fits}
use Rattle.wire.specs.Integer.{encode_rest, encode_int}

-- ---- the cases
pub rest-last : (n m y : ℕ) → n ≡ suc m → y < 128 → encode_rest n y ≡ y ∷ []
unfolding encode_rest
rest-last n m y e h = rw (e, lt-ltb y 128 h)

pub rest_more : (n m y : ℕ) → n ≡ suc m → 128 ≤ y → encode_rest n y ≡ (128 + y % 128) ∷ encode_rest m ((y - 128) / 128)
unfolding encode_rest
rest_more n m y e h = rw (e, le-ltb y 128 h)

pub int_alone : (v : ℕ) → v < 240 → encode_int v ≡ v ∷ []
unfolding encode_int
int_alone v h = rw (lt-ltb v 240 h)

pub int-more : (v : ℕ) → 240 ≤ v → encode_int v ≡ (240 + v % 16) ∷ encode_rest 9 ((v - 240) / 16)
unfolding encode_int
int-more v h = rw (le-ltb v 240 h)

-- ---- y shrinks with the bytes that are left, and a y of 128 or more has two bytes at least
pub shrinks : (n m y : ℕ) → n ≡ suc m → y < 128 ^ n → (y - 128) / 128 < 128 ^ m
shrinks n m y e h = omega (arith, rw (e, pow-suc) at h)

two-left : (n y : ℕ) → y < 128 ^ n → 128 ≤ y → 2 ≤ n
two-left zero y h l = omega arith
two-left (suc zero) y h l = omega arith
two-left (suc (suc n)) y h l = omega arith

-- ---- the loop: `out` is written, and stands before the bytes for y
pub record Written (v : ℕ) (out : List ℕ) (y : ℕ) : Type 0 where
  pub low : 1 ≤ length out
  pub high : length out ≤ 9
  pub small : y < 128 ^ (10 - length out)
  pub so_far : out ++ encode_rest (10 - length out) y ≡ encode_int v

pub alone : {v : ℕ} → v < 240 → v ∷ [] ≡ encode_int v
alone {v} h = sym (int_alone v h)

pub start : {v : ℕ} → Fits w64 v → 240 ≤ v → Written v ((240 + v % 16) ∷ []) ((v - 240) / 16)
start {v} l h = record { low = omega arith; high = omega arith; small = omega arith; so_far = sym (int-more v h) }

module _ {v : ℕ} {out : List ℕ} {y : ℕ} (w : Written v out y) where
  pub room : 128 ≤ y → length out < 10
  room h = omega (arith, two-left (10 - length out) y w.small h)

  pub room-last : length out < 10
  room-last = omega (arith, w.high)

  pub step : 128 ≤ y → Written v (out ++ (128 + y % 128) ∷ []) ((y - 128) / 128)
  step h =
      let r : length out ≤ 8 = omega (arith, two-left (10 - length out) y w.small h) in
      let z : length (out ++ (128 + y % 128) ∷ []) ≡ length out + 1 = length-append out ((128 + y % 128) ∷ []) in
      let e : 10 - length out ≡ suc (10 - (length out + 1)) = omega arith in
      record {
        low = omega (arith, z);
        high = omega (arith, z);
        small = rw z (shrinks (10 - length out) (10 - (length out + 1)) y e w.small);
        so_far = rw (z, append_assoc) (rw (← rest_more (10 - length out) (10 - (length out + 1)) y e h) w.so_far);
      }

  pub done : y < 128 → out ++ y ∷ [] ≡ encode_int v
  done h = rw (← rest-last (10 - length out) (9 - length out) y (omega (arith, w.high)) h) w.so_far

pub ruleset writing = (rules, alone, start, room, room-last, step, done)
