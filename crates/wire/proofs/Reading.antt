-- The state at the head of `read_int`'s loop, and a law for each way through `read_int` and `tenth_byte`.
use Rattle.std.specs.Prelude.{Err, Ok, Result}
use Prim.Native.Nat.{ℕ, ◌+◌, ◌*◌, ◌-◌, ◌^◌, ◌≤◌, ◌<◌}
use native.Mathlib.Omega.{arith}
use native.Mathlib.Numerals.{add-one}
use native.Mathlib.Nat.{pow-suc, mul-le-mul_left}
use mathlib.Core.Path.{◌≡◌, refl, sym, ap, ◌∙◌}
use mathlib.Core.List.{List}
use lib.ListN.{length, get_or, drop}
use borrow.Author.Rules.{rules}
use mir.Syntax.{w64}
use mir.Val.{Fits}
use Rattle.wire.specs.declared.IntError.{IntError}
use Rattle.wire.specs.declared.IntError.TheVariants.{Short, Overflow}
use Rattle.wire.specs.Integer.{later_bytes, read_int, tenth_byte}
use Rattle.lists.proofs.Cases.{lt-or-le, split}
use Rattle.wire.proofs.Read.{fitting-value, fitting-over, whole, at-end, at_last, at_more, first-end, first_alone, first_more, tenth-end, tenth-low, tenth-high, tenth-whole, weight-le}

-- ---- `tenth_byte`
module _ (w : ℕ) (e : w ≡ 16 * 128 ^ 8) (b : ℕ) (l : b < 16) where
  -- the byte's product, in the code's form and in the definition's
  top-is : w * b ≡ 16 * 128 ^ 8 * b
  top-is = ap (λ (x : ℕ). x * b) e

  pub top-le : w * b ≤ 2 ^ 64 - 1
  top-le = omega (arith, top-is)

  pub top-fits : Fits w64 (w * b)
  top-fits = omega (arith, top-le)

  pub sum_fits : (value : ℕ) → value ≤ 2 ^ 64 - 1 - w * b → Fits w64 (value + w * b)
  sum_fits value m = omega (arith, top-le)

module _ (s : List ℕ) (i value : ℕ) where
  pub last_none : length s ≤ i → Err (Short 9) ≡ tenth_byte value i (drop i s)
  last_none h = sym (tenth-end s i value h)

  module _ (b : ℕ) (q : b ≡ get_or s i 0) (h : i < length s) where
    pub last-high : 16 ≤ b → Err (Overflow 10) ≡ tenth_byte value i (drop i s)
    last-high l =
        sym
        (split (lt-or-le b 128)
        (λ m. tenth-low s i value b q h m ∙ fitting-over _ _ _ (omega arith))
        (λ m. tenth-high s i value b q h m))

    module _ (w : ℕ) (e : w ≡ 16 * 128 ^ 8) (l : b < 16) where
      pub last-over : 2 ^ 64 - 1 - w * b < value → Err (Overflow 10) ≡ tenth_byte value i (drop i s)
      last-over m = sym (tenth-low s i value b q h (omega arith) ∙ fitting-over _ _ _ (omega (arith, top-is w e b l)))

      pub last-value : value ≤ 2 ^ 64 - 1 - w * b → Ok ((value + w * b), (i + 1)) ≡ tenth_byte value i (drop i s)
      last-value m =
          rw (top-is w e b l) (sym (tenth-low s i value b q h (omega arith) ∙ fitting-value _ _ _ (omega (arith, top-is w e b l))))

pub ruleset tenth = (rules, top-le, top-fits, sum_fits, last_none, last-high, last-over, last-value)

-- ---- `read_int`
pub record Reading (s : List ℕ) (at i acc w n : ℕ) : Type 0 where
  pub few : n ≤ 8
  pub weight : w ≡ 16 * 128 ^ n
  pub small : acc < 16 * w
  pub rest : read_int s at ≡ whole acc n i (later_bytes (9 - n) (drop i s))

pub none : (s : List ℕ) (at : ℕ) → length s ≤ at → Err (Short 0) ≡ read_int s at
none s at h = sym (first-end _ _ h)

pub alone : (s : List ℕ) (at b m : ℕ) → b ≡ get_or s at 0 → at < length s → b < m → m ≤ 240 → Ok (b, (at + 1)) ≡ read_int s at
alone s at b m q h l k = sym (first_alone _ _ _ q h (omega arith))

pub start : {s : List ℕ} {at b : ℕ} → b ≡ get_or s at 0 → at < length s → b < 256 → 240 ≤ b → Reading s at (at + 1) b 16 0
start q h k l = record { few = omega arith; weight = refl; small = omega arith; rest = first_more _ _ _ q h l }

module _ {s : List ℕ} {at i acc w n : ℕ} (r : Reading s at i acc w n) where
  pub short-of : length s ≤ i → Err (Short (n + 1)) ≡ read_int s at
  short-of h = let k = r.few in sym (r.rest ∙ at-end s i (9 - n) (8 - n) acc n (omega arith) h)

  weighs : n < 8 → w ≤ 2 ^ 53
  weighs k = omega (arith, weight-le n 7 (omega arith), r.weight)

  -- the byte's product, in the definition's form and in the code's
  product : (b : ℕ) → 16 * 128 ^ n * b ≡ w * b
  product b = ap (λ (x : ℕ). x * b) (sym r.weight)

  pub mul-fits : {b : ℕ} → n < 8 → b < 256 → Fits w64 (w * b)
  mul-fits {b} k h = let u : b ≤ 255 = omega arith in omega (arith, weighs k, mul-le-mul_left w u)

  pub add-fits : {b : ℕ} → n < 8 → b < 256 → Fits w64 (acc + w * b)
  add-fits {b} k h = let u : b ≤ 255 = omega arith in omega (arith, weighs k, r.small, mul-le-mul_left w u)

  pub doubles : n < 8 → w < 2 ^ 57
  doubles k = omega (arith, weighs k)

  pub ends : {b : ℕ} → n < 8 → i < length s → b ≡ get_or s i 0 → b < 256 → b < 128 → Ok ((acc + w * b), (i + 1)) ≡ read_int s at
  ends {b} k h q u l =
      sym
      (r.rest
      ∙ at_last s i (9 - n) (8 - n) acc n (omega arith) b q h l
      ∙ rw (product b) (fitting-value (acc + w * b) (n + 2) (i + 1) (add-fits k u).fits))

  pub goes_on : {b x : ℕ} → n < 8 → i < length s → b ≡ get_or s i 0 → b < 256 → 128 ≤ b → x ≡ 128 * w
      → Reading s at (i + 1) (acc + w * b) x (n + 1)
  goes_on {b} {x} k h q u l d =
      let v : b ≤ 255 = omega arith in
      record {
        few = omega arith;
        weight = rw (add-one, pow-suc) (omega (arith, d, r.weight));
        small = omega (arith, d, r.small, mul-le-mul_left w v);
        rest = r.rest ∙ at_more s i (9 - n) (9 - (n + 1)) acc n (omega arith) b q h l ∙ rw (product b);
      }

  eight : 8 ≤ n → n ≡ 8
  eight k = omega (arith, r.few)

  pub tenth-weight : 8 ≤ n → w ≡ 16 * 128 ^ 8
  tenth-weight k = rw (r.weight, eight k)

  pub at-tenth : {t : (Result (ℕ × ℕ) IntError)} → 8 ≤ n → t ≡ tenth_byte acc i (drop i s) → t ≡ read_int s at
  at-tenth k e = e ∙ sym (r.rest ∙ rw (eight k) (tenth-whole acc i (drop i s)))

pub ruleset reading = (rules, none, alone, start, short-of, mul-fits, add-fits, doubles, ends, goes_on, tenth-weight, at-tenth)
