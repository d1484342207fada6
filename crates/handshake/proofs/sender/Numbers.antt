-- A decimal number read: its digits summed, and when it is malformed.
use Rattle.std.specs.Prelude.{None, Option, Some}
use Prim.Native.Nat.{ℕ, ◌+◌, ◌*◌, ◌-◌, ◌^◌, ◌≤◌, ◌<◌}
use native.Mathlib.Omega.{arith}
use native.Mathlib.Numerals.{add-one}
use native.Mathlib.Nat.{pow-suc, pow-le-pow_right}
use mathlib.Core.Path.{◌≡◌, refl, sym, ◌∙◌}
use mathlib.Core.List.{List}
use mathlib.Core.Bool.{true, false}
use lib.Dec.{lit<}
use lib.ListN.{length, get_or, drop, drop_of_length-le}
use lib.Seq.{drop-cons}
use borrow.Author.Rules.{rules}
use mir.Syntax.{w64}
use mir.Val.{Fits}
use Rattle.handshake.specs.Bytes.{within, read_digits}
use Rattle.handshake.specs.Handshake.{number_b, number_of}
use Rattle.lists.proofs.Cases.{by-test}
use Rattle.handshake.proofs.NameBytes.{within-at}

-- ---- the value of digits
pub record Summing (s : List ℕ) (n i : ℕ) : Type 0 where
  pub few : length s ≤ 10
  pub digits : within 48 57 s ≡ true
  pub small : n < 10 ^ i
  pub rest : read_digits 0 s ≡ read_digits n (drop i s)

pub sum-start : {s : List ℕ} → length s ≤ 10 → within 48 57 s ≡ true → Summing s 0 0
sum-start f d = record { few = f; digits = d; small = omega arith; rest = refl }

module _ {s : List ℕ} {n i : ℕ} (r : Summing s n i) where
  sum_bound : i < length s → 10 ^ i ≤ 10 ^ 9
  sum_bound h = let k : i ≤ 9 = omega (arith, r.few) in pow-le-pow_right {n = 10} (lit< tt) k

  pub sum-digit : {d : ℕ} → i < length s → d ≡ get_or s i 0 → 48 ≤ d
  sum-digit h e = omega (arith, within-at 48 57 s i r.digits h)

  pub sum-times : i < length s → Fits w64 (n * 10)
  sum-times h = omega (arith, sum_bound h, r.small)

  pub sum_fits : {d : ℕ} → i < length s → d ≡ get_or s i 0 → d < 256 → Fits w64 (n * 10 + (d - 48))
  sum_fits h e k = omega (arith, sum_bound h, r.small)

  pub sum-turn : {x : ℕ} → i < length s → x ≡ get_or s i 0 - 48 → Summing s (n * 10 + x) (i + 1)
  unfolding read_digits
  sum-turn {x} h e =
      let u = within-at 48 57 s i r.digits h in
      record {
        few = r.few;
        digits = r.digits;
        small = rw (add-one, pow-suc) (omega (arith, r.small));
        rest = r.rest ∙ rw (drop-cons s i 0 h, e, add-one);
      }

  pub sum-end : length s ≤ i → n ≡ read_digits 0 s
  unfolding read_digits
  sum-end h = sym (r.rest ∙ rw (drop_of_length-le s h))

pub ruleset summing = (rules, sum-start, sum-digit, sum-times, sum_fits, sum-turn, sum-end)

-- ---- a number
unfoldable pub DecimalIs : List ℕ → Option ℕ → Type 0
DecimalIs s (Some n) = (n ≡ read_digits 0 s) × (number_b s ≡ true)
DecimalIs s None = number_b s ≡ false

pub number_is : (s : List ℕ) → DecimalIs s (number_of s)
unfolding DecimalIs number_of
number_is s = by-test (number_b s) (λ h. rw h (refl, h)) (λ h. rw h h)
