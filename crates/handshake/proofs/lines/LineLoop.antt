-- The loop that looks for the end of a line.
use Rattle.std.specs.Prelude.{Err, Ok}
use Prim.Native.Nat.{ℕ, zero, suc, ◌+◌, ◌-◌, ◌≤◌, ◌<◌}
use native.Mathlib.Omega.{arith}
use native.Mathlib.Numerals.{add-one}
use mathlib.Core.Path.{◌≡◌, refl, sym, ◌∙◌}
use mathlib.Core.List.{List, [], ◌∷◌}
use lib.ListN.{length, get_or, drop, drop_of_length-le}
use lib.Seq.{drop-cons}
use borrow.Author.Rules.{rules}
use borrow.Author.Tests.{eq-eqb, ne_eqb}
use Rattle.handshake.specs.declared.LineError.TheVariants as line
use Rattle.handshake.specs.Handshake.{line_in, line_at}

-- ---- the end of a line
line-lf : (n at b : ℕ) (s : List ℕ) → b ≡ 10 → line_in n at (b ∷ s) ≡ Ok at
unfolding line_in
line-lf zero at b s e = rw (eq-eqb b 10 e)
line-lf (suc n) at b s e = rw (eq-eqb b 10 e)

line-over : (n at b : ℕ) (s : List ℕ) → n ≡ 0 → (b ≡ 10 → ⊥) → line_in n at (b ∷ s) ≡ (Err line.TooLong)
unfolding line_in
line-over n at b s z e = rw (z, ne_eqb b 10 e)

line-more : (n m at b : ℕ) (s : List ℕ) → n ≡ suc m → (b ≡ 10 → ⊥) → line_in n at (b ∷ s) ≡ line_in m (at + 1) s
unfolding line_in
line-more n m at b s z e = rw (z, ne_eqb b 10 e)

line-open : (n at : ℕ) → line_in n at [] ≡ (Err line.Open)
unfolding line_in
line-open zero at = refl
line-open (suc n) at = refl

pub record Walking (s : List ℕ) (at i : ℕ) : Type 0 where
  pub from : at ≤ i
  pub near : i - at ≤ 64
  pub rest : line_at s at ≡ line_in (64 - (i - at)) i (drop i s)

pub walk_start : (s : List ℕ) (at : ℕ) → Walking s at at
unfolding line_at
walk_start s at = let e : 64 - (at - at) ≡ 64 = omega arith in record { from = omega arith; near = omega arith; rest = rw e }

module _ {s : List ℕ} {at i : ℕ} (w : Walking s at i) where
  pub walk-from : at ≤ i
  walk-from = w.from

  pub walk-lf : i < length s → get_or s i 0 ≡ 10 → Ok i ≡ line_at s at
  walk-lf h e = sym (w.rest ∙ rw (drop-cons s i 0 h) (line-lf (64 - (i - at)) i (get_or s i 0) (drop (suc i) s) e))

  pub walk-over : i < length s → (get_or s i 0 ≡ 10 → ⊥) → i - at ≡ 64 → (Err line.TooLong) ≡ line_at s at
  walk-over h e z =
      let k : 64 - (i - at) ≡ 0 = omega arith in
      sym (w.rest ∙ rw (drop-cons s i 0 h) (line-over (64 - (i - at)) i (get_or s i 0) (drop (suc i) s) k e))

  pub walk_turn : i < length s → (get_or s i 0 ≡ 10 → ⊥) → (i - at ≡ 64 → ⊥) → Walking s at (i + 1)
  walk_turn h e z =
      let n : i - at ≤ 63 = omega (arith, w.near) in
      let k : 64 - (i - at) ≡ suc (64 - (i + 1 - at)) = omega (arith, w.from) in
      record {
        from = omega (arith, w.from);
        near = omega (arith, w.from);
        rest = w.rest ∙ rw (drop-cons s i 0 h, line-more (64 - (i - at)) (64 - (i + 1 - at)) i (get_or s i 0) (drop (suc i) s) k e, add-one);
      }

  pub walk-open : length s ≤ i → (Err line.Open) ≡ line_at s at
  walk-open h = sym (w.rest ∙ rw (drop_of_length-le s h) (line-open (64 - (i - at)) i))

pub ruleset walking = (rules, walk_start, walk-from, walk-lf, walk-over, walk_turn, walk-open)
