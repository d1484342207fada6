-- The digits of a number in an array: the loop that fills it, and what stands there from its start on.
use Prim.Native.Nat.{ℕ, zero, suc, ◌+◌, ◌-◌, ◌/◌, ◌%◌, ◌^◌, ◌≤◌, ◌<◌}
use native.Mathlib.Omega.{arith}
use mathlib.Core.Path.{◌≡◌, refl, sym, ap, ◌∙◌}
use mathlib.Core.List.{List, [], ◌∷◌, ◌++◌, append_assoc, append-nil}
use lib.ListN.{length, take, drop, set, replicate, length-append, length-replicate}
use lib.Seq.{drop_at, take_all}
use borrow.Author.Rules.{rules}
use mir.Syntax.{w64}
use mir.Val.{Fits}
use Rattle.handshake.specs.Bytes.{decimal_in, decimal}
use Rattle.handshake.proofs.Decimals.{decimal-last, decimal-more, shrinks}

-- ---- the state at the head of `decimal_digits`' loop: the digits after i are done, and zeros stand before them
pub record Filling (n : ℕ) (bytes : List ℕ) (i y : ℕ) : Type 0 where
  pub done : List ℕ
  pub size : i + suc (length done) ≡ 20
  pub small : y < 10 ^ suc i
  pub zeros : bytes ≡ replicate (suc i) 0 ++ done
  pub so_far : decimal_in (suc i) y ++ done ≡ decimal n

set_last : (i v : ℕ) (d : List ℕ) → set (replicate (suc i) 0 ++ d) i v ≡ replicate i 0 ++ (v ∷ d)
set_last zero v d = refl
set_last (suc i) v d = ap (λ (l : List ℕ). 0 ∷ l) (set_last i v d)

pub fill_start : {n : ℕ} → Fits w64 n → Filling n (replicate 20 0) 19 n
unfolding decimal
fill_start {n} h = record { done = []; size = refl; small = omega arith; zeros = refl; so_far = append-nil (decimal_in 20 n) }

module _ {n : ℕ} {bytes : List ℕ} {i y : ℕ} (w : Filling n bytes i y) where
  pub fill-index : i < 20
  fill-index = omega (arith, w.size)

  pub fill-long : length bytes ≡ 20
  fill-long = rw (w.zeros, length-append) (omega (arith, w.size, length-replicate {A = ℕ} i 0))

  two-left : (j : ℕ) → y < 10 ^ suc j → 10 ≤ y → 1 ≤ j
  two-left zero h l = omega arith
  two-left (suc j) h l = omega arith

  pub fill-left : 10 ≤ y → 1 ≤ i
  fill-left l = two-left i w.small l

  pub fill-turn : 10 ≤ y → Filling n (set bytes i (48 + y % 10)) (i - 1) (y / 10)
  fill-turn l =
      let k : i ≡ suc (i - 1) = omega (arith, fill-left l) in
      record {
        done = (48 + y % 10) ∷ w.done;
        size = omega (arith, w.size);
        small = shrinks (suc i) (suc (i - 1)) y (ap suc k) w.small;
        zeros = rw (w.zeros, set_last i (48 + y % 10) w.done) (ap (λ (j : ℕ). replicate j 0 ++ ((48 + y % 10) ∷ w.done)) k);
        so_far =
            ap (λ (j : ℕ). decimal_in j (y / 10) ++ ((48 + y % 10) ∷ w.done)) (sym k)
            ∙ sym (append_assoc (decimal_in i (y / 10)) ((48 + y % 10) ∷ []) w.done)
            ∙ ap (λ (s : List ℕ). s ++ w.done) (sym (decimal-more (suc i) i y refl l))
            ∙ w.so_far;
      }

  dropped : y < 10 → drop i (set bytes i (48 + y)) ≡ decimal n
  dropped h =
      let d : decimal n ≡ (48 + y) ∷ w.done = sym w.so_far ∙ ap (λ (s : List ℕ). s ++ w.done) (decimal-last (suc i) i y refl h) in
      rw (d, w.zeros, set_last i (48 + y) w.done) (drop_at (replicate i 0) ((48 + y) ∷ w.done) i (length-replicate {A = ℕ} i 0))

  pub fill_end : y < 10 → take (20 - i) (drop i (set bytes i (48 + y))) ≡ decimal n
  fill_end h =
      let d : decimal n ≡ (48 + y) ∷ w.done = sym w.so_far ∙ ap (λ (s : List ℕ). s ++ w.done) (decimal-last (suc i) i y refl h) in
      ap (take (20 - i)) (dropped h) ∙ take_all (20 - i) (decimal n) (omega (arith, ap length d, w.size))

pub ruleset filling = (rules, fill_start, fill-index, fill-long, fill-left, fill-turn, fill_end)
