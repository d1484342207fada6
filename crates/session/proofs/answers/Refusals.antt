-- Refusals, with an offset or without: what holds of both holds of every answer with that number of a refusal.
-- An answer whose number is below 256 is one.
use Prim.Native.Nat.{ℕ, ◌<◌}
use native.Mathlib.Omega.{arith}
use mathlib.Core.Path.{◌≡◌, refl, subst}
use mathlib.Core.Option.{some, none}
use Rattle.session.specs.declared.Answer.{Answer}
use Rattle.session.specs.declared.Answer.TheVariants as answer
use Rattle.session.specs.Answers.{refusal_of, answer_number}

pub no_number : (n : ℕ) → none ≡ some n → ⊥
no_number n e = let z : ◌≡◌ {A = ℕ} 0 1 = cc in omega (arith, z)

pub same_number : (n k : ℕ) → some n ≡ some k → n ≡ k
same_number n k e = cc

module _ (P : Answer → Type 0) (n : ℕ) (alone : P (answer.Refused n)) (with : (offset : ℕ) → P (answer.RefusedAt n offset)) where
  pub of-refusal : (a : Answer) → refusal_of a ≡ some n → P a
  unfolding refusal_of
  of-refusal answer.More e = absurd (no_number n e)
  of-refusal (answer.Hello process relative) e = absurd (no_number n e)
  of-refusal answer.Status e = absurd (no_number n e)
  of-refusal answer.Request e = absurd (no_number n e)
  of-refusal answer.Finished e = absurd (no_number n e)
  of-refusal answer.Partial e = absurd (no_number n e)
  of-refusal answer.Confirmed e = absurd (no_number n e)
  of-refusal answer.Heartbeat e = absurd (no_number n e)
  of-refusal (answer.Error type) e = absurd (no_number n e)
  of-refusal (answer.Table place) e = absurd (no_number n e)
  of-refusal (answer.Switch place) e = absurd (no_number n e)
  of-refusal (answer.Update table id entry how) e = absurd (no_number n e)
  of-refusal (answer.Acknowledgement id update) e = absurd (no_number n e)
  of-refusal (answer.Skipped type) e = absurd (no_number n e)
  of-refusal (answer.Refused k) e = subst (λ (j : ℕ). P (answer.Refused j)) (same_number n k (let q : some n ≡ some k = cc in q)) alone
  of-refusal (answer.RefusedAt k offset) e = subst (λ (j : ℕ). P (answer.RefusedAt j offset)) (same_number n k (let q : some n ≡ some k = cc in q)) (with offset)

-- a number below 256 is a refusal's
pub refused-is : (a : Answer) → answer_number a < 256 → refusal_of a ≡ some (answer_number a)
unfolding answer_number refusal_of
refused-is answer.More l = absurd (omega (arith, l))
refused-is (answer.Hello process relative) l = absurd (omega (arith, l))
refused-is answer.Status l = absurd (omega (arith, l))
refused-is answer.Request l = absurd (omega (arith, l))
refused-is answer.Finished l = absurd (omega (arith, l))
refused-is answer.Partial l = absurd (omega (arith, l))
refused-is answer.Confirmed l = absurd (omega (arith, l))
refused-is answer.Heartbeat l = absurd (omega (arith, l))
refused-is (answer.Error type) l = absurd (omega (arith, l))
refused-is (answer.Table place) l = absurd (omega (arith, l))
refused-is (answer.Switch place) l = absurd (omega (arith, l))
refused-is (answer.Update table id entry how) l = absurd (omega (arith, l))
refused-is (answer.Acknowledgement id update) l = absurd (omega (arith, l))
refused-is (answer.Skipped type) l = absurd (omega (arith, l))
refused-is (answer.Refused n) l = refl
refused-is (answer.RefusedAt n offset) l = refl
