-- Case analysis on numbers and tests, and the laws of the connectives that tests are joined by.
use Prim.Native.Nat.{ℕ, ◌≤◌, ◌<◌}
use native.Mathlib.Omega.{arith}
use mathlib.Core.Path.{◌≡◌, refl, sym, ◌∙◌}
use mathlib.Core.Logic.{◌⊎◌, inl, inr}
use mathlib.Core.Bool.{Bool, true, false, cond, not, ◌&&◌, ◌||◌}
use mathlib.Core.List.{List, [], ◌∷◌}
use lib.Dec.{ltb, eqb}
use types.Run.{OneOf}
use borrow.Author.Tests.{ltb-true, ltb-false, eqb-true, eqb-false, eq-eqb}
use Rattle.lists.specs.Lists.{all_of, among}

-- a test, with what it came to
pub by-test {ℓ} : {P : Type ℓ} (t : Bool) → (t ≡ true → P) → (t ≡ false → P) → P
by-test true f g = f refl
by-test false f g = g refl

pub never {ℓ} : {P : Type ℓ} {t : Bool} → t ≡ true → t ≡ false → P
never p q = absurd (let z : ◌≡◌ {A = ℕ} 0 1 = cc in omega arith)

-- a test that isn't passed is failed, and the other way round
pub not-passed : (t : Bool) → (t ≡ true → ⊥) → t ≡ false
not-passed true f = absurd (f refl)
not-passed false f = refl

pub lt-or-le : (a b : ℕ) → (a < b) ⊎ (b ≤ a)
lt-or-le a b = by-test (ltb a b) (λ e. inl (ltb-true a b e)) (λ e. inr (ltb-false a b e))

pub eq-or-ne : (a b : ℕ) → (a ≡ b) ⊎ (a ≡ b → ⊥)
eq-or-ne a b = by-test (eqb a b) (λ e. inl (eqb-true a b e)) (λ e. inr (eqb-false a b e))

-- a case distinction with the cases' types known from its first argument
pub split : {A B C : Type 0} → A ⊎ B → (A → C) → (B → C) → C
split (inl a) f g = f a
split (inr b) f g = g b

-- ---- and

pub and_first : (a b : Bool) → (a && b) ≡ true → a ≡ true
and_first true b h = refl
and_first false b h = h

pub and_second : (a b : Bool) → (a && b) ≡ true → b ≡ true
and_second true b h = h
and_second false b h = never refl (sym h)

pub and_intro : (a b : Bool) → a ≡ true → b ≡ true → (a && b) ≡ true
and_intro true b p q = q
and_intro false b p q = p

pub and-true : (a b : Bool) → a ≡ true → (a && b) ≡ b
and-true a b h = rw h

pub and-false : (a b : Bool) → a ≡ false → (a && b) ≡ false
and-false a b h = rw h

-- a second test that holds says nothing
pub and-true-second : (a b : Bool) → b ≡ true → (a && b) ≡ a
and-true-second true b h = h
and-true-second false b h = refl

-- of two failing tests either says so
pub and-false-second : (a b : Bool) → b ≡ false → (a && b) ≡ false
and-false-second true b h = h
and-false-second false b h = refl

-- ---- or, where the first test guards the second

pub or-true : (a b : Bool) → a ≡ true → (a || b) ≡ true
or-true a b h = rw h

pub or-false : (a b : Bool) → a ≡ false → (a || b) ≡ b
or-false a b h = rw h

-- a passing second test makes both what it is
pub or-second : (a b : Bool) → b ≡ true → (a || b) ≡ b
or-second true b h = sym h
or-second false b h = refl

pub unless-true : (a b : Bool) → a ≡ true → (not a || b) ≡ b
unless-true a b h = rw h

pub unless-false : (a b : Bool) → a ≡ false → (not a || b) ≡ true
unless-false a b h = rw h

pub unless-elim : (a b : Bool) → (not a || b) ≡ true → a ≡ true → b ≡ true
unless-elim a b h t = sym (unless-true a b t) ∙ h

pub unless-intro : (a b : Bool) → (a ≡ true → b ≡ true) → (not a || b) ≡ true
unless-intro true b f = f refl
unless-intro false b f = refl

-- ---- a choice by a test

pub cond-true {ℓ} : {A : Type ℓ} (t : Bool) (a b : A) → t ≡ true → cond t a b ≡ a
cond-true t a b h = rw h

pub cond-false {ℓ} : {A : Type ℓ} (t : Bool) (a b : A) → t ≡ false → cond t a b ≡ b
cond-false t a b h = rw h

-- ---- a list of tests

pub all_none : all_of [] ≡ true
unfolding all_of
all_none = refl

pub all_first : (t : Bool) (ts : List Bool) → all_of (t ∷ ts) ≡ true → t ≡ true
unfolding all_of
all_first t ts h = and_first t (all_of ts) h

pub all_rest : (t : Bool) (ts : List Bool) → all_of (t ∷ ts) ≡ true → all_of ts ≡ true
unfolding all_of
all_rest t ts h = and_second t (all_of ts) h

pub all-intro : (t : Bool) (ts : List Bool) → t ≡ true → all_of ts ≡ true → all_of (t ∷ ts) ≡ true
unfolding all_of
all-intro t ts p q = and_intro t (all_of ts) p q

pub all-false : (t : Bool) (ts : List Bool) → t ≡ false → all_of (t ∷ ts) ≡ false
unfolding all_of
all-false t ts h = and-false t (all_of ts) h

-- ---- the arms of a `match` on a number: it is one of the arm's numbers, or of none of the arms before

pub among-yes : (ks : List ℕ) (x : ℕ) → OneOf ks x → true ≡ among ks x
unfolding among
among-yes [] x h = absurd h
among-yes (k ∷ []) x h = sym (or-true (eqb x k) false (eq-eqb x k h))
among-yes (k ∷ l ∷ ks) x (inl h) = sym (or-true (eqb x k) (among (l ∷ ks) x) (eq-eqb x k h))
among-yes (k ∷ l ∷ ks) x (inr h) = among-yes (l ∷ ks) x h ∙ sym (or-second (eqb x k) (among (l ∷ ks) x) (sym (among-yes (l ∷ ks) x h)))
