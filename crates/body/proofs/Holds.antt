-- What holds of a value that was read and of the position after it: a type by cases on what reading gave.
use Rattle.std.specs.Prelude.{Result, Ok}
use Prim.Native.Nat.{ℕ}
use native.Mathlib.Omega.{arith}
use mathlib.Core.Path.{◌≡◌, refl, ap, subst}
use mathlib.Core.Bool.{Bool, true, false, cond}
use Rattle.body.specs.declared.Fault.{Fault}
use Rattle.body.specs.Fields.{Read, got, failed, and_then}

module _ {A : Type 0} where
  unfoldable pub Holds : (A → ℕ → Type 0) → Read A → Type 0
  Holds P (got a next) = P a next
  Holds P (failed f) = Unit {0}

module _ {A : Type 0} (P : A → ℕ → Type 0) where
  pub held : (x : Read A) → Holds P x → (a : A) (next : ℕ) → x ≡ got a next → P a next
  unfolding Holds
  held x h a next e = subst (Holds P) e h

  pub holds-got : (a : A) (next : ℕ) → P a next → Holds P (got a next)
  unfolding Holds
  holds-got a next h = h

  pub holds-failed : (f : Fault) → Holds P (failed f)
  unfolding Holds
  holds-failed f = tt

  pub holds-cond : (b : Bool) (x y : Read A) → (b ≡ true → Holds P x) → (b ≡ false → Holds P y) → Holds P (cond b x y)
  holds-cond true x y f g = f refl
  holds-cond false x y f g = g refl

  pub holds-each : (Q : A → ℕ → Type 0) (x : Read A) → Holds P x → ((a : A) (next : ℕ) → P a next → Q a next) → Holds Q x
  unfolding Holds
  holds-each Q (got a next) h f = f a next h
  holds-each Q (failed g) h f = tt

module _ {A : Type 0} (P Q : A → ℕ → Type 0) where
  pub holds-both : (x : Read A) → Holds P x → Holds Q x → Holds (λ a next. P a next × Q a next) x
  unfolding Holds
  holds-both (got a next) h k = (h, k)
  holds-both (failed f) h k = tt

-- of fields one after another
module _ {A B : Type 0} (P : A → ℕ → Type 0) (Q : B → ℕ → Type 0) where
  pub holds_then : (x : Read A) (f : A → ℕ → Read B) → Holds P x → ((a : A) (n : ℕ) → P a n → Holds Q (f a n)) → Holds Q (and_then x f)
  unfolding Holds
  holds_then (got a n) f h k = k a n h
  holds_then (failed g) f h k = tt

-- two readings that agree
module _ {A E : Type 0} (a b : A) (m n : ℕ) (e : ◌≡◌ {A = Result (A × ℕ) E} (Ok (a, m)) (Ok (b, n))) where
  same_pair : ◌≡◌ {A = A × ℕ} (a, m) (b, n)
  same_pair = cc

  pub same_value : a ≡ b
  same_value = ap (λ (p : A × ℕ). p.0) same_pair

  pub same_next : m ≡ n
  same_next = ap (λ (p : A × ℕ). p.1) same_pair

-- a field that was read, and what came after it
pub then-got : {A B : Type 0} (x : Read A) (f : A → ℕ → Read B) (b : B) (n : ℕ) → and_then x f ≡ got b n
    → (a : A) × (k : ℕ) × (x ≡ got a k) × (f a k ≡ got b n)
then-got (got a k) f b n e = (a, k, refl, e)
then-got (failed g) f b n e = absurd (let z : ◌≡◌ {A = ℕ} 0 1 = cc in omega arith)
