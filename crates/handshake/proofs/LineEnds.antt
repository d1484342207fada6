-- Where a line ends, and what is known of it.
use Rattle.std.specs.Prelude.{Err, Ok, Result}
use Prim.Native.Nat.{ℕ, zero, suc, ◌+◌, ◌≤◌, ◌<◌}
use native.Mathlib.Omega.{arith}
use mathlib.Core.Path.{◌≡◌, subst}
use mathlib.Core.List.{List, [], ◌∷◌}
use lib.Dec.{eqb}
use lib.ListN.{length, drop, length-drop}
use Rattle.handshake.specs.declared.LineError.{LineError}
use Rattle.handshake.specs.declared.LineError.TheVariants as line
use Rattle.handshake.specs.Handshake.{line_in, line_at}
use Rattle.lists.proofs.Cases.{by-test}

-- of a line at position at, where len bytes are there and n may stand before its LF
unfoldable pub Lined : ℕ → ℕ → ℕ → Result ℕ LineError → Type 0
Lined n at len (Ok p) = (at ≤ p) × (p ≤ at + n) × (p < at + len)
Lined n at len (Err line.Open) = len ≤ n
Lined n at len (Err line.TooLong) = Unit {0}

lined_on : (n at len : ℕ) (x : Result ℕ LineError) → Lined n (at + 1) len x → Lined (suc n) at (suc len) x
unfolding Lined
lined_on n at len (Ok p) h = omega arith
lined_on n at len (Err line.Open) h = omega arith
lined_on n at len (Err line.TooLong) h = tt

lined-in : (n at : ℕ) (s : List ℕ) → Lined n at (length s) (line_in n at s)
unfolding Lined line_in
lined-in zero at [] = omega arith
lined-in zero at (b ∷ s) = by-test (eqb b 10) (λ h. rw h (omega arith)) (λ h. rw h tt)
lined-in (suc n) at [] = omega arith
lined-in (suc n) at (b ∷ s) =
    by-test (eqb b 10)
    (λ h. rw h (omega arith))
    (λ h. rw h (lined_on n at (length s) (line_in n (at + 1) s) (lined-in n (at + 1) s)))

lined : (u : List ℕ) (at : ℕ) → Lined 64 at (length (drop at u)) (line_at u at)
unfolding line_at
lined u at = lined-in 64 at (drop at u)

pub line-ends : (u : List ℕ) (at p : ℕ) → line_at u at ≡ Ok p → (at ≤ p) × (p ≤ at + 64) × (p < length u)
unfolding Lined
line-ends u at p e =
    let h = subst (Lined 64 at (length (drop at u))) e (lined u at) in
    omega (arith, h, length-drop at u)

pub line-waits : (u : List ℕ) (at : ℕ) → line_at u at ≡ (Err line.Open) → length u ≤ at + 64
unfolding Lined
line-waits u at e =
    let h = subst (Lined 64 at (length (drop at u))) e (lined u at) in
    omega (arith, h, length-drop at u)
