-- Up to four values at the front of an array of zeros.
use Prim.Native.Nat.{ℕ, zero, suc, ◌≤◌}
use native.Mathlib.Omega.{arith}
use mathlib.Core.Path.{◌≡◌, sym, ap, ◌∙◌}
use mathlib.Core.List.{List, [], ◌∷◌, ◌++◌}
use lib.ListN.{length, drop, replicate}
use Rattle.lists.specs.Lists.{pad_to}
use Rattle.lists.proofs.Bytes.{pad-nil}
use Rattle.session.specs.declared.Values.{Values}

front : (n : ℕ) (xs : List ℕ) → length xs ≤ n → xs ++ drop (length xs) (replicate n 0) ≡ pad_to n xs
unfolding pad_to
front n [] h = sym (pad-nil n)
front zero (x ∷ xs) h = absurd (omega arith)
front (suc n) (x ∷ xs) h = ap (λ (l : List ℕ). x ∷ l) (front n xs (omega arith))

pub padded : (given copied : List ℕ) → copied ≡ given → length given ≤ 4
    → ◌≡◌ {A = Values} (record { numbers = copied ++ drop (length given) (replicate 4 0); count = length given }) (record { numbers = pad_to 4 given; count = length given })
padded given copied e h = ap (λ (l : List ℕ). record { numbers = l; count = length given }) (ap (λ (l : List ℕ). l ++ drop (length given) (replicate 4 0)) e ∙ front 4 given h)
