-- Bytes at the front of an array, with zeros behind them: the list gives the array back.
use Rattle.std.specs.Prelude.{ℕ, zero, suc, ◌≤◌, ◌≡◌, refl, List, [], ◌∷◌, length, take}
use mathlib.Core.Path.{sym, ap, ◌∙◌, subst}
use lib.Seq.{length-take-le}
use Rattle.lists.specs.Lists.{pad_to}

-- n places hold the first `len` of them, and zeros behind
abbrev pub Padded : ℕ → List ℕ → ℕ → Type 0
Padded n bytes len = (len ≤ n) × (bytes ≡ pad_to n (take len bytes))

pub pad_size : (n : ℕ) (xs : List ℕ) → length (pad_to n xs) ≡ n
unfolding pad_to
pad_size zero xs = refl
pad_size (suc n) [] = ap suc (pad_size n [])
pad_size (suc n) (x ∷ xs) = ap suc (pad_size n xs)

pub padded_size : (n : ℕ) (bytes : List ℕ) (len : ℕ) → Padded n bytes len → length (take len bytes) ≡ len
padded_size n bytes len p = length-take-le len bytes (subst (λ (k : ℕ). len ≤ k) (sym (ap length p.1 ∙ pad_size n (take len bytes))) p.0)
