-- The unfinished bytes of a record, and how many they are.
use Prim.Native.Nat.{ℕ, ◌≤◌, min}
use native.Mathlib.Omega.{arith}
use mathlib.Core.Path.{◌≡◌, sym, ap, ◌∙◌}
use mathlib.Core.List.{List}
use lib.ListN.{length, take}
use lib.Seq.{length-take-le}
use Rattle.lists.specs.Lists.{pad_to}
use Rattle.session.specs.declared.Session.{Session}
use Rattle.session.specs.Session.{unfinished}

-- a length within the limit counts them
pub unfinished-within : (s : Session) → s.len ≤ 1027 → unfinished s ≡ take s.len s.buffer
unfolding unfinished
unfinished-within s l = let e : min s.len 1027 ≡ s.len = omega arith in ap (λ (n : ℕ). take n s.buffer) e

module _ (s : Session) (e : length s.buffer ≡ 1032) where
  pub how-many : (n : ℕ) → n ≡ min s.len 1027 → (n ≡ length (unfinished s)) × (n ≤ 1027)
  unfolding unfinished
  how-many n p = (p ∙ sym (length-take-le (min s.len 1027) s.buffer (omega (arith, e))), omega arith)

  -- they are the buffer's first bytes
  pub first-unfinished : (n : ℕ) → n ≡ length (unfinished s) → take n s.buffer ≡ unfinished s
  unfolding unfinished
  first-unfinished n p = ap (λ (k : ℕ). take k s.buffer) (p ∙ length-take-le (min s.len 1027) s.buffer (omega (arith, e)))

  pub buffer-padded : (n m : ℕ) (bytes : List ℕ) → n ≡ length (unfinished s) → bytes ≡ pad_to m (take n s.buffer) → bytes ≡ pad_to m (unfinished s)
  buffer-padded n m bytes p q = q ∙ ap (pad_to m) (first-unfinished n p)

-- the limit is within the buffer
module _ (xs : List ℕ) (n : ℕ) (e : length xs ≡ 1032) (h : n ≤ 1027) where
  pub limit-within : n ≤ length xs
  limit-within = omega arith

  pub limit-length : n ≡ length (take n xs)
  limit-length = sym (length-take-le n xs limit-within)
