-- The bytes of a string of which each is in a range.
use Prim.Native.Nat.{ℕ, zero, suc, ◌≤◌, ◌<◌}
use native.Mathlib.Omega.{arith}
use mathlib.Core.Path.{◌≡◌}
use mathlib.Core.List.{List, [], ◌∷◌}
use mathlib.Core.Bool.{true, ◌&&◌}
use lib.Dec.{leb}
use lib.ListN.{length, get_or}
use borrow.Author.Tests.{leb-true}
use Rattle.handshake.specs.Bytes.{within}
use Rattle.lists.proofs.Cases.{and_first, and_second}

-- the first byte of such a string, and the others
pub within-head : (lo hi b : ℕ) (s : List ℕ) → within lo hi (b ∷ s) ≡ true → (lo ≤ b) × (b ≤ hi)
unfolding within
within-head lo hi b s w =
    let h = and_first (leb lo b && leb b hi) (within lo hi s) w in
    (leb-true lo b (and_first (leb lo b) (leb b hi) h), leb-true b hi (and_second (leb lo b) (leb b hi) h))

pub within-tail : (lo hi b : ℕ) (s : List ℕ) → within lo hi (b ∷ s) ≡ true → within lo hi s ≡ true
unfolding within
within-tail lo hi b s w = and_second (leb lo b && leb b hi) (within lo hi s) w

-- a byte of such a string
pub within-at : (lo hi : ℕ) (s : List ℕ) (i : ℕ) → within lo hi s ≡ true → i < length s → (lo ≤ get_or s i 0) × (get_or s i 0 ≤ hi)
within-at lo hi [] i w h = omega arith
within-at lo hi (b ∷ s) zero w h = within-head lo hi b s w
within-at lo hi (b ∷ s) (suc i) w h = within-at lo hi s i (within-tail lo hi b s w) (omega arith)
