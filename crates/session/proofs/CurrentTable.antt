-- What `current` holds for a table: its place plus 1.
use Prim.Native.Nat.{ℕ, ◌+◌, ◌≤◌, ◌<◌}
use mathlib.Core.Path.{◌≡◌, sym}
use lib.Dec.{ltb}
use borrow.Author.Tests.{lt-ltb, le-ltb}
use Rattle.lists.proofs.Cases.{cond-true, cond-false}
use Rattle.session.specs.Session.{current_of}

pub current-within : (place : ℕ) → place < 8 → place + 1 ≡ current_of place
unfolding current_of
current-within place h = sym (cond-true (ltb place 8) (place + 1) 0 (lt-ltb place 8 h))

pub current-past-last : (place : ℕ) → 8 ≤ place → 0 ≡ current_of place
unfolding current_of
current-past-last place h = sym (cond-false (ltb place 8) (place + 1) 0 (le-ltb place 8 h))
