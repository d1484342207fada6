-- With which numbers a session can be closed past the handshake.
use Prim.Native.Nat.{ℕ, ◌≤◌, ◌<◌}
use mathlib.Core.Path.{◌≡◌, sym}
use mathlib.Core.Bool.{false}
use lib.Dec.{leb}
use borrow.Author.Tests.{ne_eqb, le-leb, lt-leb}
use Rattle.session_soundness.specs.Sound.{refuses_opening, is_closing}

pub closing-message : (n : ℕ) → (n ≡ 0 → ⊥) → false ≡ refuses_opening n → 10 ≤ n → 15 < n → 20 ≤ n → leb n 30 ≡ is_closing n
unfolding is_closing
closing-message n z o l m k = rw (ne_eqb n 0 z, ← o, le-leb 10 n l, lt-leb n 15 m, le-leb 20 n k)
