-- Which refusals are answered as errors of the protocol.
use Prim.Native.Nat.{ℕ}
use mathlib.Core.Path.{◌≡◌}
use mathlib.Core.Bool.{false}
use borrow.Author.Tests.{ne_eqb}
use Rattle.session.specs.Answers.{is_protocol_error}

pub no-error : (n : ℕ) → (n ≡ 20 → ⊥) → (n ≡ 21 → ⊥) → (n ≡ 23 → ⊥) → (n ≡ 24 → ⊥) → (n ≡ 25 → ⊥) → (n ≡ 27 → ⊥) → (n ≡ 28 → ⊥)
    → (n ≡ 30 → ⊥) → false ≡ is_protocol_error n
unfolding is_protocol_error
no-error n a b c d e f g h =
    rw (ne_eqb n 20 a, ne_eqb n 21 b, ne_eqb n 23 c, ne_eqb n 24 d, ne_eqb n 25 e, ne_eqb n 27 f, ne_eqb n 28 g, ne_eqb n 30 h)
