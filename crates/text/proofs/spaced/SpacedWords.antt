-- One word put into a room with a space before it.
use Prim.Native.Nat.{ℕ}
use native.Mathlib.Omega.{arith}
use mathlib.Core.Path.{◌≡◌, refl, sym, ap}
use mathlib.Core.List.{List, [], ◌∷◌, append-nil}
use lib.IntN.{ℤ}
use lib.ListN.{length}
use mir.Syntax.{w32}
use mir.Facts.{to_z-of_z}
use mir.Val.{SFits, to_z, of_z}
use Rattle.handshake.specs.Bytes.{ascii}
use Rattle.text.specs.Text.{hex, hex_or_none, signed, spaced}
use Rattle.wire.specs.declared.writer.Writer.{Writer}
use Rattle.wire.specs.Writing.{Writes}
use Rattle.wire.proofs.Writing.{writes-joined, writes-as}

-- ---- words
pub a_word : (w : List ℕ) {u v x : Writer} → Writes (32 ∷ []) u v → Writes w v x → Writes (spaced (w ∷ [])) u x
unfolding spaced
a_word w p q = writes-as (ap (λ (l : List ℕ). 32 ∷ l) (sym (append-nil w))) (writes-joined p q)

pub a_signed : (n : ℤ) → SFits w32 n → {u v x : Writer} → Writes (32 ∷ []) u v → Writes (signed (to_z w32 (of_z w32 n))) v x → Writes (spaced (signed n ∷ [])) u x
a_signed n f p q = a_word (signed n) p (rw (to_z-of_z f) at q)

-- ---- bytes in hex, or none
module _ {u v : Writer} where
  pub no_bytes : (s : List ℕ) → length s ≡ 0 → Writes (spaced (ascii "-" ∷ [])) u v → Writes (spaced (hex_or_none s ∷ [])) u v
  unfolding hex_or_none
  no_bytes [] e w = w
  no_bytes (b ∷ s) e w = absurd (omega arith)

  pub some_bytes : (s : List ℕ) → (length s ≡ 0 → ⊥) → Writes (spaced (hex s ∷ [])) u v → Writes (spaced (hex_or_none s ∷ [])) u v
  unfolding hex_or_none
  some_bytes [] f w = absurd (f refl)
  some_bytes (b ∷ s) f w = w
