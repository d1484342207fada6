-- The line of a reply of some bytes, and of none.
use native.Mathlib.Omega.{arith}
use mathlib.Core.Path.{◌≡◌, refl}
use mathlib.Core.List.{List, [], ◌∷◌}
use Prim.Native.Nat.{ℕ}
use lib.ListN.{length}
use Rattle.handshake.specs.Bytes.{ascii}
use Rattle.text.specs.Text.{hex, line}
use Rattle.listing.specs.ReplyLines.{reply_line}

pub no_reply : (reply : List ℕ) → length reply ≡ 0 → [] ≡ reply_line reply
unfolding reply_line
no_reply [] e = refl
no_reply (b ∷ s) e = absurd (omega arith)

pub some_reply : (reply : List ℕ) → (length reply ≡ 0 → ⊥) → line (ascii "reply") (hex reply ∷ []) ≡ reply_line reply
unfolding reply_line
some_reply [] f = absurd (f refl)
some_reply (b ∷ s) f = refl
