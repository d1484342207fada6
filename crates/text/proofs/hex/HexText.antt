-- Bytes in hex put into a room: a digit, and the loop over the bytes.
use Prim.Native.Nat.{ℕ, ◌+◌, ◌/◌, ◌%◌, ◌≤◌, ◌<◌}
use native.Mathlib.Omega.{arith}
use native.Mathlib.Numerals.{add-one}
use mathlib.Core.Path.{◌≡◌, refl, sym, ap, ◌∙◌}
use mathlib.Core.List.{List, [], ◌∷◌, ◌++◌}
use lib.ListN.{length, take, get_or}
use lib.Seq.{take-suc, take_all}
use borrow.Author.Tests.{lt-ltb, le-ltb}
use Rattle.text.specs.Text.{hex_digit, hex}
use Rattle.wire.specs.declared.writer.Writer.{Writer}
use Rattle.wire.specs.Writing.{Writes}
use Rattle.wire.proofs.Writing.{writes-joined, writes-as, writes-nothing}

hex-snoc : (s : List ℕ) (b : ℕ) → hex (s ++ (b ∷ [])) ≡ hex s ++ (hex_digit (b / 16) ∷ hex_digit (b % 16) ∷ [])
unfolding hex
hex-snoc [] b = refl
hex-snoc (a ∷ s) b = ap (λ (l : List ℕ). hex_digit (a / 16) ∷ hex_digit (a % 16) ∷ l) (hex-snoc s b)

hex-nil : hex [] ≡ []
unfolding hex
hex-nil = refl

abbrev pub Hexing : List ℕ → Writer → Writer → ℕ → Type 0
Hexing bytes u v i = Writes (hex (take i bytes)) u v

pub hex_start : (bytes : List ℕ) (u : Writer) → Hexing bytes u u 0
hex_start bytes u = writes-as (sym hex-nil) (writes-nothing u)

module _ {u v : Writer} (bytes : List ℕ) (i : ℕ) (p : Hexing bytes u v i) where
  pub hex_turn : (pair : List ℕ) {x : Writer} → pair ≡ hex_digit (get_or bytes i 0 / 16) ∷ hex_digit (get_or bytes i 0 % 16) ∷ []
      → i < length bytes → Writes pair v x → Hexing bytes u x (i + 1)
  hex_turn pair e h w = rw add-one (writes-as (rw (take-suc bytes i 0 h, hex-snoc (take i bytes) (get_or bytes i 0), e)) (writes-joined p w))
