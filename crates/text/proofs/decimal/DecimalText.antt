-- Signed numbers put into a room.
use Prim.Native.Nat.{ℕ, suc}
use native.Mathlib.Omega.{arith}
use mathlib.Core.Path.{◌≡◌, refl}
use mathlib.Core.Bool.{true, false}
use mathlib.Core.List.{List, [], ◌∷◌}
use lib.IntN.{ℤ, pos, negsuc, nat_abs}
use lib.Signed.{lt_z}
use borrow.Author.Tests.{lt-leb}
use mir.Syntax.{w32}
use mir.Facts.{to_z-of_z}
use mir.Val.{SFits, to_z, of_z}
use Rattle.lists.proofs.Cases.{never}
use Rattle.handshake.specs.Bytes.{decimal}
use Rattle.text.specs.Text.{signed}
use Rattle.wire.specs.declared.writer.Writer.{Writer}
use Rattle.wire.specs.Writing.{Writes}
use Rattle.wire.proofs.Writing.{writes-joined, writes-as}

pos-signed : (n : ℤ) → lt_z n (pos 0) ≡ false → decimal (nat_abs n) ≡ signed n
unfolding signed
pos-signed (pos i) h = refl
pos-signed (negsuc i) h = never refl h

neg-signed : (n : ℤ) → lt_z n (pos 0) ≡ true → 45 ∷ decimal (nat_abs n) ≡ signed n
unfolding signed
neg-signed (pos i) h = never h (lt-leb (suc i) 0 (omega arith))
neg-signed (negsuc i) h = refl

module _ (n : ℤ) (f : SFits w32 n) (m : ℕ) (held : m ≡ nat_abs (to_z w32 (of_z w32 n))) where
  e : m ≡ nat_abs n
  e = rw (to_z-of_z f) at held

  pub signed_high : {u v : Writer} → lt_z (to_z w32 (of_z w32 n)) (pos 0) ≡ false → Writes (decimal m) u v → Writes (signed n) u v
  signed_high h p = writes-as (rw e (pos-signed n (rw (to_z-of_z f) at h))) p

  pub signed_low : {u v x : Writer} → lt_z (to_z w32 (of_z w32 n)) (pos 0) ≡ true → Writes (45 ∷ []) u v → Writes (decimal m) v x → Writes (signed n) u x
  signed_low h p q = writes-as (rw e (neg-signed n (rw (to_z-of_z f) at h))) (writes-joined p q)
