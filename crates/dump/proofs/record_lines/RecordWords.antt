-- The unfinished bytes among those of the buffer.
use Prim.Native.Nat.{ℕ}
use mathlib.Core.Path.{◌≡◌, ap}
use mathlib.Core.List.{List, [], ◌∷◌}
use lib.ListN.{length, take}
use borrow.Author.Rules.{rules}
use Rattle.session.specs.declared.Session.{Session}
use Rattle.session.specs.Session.{unfinished}
use Rattle.session.proofs.Unfinished.{first-unfinished, limit-within, limit-length}
use Rattle.text.specs.Text.{hex_or_none, spaced}
use Rattle.wire.specs.declared.writer.Writer.{Writer}
use Rattle.wire.specs.Writing.{Writes}
use Rattle.wire.proofs.Writing.{writes-as}

pub unfinished-part : {a b : Writer} (s : Session) (n : ℕ) → length s.buffer ≡ 1032 → n ≡ length (unfinished s)
    → Writes (spaced (hex_or_none (take n s.buffer) ∷ [])) a b → Writes (spaced (hex_or_none (unfinished s) ∷ [])) a b
unfinished-part s n l e w = writes-as (ap (λ (b : List ℕ). spaced (hex_or_none b ∷ [])) (first-unfinished s l n e)) w

pub ruleset unfinishing = (rules, limit-within, limit-length, unfinished-part)
