-- The line of a number that is a place plus one.
use Prim.Native.Nat.{ℕ, ◌-◌}
use mathlib.Core.Path.{◌≡◌, ap}
use mathlib.Core.Bool.{cond}
use mathlib.Core.List.{List, [], ◌∷◌}
use lib.Dec.{eqb}
use Rattle.lists.proofs.Cases.{by-test}
use Rattle.handshake.specs.Bytes.{ascii, decimal}
use Rattle.text.specs.Text.{line}
use Rattle.wire.specs.declared.writer.Writer.{Writer}
use Rattle.wire.specs.Writing.{Writes}
use Rattle.wire.proofs.Writing.{writes-as}
use Rattle.dump.specs.RecordLines.{number_or_none, place_before}

number-before : (n : ℕ) → number_or_none (place_before n) ≡ cond (eqb n 0) (ascii "-") (decimal (n - 1))
unfolding number_or_none place_before
number-before n = by-test (eqb n 0) (λ y. rw y) (λ y. rw y)

pub place-line : (first : List ℕ) (n : ℕ) {a b : Writer} → Writes (line first (number_or_none (place_before n) ∷ [])) a b
    → Writes (line first (cond (eqb n 0) (ascii "-") (decimal (n - 1)) ∷ [])) a b
place-line first n w = writes-as (ap (λ l. line first (l ∷ [])) (number-before n)) w
