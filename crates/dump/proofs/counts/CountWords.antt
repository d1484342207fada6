-- One number after the other.
use Prim.Native.Nat.{ℕ, suc, ◌+◌, ◌<◌}
use native.Mathlib.Numerals.{add-one}
use mathlib.Core.Path.{◌≡◌, sym, ap, ◌∙◌}
use mathlib.Core.List.{List, [], ◌∷◌, ◌++◌, map}
use lib.ListN.{length, take, get_or}
use lib.Seq.{take-suc}
use Rattle.handshake.specs.Bytes.{decimal}
use Rattle.text.specs.Text.{spaced}
use Rattle.wire.specs.declared.writer.Writer.{Writer}
use Rattle.wire.specs.Writing.{Writes}
use Rattle.wire.proofs.Writing.{writes-as}
use Rattle.text.proofs.LineWords.{words}
use Rattle.dump.proofs.PresentValues.{map-append}

-- the first i numbers are put
abbrev pub Numbers : List ℕ → Writer → Writer → ℕ → Type 0
Numbers vs a b i = Writes (spaced (map decimal (take i vs))) a b

pub numbers-next : (vs : List ℕ) {a b c : Writer} (i : ℕ) → Numbers vs a b i → i < length vs
    → Writes (spaced (decimal (get_or vs i 0) ∷ [])) b c → Numbers vs a c (i + 1)
numbers-next vs i p h q =
    let s : map decimal (take i vs) ++ (decimal (get_or vs i 0) ∷ []) ≡ map decimal (take (suc i) vs)
    = sym (map-append decimal (take i vs) (get_or vs i 0 ∷ [])) ∙ ap (map decimal) (sym (take-suc vs i 0 h)) in
    rw add-one (writes-as (ap spaced s) (words (map decimal (take i vs)) (decimal (get_or vs i 0) ∷ []) p q))
