-- The lines of bound IDs and previous IDs, one place after the other.
use Prim.Native.Nat.{ℕ, suc, ◌+◌, ◌<◌}
use native.Mathlib.Omega.{arith}
use native.Mathlib.Numerals.{add-one}
use mathlib.Core.Path.{◌≡◌, refl, sym, ap, ◌∙◌}
use mathlib.Core.List.{List, [], ◌∷◌, ◌++◌, append_assoc, append-nil}
use lib.ListN.{length, take, get_or}
use lib.Seq.{take-suc, length-take-le}
use Rattle.session.specs.declared.Binding.{Binding}
use Rattle.wire.specs.declared.writer.Writer.{Writer}
use Rattle.wire.specs.Writing.{Writes}
use Rattle.wire.proofs.Writing.{writes-joined, writes-as, writes-nothing}
use Rattle.dump.specs.RecordLines.{binding_lines, bindings_lines}

bindings-snoc : (place : ℕ) (bs : List Binding) (b : Binding) → bindings_lines place (bs ++ (b ∷ [])) ≡ bindings_lines place bs ++ binding_lines (place + length bs) b
unfolding bindings_lines
bindings-snoc place [] b = let e : place + 0 ≡ place = omega arith in rw e (append-nil (binding_lines place b))
bindings-snoc place (a ∷ bs) b =
    let e : place + suc (length bs) ≡ place + 1 + length bs = omega arith in
    rw (e, bindings-snoc (place + 1) bs b) (sym (append_assoc (binding_lines place a) (bindings_lines (place + 1) bs) (binding_lines (place + 1 + length bs) b)))

bindings-nil : (place : ℕ) → bindings_lines place [] ≡ []
unfolding bindings_lines
bindings-nil place = refl

-- the lines of the first i are put
abbrev pub Bound : List Binding → Writer → Writer → ℕ → Type 0
Bound bs a b i = Writes (bindings_lines 0 (take i bs)) a b

pub bound-start : (bs : List Binding) (a : Writer) → Bound bs a a 0
bound-start bs a = writes-as (sym (bindings-nil 0)) (writes-nothing a)

pub bound-turn : (bs : List Binding) {a b c : Writer} (i : ℕ) → Bound bs a b i → (d : Binding) → i < length bs
    → Writes (binding_lines i (get_or bs i d)) b c → Bound bs a c (i + 1)
bound-turn bs i p d h q =
    let j : 0 + length (take i bs) ≡ i = omega (arith, length-take-le i bs (omega arith)) in
    rw add-one
    (writes-as
    (sym (ap (bindings_lines 0) (take-suc bs i d h) ∙ bindings-snoc 0 (take i bs) (get_or bs i d) ∙ ap (λ (n : ℕ). bindings_lines 0 (take i bs) ++ binding_lines n (get_or bs i d)) j))
    (writes-joined p q))
