-- An integer that may have one value only.
use Prim.Native.Nat.{ℕ}
use native.Mathlib.Omega.{arith}
use mathlib.Core.Path.{◌≡◌}
use mathlib.Core.List.{List}
use lib.Dec.{eqb}
use borrow.Author.Tests.{lt-leb, le-leb, eq-eqb, ne_eqb}
use Rattle.lists.proofs.Cases.{lt-or-le, split}
use Rattle.body.specs.Fields.{integer, between}
use Rattle.body.proofs.FieldLaws.{same-integer}

-- an exact value
pub exact : (t n : ℕ) → between t t n ≡ eqb n t
unfolding between
exact t n =
    split (lt-or-le n t)
    (λ l. rw (lt-leb t n l, ne_eqb n t (omega arith)))
    (λ l.
    split (lt-or-le t n)
    (λ k. rw (le-leb t n l, lt-leb n t k, ne_eqb n t (omega arith)))
    (λ k. rw (le-leb t n l, le-leb n t k, eq-eqb n t (omega arith))))

pub exact_read : (t : ℕ) (s : List ℕ) (at : ℕ) → integer (between t t) s at ≡ integer (λ n. eqb n t) s at
exact_read t s at = same-integer (between t t) (λ n. eqb n t) (exact t) s at
