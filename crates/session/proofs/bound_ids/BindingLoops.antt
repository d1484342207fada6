-- An ID bound anew: what becomes of one binding, and the loop over the places.
use Prim.Native.Nat.{ℕ, suc, ◌+◌, ◌≤◌, ◌<◌}
use native.Mathlib.Omega.{arith}
use native.Mathlib.Numerals.{add-one}
use mathlib.Core.Path.{◌≡◌, refl, sym, ◌∙◌}
use mathlib.Core.Bool.{true, false}
use mathlib.Core.List.{List, ◌++◌, append-nil}
use lib.ListN.{length, take, drop, set, get_or, length-set, drop_of_length-le}
use lib.Seq.{take-suc-set, drop-set-lt, drop-cons, append_snoc, take_all}
use lib.Dec.{eqb}
use borrow.Author.Tests.{eq-eqb, ne_eqb}
use Rattle.lists.proofs.Cases.{cond-true, cond-false}
use Rattle.session.specs.declared.Binding.{Binding}
use Rattle.session.proofs.Basics.{blank}
use Rattle.session.specs.Session.{bound_to, unbind, bind_to, rebind, rebind_from}

pub rebind-here : (i place id : ℕ) (b : Binding) → i ≡ place → bind_to id b ≡ rebind i place id b
unfolding rebind
rebind-here i place id b e = sym (cond-true (eqb i place) (bind_to id b) _ (eq-eqb i place e))

pub rebind-lost : (i place id : ℕ) (b : Binding) → (i ≡ place → ⊥) → true ≡ bound_to id b → unbind b ≡ rebind i place id b
unfolding rebind
rebind-lost i place id b e f =
    sym (cond-false (eqb i place) (bind_to id b) _ (ne_eqb i place e) ∙ cond-true (bound_to id b) (unbind b) b (sym f))

pub rebind-kept : (i place id : ℕ) (b : Binding) → (i ≡ place → ⊥) → false ≡ bound_to id b → b ≡ rebind i place id b
unfolding rebind
rebind-kept i place id b e f =
    sym (cond-false (eqb i place) (bind_to id b) _ (ne_eqb i place e) ∙ cond-false (bound_to id b) (unbind b) b (sym f))

pub record Rebinding (place id : ℕ) (bs₀ bs : List Binding) (i : ℕ) : Type 0 where
  pub long : length bs ≡ 8
  pub within : i ≤ 8
  pub rest : rebind_from 0 place id bs₀ ≡ take i bs ++ rebind_from i place id (drop i bs)

pub rebind-start : (place id : ℕ) (bs : List Binding) → length bs ≡ 8 → Rebinding place id bs bs 0
rebind-start place id bs l = record { long = l; within = omega arith; rest = refl }

module _ {place id : ℕ} {bs₀ bs : List Binding} {i : ℕ} (r : Rebinding place id bs₀ bs i) where
  pub rebind-next : (b : Binding) → i < 8 → b ≡ rebind i place id (get_or bs i blank)
      → Rebinding place id bs₀ (set bs i b) (i + 1)
  unfolding rebind_from
  rebind-next b l e =
      let h : i < length bs = omega (arith, r.long) in
      record {
        long = length-set bs i b ∙ r.long;
        within = omega arith;
        rest =
            r.rest
            ∙ rw (drop-cons bs i blank h, ← e, add-one, take-suc-set bs i b h, drop-set-lt (suc i) bs i b (omega arith))
            (sym (append_snoc (take i bs) b (rebind_from (suc i) place id (drop (suc i) bs))));
      }

  pub rebind-end : 8 ≤ i → bs ≡ rebind_from 0 place id bs₀
  unfolding rebind_from
  rebind-end l =
      let h : length bs ≤ i = omega (arith, r.long) in
      sym (r.rest ∙ rw (drop_of_length-le bs h, take_all i bs h) (append-nil bs))
