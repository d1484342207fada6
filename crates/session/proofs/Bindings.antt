-- What stands at a place after a change of the bindings.
use Rattle.std.specs.Prelude.{Some}
use Prim.Native.Nat.{ℕ, zero, suc, ◌+◌, ◌≤◌, ◌<◌}
use native.Mathlib.Omega.{arith}
use mathlib.Core.Path.{◌≡◌, refl, sym, ap, ◌∙◌, subst}
use mathlib.Core.Logic.{⊎_elim}
use mathlib.Core.Bool.{true, false}
use mathlib.Core.List.{List, [], ◌∷◌}
use lib.ListN.{length, get_or, length-set, get_or-eq_default}
use lib.Seq.{get_or-set_same, get_or-set_other}
use Rattle.lists.proofs.Cases.{by-test, never, lt-or-le, eq-or-ne}
use Rattle.lists.proofs.Every.{get_d_any}
use Rattle.lists.proofs.Places.{first-at}
use Rattle.session.specs.declared.Binding.{Binding}
use Rattle.session.specs.declared.Connection.{Connection}
use Rattle.session.specs.Session.{is_bound, bound_to, find_bound, no_binding, binding_at, with_tables, unbind, bind_to, rebind, rebind_from, bind, commit_to, committed}
use Rattle.session.proofs.bound_ids.BindingLoops.{rebind-here, rebind-lost, rebind-kept}

-- ---- each place of the bindings after an ID was bound

pub rebind-length : (k place id : ℕ) (bs : List Binding) → length (rebind_from k place id bs) ≡ length bs
unfolding rebind_from
rebind-length k place id [] = refl
rebind-length k place id (b ∷ bs) = ap suc (rebind-length (k + 1) place id bs)

rebind-at : (k place id : ℕ) (bs : List Binding) (i : ℕ) (d : Binding) → i < length bs
    → get_or (rebind_from k place id bs) i d ≡ rebind (k + i) place id (get_or bs i d)
unfolding rebind_from
rebind-at k place id [] i d h = absurd (omega arith)
rebind-at k place id (b ∷ bs) zero d h = let e : k ≡ k + 0 = omega arith in ap (λ (n : ℕ). rebind n place id b) e
rebind-at k place id (b ∷ bs) (suc i) d h =
    let e : k + 1 + i ≡ k + suc i = omega arith in
    rebind-at (k + 1) place id bs i d (omega arith) ∙ ap (λ (n : ℕ). rebind n place id (get_or bs i d)) e

-- a place past the last is unbound and has no previous ID
pub past-last : (c : Connection) (i : ℕ) → length c.bindings ≤ i → binding_at c i ≡ no_binding
unfolding binding_at
past-last c i h = get_or-eq_default c.bindings no_binding h

pub unbound-past : (id : ℕ) → bound_to id no_binding ≡ false
unfolding bound_to is_bound no_binding
unbound-past id = refl

-- a binding within the list is the same whatever stands for those past its end
pub any-default : (c : Connection) (i : ℕ) (d : Binding) → i < length c.bindings → get_or c.bindings i d ≡ binding_at c i
unfolding binding_at
any-default c i d h = get_d_any c.bindings i d no_binding h

module _ (c : Connection) (place id : ℕ) where
  pub bind-length : length (bind c place id).bindings ≡ length c.bindings
  unfolding bind with_tables
  bind-length = rebind-length 0 place id c.bindings

  bind-at : (i : ℕ) → i < length c.bindings → binding_at (bind c place id) i ≡ rebind i place id (binding_at c i)
  unfolding bind with_tables binding_at
  bind-at i h =
      let e : 0 + i ≡ i = omega arith in
      rebind-at 0 place id c.bindings i no_binding h ∙ ap (λ (n : ℕ). rebind n place id (get_or c.bindings i no_binding)) e

  bind-past : (i : ℕ) → length c.bindings ≤ i → binding_at (bind c place id) i ≡ binding_at c i
  bind-past i h = past-last (bind c place id) i (omega (arith, bind-length)) ∙ sym (past-last c i h)

  -- the table at the place has the ID
  pub bound-here : place < length c.bindings → binding_at (bind c place id) place ≡ bind_to id (binding_at c place)
  bound-here h = bind-at place h ∙ sym (rebind-here place place id (binding_at c place) refl)

  -- another table that had it loses it
  pub bound-lost : (i : ℕ) → (i ≡ place → ⊥) → bound_to id (binding_at c i) ≡ true → binding_at (bind c place id) i ≡ unbind (binding_at c i)
  bound-lost i g t =
      ⊎_elim
      (λ l. bind-at i l ∙ sym (rebind-lost i place id (binding_at c i) g (sym t)))
      (λ l. never t (ap (bound_to id) (past-last c i l) ∙ unbound-past id))
      (lt-or-le i (length c.bindings))

  -- and all others stay
  pub bound-kept : (i : ℕ) → (i ≡ place → ⊥) → bound_to id (binding_at c i) ≡ false → binding_at (bind c place id) i ≡ binding_at c i
  bound-kept i g t =
      ⊎_elim
      (λ l. bind-at i l ∙ sym (rebind-kept i place id (binding_at c i) g (sym t)))
      (λ l. bind-past i l)
      (lt-or-le i (length c.bindings))

  -- what holds of each of the three holds at every place
  pub bind-cases : (P : Binding → Type 0) (i : ℕ) → (i ≡ place → place < length c.bindings)
      → (i ≡ place → P (bind_to id (binding_at c place)))
      → ((i ≡ place → ⊥) → P (unbind (binding_at c i)))
      → ((i ≡ place → ⊥) → P (binding_at c i))
      → P (binding_at (bind c place id) i)
  bind-cases P i h here lost kept =
      ⊎_elim
      (λ e. subst (λ (n : ℕ). P (binding_at (bind c place id) n)) (sym e) (subst P (sym (bound-here (h e))) (here e)))
      (λ g.
      by-test (bound_to id (binding_at c i))
      (λ t. subst P (sym (bound-lost i g t)) (lost g))
      (λ t. subst P (sym (bound-kept i g t)) (kept g)))
      (eq-or-ne i place)

  lost-unbound : (n : ℕ) (b : Binding) → bound_to n (unbind b) ≡ false
  unfolding bound_to is_bound unbind
  lost-unbound n b = refl

  -- no other table is bound to the ID
  pub bound-only : (i : ℕ) → (i ≡ place → ⊥) → bound_to id (binding_at (bind c place id) i) ≡ false
  bound-only i g =
      by-test (bound_to id (binding_at c i))
      (λ t. ap (bound_to id) (bound-lost i g t) ∙ lost-unbound id (binding_at c i))
      (λ t. ap (bound_to id) (bound-kept i g t) ∙ t)

-- ---- the table that an ID leads to

-- it is bound to the ID, and stands at one of the places
pub found-bound : (c : Connection) (id place : ℕ) → find_bound c id ≡ Some place → (place < length c.bindings) × (bound_to id (binding_at c place) ≡ true)
unfolding find_bound binding_at
found-bound c id place e = let f = first-at (bound_to id) c.bindings place e in (f.inside, f.passes no_binding)

-- ---- each place after a commit

module _ (c : Connection) (place update : ℕ) where
  pub commit-length : length (committed c place update).bindings ≡ length c.bindings
  unfolding committed with_tables
  commit-length = length-set c.bindings place (commit_to update (binding_at c place))

  pub committed-here : place < length c.bindings → binding_at (committed c place update) place ≡ commit_to update (binding_at c place)
  unfolding committed with_tables binding_at
  committed-here h = get_or-set_same c.bindings place (commit_to update (binding_at c place)) no_binding h

  pub committed-other : (i : ℕ) → (i ≡ place → ⊥) → binding_at (committed c place update) i ≡ binding_at c i
  unfolding committed with_tables binding_at
  committed-other i g = get_or-set_other c.bindings place i (commit_to update (binding_at c place)) no_binding g

  pub commit-cases : (P : Binding → Type 0) (i : ℕ) → (i ≡ place → place < length c.bindings)
      → (i ≡ place → P (commit_to update (binding_at c place)))
      → ((i ≡ place → ⊥) → P (binding_at c i))
      → P (binding_at (committed c place update) i)
  commit-cases P i h here other =
      ⊎_elim
      (λ e. subst (λ (n : ℕ). P (binding_at (committed c place update) n)) (sym e) (subst P (sym (committed-here (h e))) (here e)))
      (λ g. subst P (sym (committed-other i g)) (other g))
      (eq-or-ne i place)

  -- the update's ID is the table's previous one, and its bound ID stays
  pub committed-previous : place < length c.bindings → (binding_at (committed c place update) place).previous ≡ update
  unfolding commit_to
  committed-previous h = ap (λ (b : Binding). b.previous) (committed-here h)
