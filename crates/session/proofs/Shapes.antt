-- The changes of a connection keep its shape.
use Prim.Native.Nat.{ℕ, ◌^◌, ◌≤◌, ◌<◌}
use native.Mathlib.Omega.{arith}
use mathlib.Core.Path.{◌≡◌, ◌∙◌}
use mathlib.Core.Logic.{⊎_elim}
use mathlib.Core.List.{List}
use lib.ListN.{length, get_or}
use Rattle.lists.proofs.Cases.{lt-or-le}
use Rattle.store.proofs.Kept.{pad-cells}
use Rattle.session.specs.declared.Binding.{Binding}
use Rattle.session.specs.declared.Connection.{Connection}
use Rattle.session.specs.declared.Sending.{Sending}
use Rattle.session.specs.Session.{no_binding, binding_at, holding, closed_with, establish, with_state, with_tables, nothing_sent, current_of, make_current, unbind, bind_to, bind, commit_to, committed}
use Rattle.session.specs.Shape.{BindingShape, ConnectionShape, SendingShape, SessionShape}
use Rattle.session.proofs.CurrentTable.{current-within, current-past-last}
use Rattle.session.proofs.Bindings.{bind-length, bind-cases, commit-length, commit-cases}

pub current-limit : (place : ℕ) → current_of place ≤ 8
current-limit place = ⊎_elim (λ l. omega (arith, current-within place l)) (λ l. omega (arith, current-past-last place l)) (lt-or-le place 8)

current-small : (place : ℕ) → current_of place < 2 ^ 32
current-small place = omega (arith, current-limit place)

-- ---- a connection

module _ {c : Connection} (h : ConnectionShape c) where
  state-shape : (phase closed number : ℕ) → phase < 2 ^ 32 → closed < 2 ^ 32 → number < 2 ^ 32 → ConnectionShape (with_state c phase closed number)
  unfolding binding_at
  state-shape phase closed number p k n =
      record {
        phase = p;
        closed = k;
        number = n;
        current = h.current;
        local_length = h.local_length;
        remote_length = h.remote_length;
        local = h.local;
        remote = h.remote;
        places = h.places;
        binding = h.binding;
      }

  pub closed-shape : {n : ℕ} → n < 2 ^ 8 → ConnectionShape (closed_with c n)
  unfolding closed_with
  closed-shape l = state-shape _ _ _ h.phase (omega arith) (omega (arith, l))

  pub establish-shape : ConnectionShape (establish c)
  unfolding establish
  establish-shape = state-shape _ _ _ (omega arith) h.closed h.number

  tables-shape : (current : ℕ) (bs : List Binding) → current < 2 ^ 32 → length bs ≡ 8 → ((i : ℕ) → i < 8 → BindingShape (get_or bs i no_binding))
      → ConnectionShape (with_tables c current bs)
  unfolding with_tables binding_at
  tables-shape current bs m l f =
      record {
        phase = h.phase;
        closed = h.closed;
        number = h.number;
        current = m;
        local_length = h.local_length;
        remote_length = h.remote_length;
        local = h.local;
        remote = h.remote;
        places = l;
        binding = f;
      }

  pub current-shape : (place : ℕ) → ConnectionShape (make_current c place)
  unfolding make_current binding_at
  current-shape place = tables-shape (current_of place) c.bindings (current-small place) h.places h.binding

  bind-to-shape : {b : Binding} {id : ℕ} → BindingShape b → id < 2 ^ 32 → BindingShape (bind_to id b)
  unfolding bind_to
  bind-to-shape b l = record { bound = omega arith; updated = omega (arith, b.updated); id = l; previous = b.previous }

  unbind-shape : {b : Binding} → BindingShape b → BindingShape (unbind b)
  unfolding unbind
  unbind-shape b = record { bound = omega arith; updated = b.updated; id = omega arith; previous = b.previous }

  commit-to-shape : {b : Binding} {update : ℕ} → BindingShape b → update < 2 ^ 32 → BindingShape (commit_to update b)
  unfolding commit_to
  commit-to-shape b l = record { bound = b.bound; updated = omega arith; id = b.id; previous = l }

  bind-each : (place : ℕ) {id : ℕ} → id < 2 ^ 32 → (i : ℕ) → i < 8 → BindingShape (binding_at (bind c place id) i)
  bind-each place {id} l i m =
      bind-cases c place id BindingShape i (λ e. omega (arith, h.places))
      (λ e. bind-to-shape (h.binding place (omega arith)) l)
      (λ g. unbind-shape (h.binding i m))
      (λ g. h.binding i m)

  pub bind-shape : (place : ℕ) {id : ℕ} → id < 2 ^ 32 → ConnectionShape (bind c place id)
  unfolding bind with_tables binding_at
  bind-shape place {id} l =
      tables-shape (current_of place) (bind c place id).bindings (current-small place) (bind-length c place id ∙ h.places) (bind-each place l)

  commit-each : (place : ℕ) {update : ℕ} → update < 2 ^ 32 → (i : ℕ) → i < 8 → BindingShape (binding_at (committed c place update) i)
  commit-each place {update} l i m =
      commit-cases c place update BindingShape i (λ e. omega (arith, h.places))
      (λ e. commit-to-shape (h.binding place (omega arith)) l)
      (λ g. h.binding i m)

  pub commit-shape : (place : ℕ) {update : ℕ} → update < 2 ^ 32 → ConnectionShape (committed c place update)
  unfolding committed with_tables binding_at
  commit-shape place {update} l =
      tables-shape c.current (committed c place update).bindings h.current (commit-length c place update ∙ h.places) (commit-each place l)

  -- ---- a session with given unfinished bytes

  pub holding-shape : {x : Sending} → SendingShape x → (u : List ℕ) → length u ≤ 1027 → ((i : ℕ) → get_or u i 0 < 2 ^ 8) → SessionShape (holding x c u)
  unfolding holding
  holding-shape k u l b =
      record {
        connection = h;
        len = omega arith;
        buffer = pad-cells 1032 u b;
        sending = k;
      }

-- ---- the sending state

pub nothing-shape : SendingShape nothing_sent
unfolding nothing_sent
nothing-shape = record { defined = omega arith; sent = omega arith; last = omega arith }
