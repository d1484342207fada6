-- What each change of a connection, and a table put into the store, keeps of soundness.
use Prim.Native.Nat.{ℕ, ◌+◌, ◌-◌, ◌≤◌, ◌<◌}
use native.Mathlib.Omega.{arith}
use mathlib.Core.Path.{◌≡◌, refl, sym, ap, ◌∙◌, subst}
use mathlib.Core.Logic.{⊎_elim}
use mathlib.Core.Bool.{true, false}
use mathlib.Core.List.{List}
use lib.ListN.{length, set}
use lib.Dec.{eqb, leb}
use lib.Seq.{set_out, get_or-set_same, get_or-set_other}
use Rattle.lists.proofs.Cases.{by-test, never, and_first, and_second, and_intro, or-true, or-false, lt-or-le, eq-or-ne}
use Rattle.store.specs.declared.Table.{Table}
use Rattle.store.specs.Store.{table_held, no_table}
use Rattle.session.specs.declared.Binding.{Binding}
use Rattle.session.specs.declared.Connection.{Connection}
use Rattle.session.specs.declared.Sending.{Sending}
use Rattle.session.specs.Session.{is_closed, local_name, remote_name, is_bound, is_updated, bound_to, binding_at, closed_with, establish, make_current, with_state, with_tables, unbind, bind_to, bind, commit_to, committed}
use Rattle.session_soundness.specs.Sound.{is_closing, defined_ok, sending_ok}
use Rattle.session.proofs.CurrentTable.{current-within}
use Rattle.session.proofs.Shapes.{current-limit}
use Rattle.session.proofs.Bindings.{bound-here, bound-only, bind-cases, commit-cases}
use Rattle.session_soundness.proofs.Facts.{held_at, SoundConnection, bound-to-id}

-- ---- the store

-- held tables stay held
pub held_keeps : {ts us : List Table} {c : Connection} → ((i : ℕ) → held_at ts i ≡ true → held_at us i ≡ true) → SoundConnection ts c
    → SoundConnection us c
held_keeps f s =
    record {
      phase = s.phase;
      closed = s.closed;
      closed_number = s.closed_number;
      open_number = s.open_number;
      local_length = s.local_length;
      remote_length = s.remote_length;
      local = s.local;
      remote = s.remote;
      bound_flag = s.bound_flag;
      updated_flag = s.updated_flag;
      bound_held = λ i t. f i (s.bound_held i t);
      updated_held = λ i t. f i (s.updated_held i t);
      once = s.once;
      current_limit = s.current_limit;
      current_held = λ p e. f p (s.current_held p e);
      current_bound = s.current_bound;
    }

pub sending-keeps : (ts us : List Table) (x : Sending) → ((i : ℕ) → held_at ts i ≡ true → held_at us i ≡ true) → sending_ok ts x ≡ true → sending_ok us x ≡ true
unfolding sending_ok defined_ok
sending-keeps ts us x f h =
    let none = eqb x.defined 0 in
    let within = leb x.defined 8 in
    let held = held_at ts (x.defined - 1) in
    and_intro (leb x.sent 1) _ (and_first (leb x.sent 1) _ h)
    (by-test none
    (λ z. or-true none _ z)
    (λ z.
    let k = sym (or-false none _ z) ∙ and_second (leb x.sent 1) _ h in
    or-false none _ z ∙ and_intro within _ (and_first within held k) (f (x.defined - 1) (and_second within held k))))

pub put-held : (ts : List Table) (place : ℕ) (t : Table) → table_held t ≡ true → (i : ℕ) → held_at ts i ≡ true → held_at (set ts place t) i ≡ true
put-held ts place t h i k =
    ⊎_elim
    (λ e.
    ⊎_elim
    (λ l. subst (λ (n : ℕ). held_at (set ts place t) n ≡ true) (sym e) (ap table_held (get_or-set_same ts place t no_table l) ∙ h))
    (λ l. ap (λ (us : List Table). held_at us i) (set_out ts place t l) ∙ k)
    (lt-or-le place (length ts)))
    (λ g. ap table_held (get_or-set_other ts place i t no_table g) ∙ k)
    (eq-or-ne i place)

-- a table put at a place
pub put_keeps : {ts : List Table} {c : Connection} (place : ℕ) (t : Table) → table_held t ≡ true → SoundConnection ts c
    → SoundConnection (set ts place t) c
put_keeps {ts} place t h s = held_keeps (put-held ts place t h) s

-- ---- the connection

module _ {tables : List Table} {c : Connection} (s : SoundConnection tables c) where
  -- another phase, and open or closed with a number: all else stays
  state-keeps : (phase closed number : ℕ) → phase ≤ 2 → closed ≤ 1 → (eqb closed 1 ≡ true → is_closing number ≡ true)
      → (eqb closed 1 ≡ false → number ≡ 0) → SoundConnection tables (with_state c phase closed number)
  unfolding binding_at local_name remote_name is_closed
  state-keeps phase closed number p k f g =
      record {
        phase = p;
        closed = k;
        closed_number = f;
        open_number = g;
        local_length = s.local_length;
        remote_length = s.remote_length;
        local = s.local;
        remote = s.remote;
        bound_flag = s.bound_flag;
        updated_flag = s.updated_flag;
        bound_held = s.bound_held;
        updated_held = s.updated_held;
        once = s.once;
        current_limit = s.current_limit;
        current_held = s.current_held;
        current_bound = s.current_bound;
      }

  pub close-keeps : (n : ℕ) → is_closing n ≡ true → SoundConnection tables (closed_with c n)
  unfolding closed_with
  close-keeps n h = state-keeps c.phase 1 n s.phase (omega arith) (λ t. h) (λ t. never refl t)

  pub establish-keeps : SoundConnection tables (establish c)
  unfolding establish is_closed
  establish-keeps = state-keeps 2 c.closed c.number (omega arith) s.closed s.closed_number s.open_number

  -- what is to be shown of another current table and other bindings: all else stays
  record SoundTables (d : Connection) : Type 0 where
    bound_flag : (i : ℕ) → (binding_at d i).bound ≤ 1
    updated_flag : (i : ℕ) → (binding_at d i).updated ≤ 1
    bound_held : (i : ℕ) → is_bound (binding_at d i) ≡ true → held_at tables i ≡ true
    updated_held : (i : ℕ) → is_updated (binding_at d i) ≡ true → held_at tables i ≡ true
    once : (i j n : ℕ) → bound_to n (binding_at d i) ≡ true → bound_to n (binding_at d j) ≡ true → i ≡ j
    current_limit : d.current ≤ 8
    current_held : (p : ℕ) → d.current ≡ p + 1 → held_at tables p ≡ true
    current_bound : (p : ℕ) → d.current ≡ p + 1 → is_bound (binding_at d p) ≡ true

  tables-keep : (n : ℕ) (bs : List Binding) → SoundTables (with_tables c n bs) → SoundConnection tables (with_tables c n bs)
  unfolding with_tables local_name remote_name is_closed
  tables-keep n bs t =
      record {
        phase = s.phase;
        closed = s.closed;
        closed_number = s.closed_number;
        open_number = s.open_number;
        local_length = s.local_length;
        remote_length = s.remote_length;
        local = s.local;
        remote = s.remote;
        bound_flag = t.bound_flag;
        updated_flag = t.updated_flag;
        bound_held = t.bound_held;
        updated_held = t.updated_held;
        once = t.once;
        current_limit = t.current_limit;
        current_held = t.current_held;
        current_bound = t.current_bound;
      }

  -- another current table
  pub current-keeps : (place : ℕ) → place < 8 → is_bound (binding_at c place) ≡ true → SoundConnection tables (make_current c place)
  unfolding make_current with_tables binding_at
  current-keeps place l b =
      let m = current-within place l in
      tables-keep _ _ (record {
        bound_flag = s.bound_flag;
        updated_flag = s.updated_flag;
        bound_held = s.bound_held;
        updated_held = s.updated_held;
        once = s.once;
        current_limit = current-limit place;
        current_held = λ p e. let q : place ≡ p = omega arith in subst (λ (n : ℕ). held_at tables n ≡ true) q (s.bound_held place b);
        current_bound = λ p e. let q : place ≡ p = omega arith in subst (λ (n : ℕ). is_bound (binding_at c n) ≡ true) q b;
      })

  -- an ID bound to a held table
  module _ (place id : ℕ) (l : place < 8) (long : length c.bindings ≡ 8) (held : held_at tables place ≡ true) where
    at : (P : Binding → Type 0) (i : ℕ)
        → (i ≡ place → P (bind_to id (binding_at c place)))
        → ((i ≡ place → ⊥) → P (unbind (binding_at c i)))
        → ((i ≡ place → ⊥) → P (binding_at c i))
        → P (binding_at (bind c place id) i)
    at P i = bind-cases c place id P i (λ e. omega arith)

    here-held : (i : ℕ) → i ≡ place → held_at tables i ≡ true
    here-held i e = ap (held_at tables) e ∙ held

    bind-bound-flag : (i : ℕ) → (binding_at (bind c place id) i).bound ≤ 1
    unfolding bind_to unbind
    bind-bound-flag i = at (λ (b : Binding). b.bound ≤ 1) i (λ e. omega arith) (λ g. omega arith) (λ g. s.bound_flag i)

    bind-updated-flag : (i : ℕ) → (binding_at (bind c place id) i).updated ≤ 1
    unfolding bind_to unbind
    bind-updated-flag i = at (λ (b : Binding). b.updated ≤ 1) i (λ e. s.updated_flag place) (λ g. s.updated_flag i) (λ g. s.updated_flag i)

    bind-bound-held : (i : ℕ) → is_bound (binding_at (bind c place id) i) ≡ true → held_at tables i ≡ true
    unfolding is_bound unbind
    bind-bound-held i =
        at (λ (b : Binding). is_bound b ≡ true → held_at tables i ≡ true) i (λ e t. here-held i e) (λ g t. never t refl) (λ g. s.bound_held i)

    bind-updated-held : (i : ℕ) → is_updated (binding_at (bind c place id) i) ≡ true → held_at tables i ≡ true
    unfolding is_updated unbind
    bind-updated-held i =
        at (λ (b : Binding). is_updated b ≡ true → held_at tables i ≡ true) i (λ e t. here-held i e) (λ g. s.updated_held i) (λ g. s.updated_held i)

    -- an ID of another table is one that it had
    others-had : (n i : ℕ) → (i ≡ place → ⊥) → bound_to n (binding_at (bind c place id) i) ≡ true → bound_to n (binding_at c i) ≡ true
    unfolding bound_to is_bound unbind
    others-had n i g =
        at (λ (b : Binding). bound_to n b ≡ true → bound_to n (binding_at c i) ≡ true) i (λ e. absurd (g e)) (λ g t. never t refl) (λ g t. t)

    -- and this table has only the one bound
    here-only : (n : ℕ) → bound_to n (binding_at (bind c place id) place) ≡ true → id ≡ n
    unfolding bind_to
    here-only n t =
        bound-to-id n (bind_to id (binding_at c place)) (ap (bound_to n) (sym (bound-here c place id (omega arith))) ∙ t)

    one_place : (n i : ℕ) → (i ≡ place → ⊥) → bound_to n (binding_at (bind c place id) i) ≡ true
        → bound_to n (binding_at (bind c place id) place) ≡ true → ⊥
    one_place n i g t u =
        never t (ap (λ (m : ℕ). bound_to m (binding_at (bind c place id) i)) (sym (here-only n u)) ∙ bound-only c place id i g)

    bind-once : (i j n : ℕ) → bound_to n (binding_at (bind c place id) i) ≡ true → bound_to n (binding_at (bind c place id) j) ≡ true → i ≡ j
    bind-once i j n t u =
        ⊎_elim
        (λ e.
        ⊎_elim
        (λ f. e ∙ sym f)
        (λ f. absurd (one_place n j f u (subst (λ (k : ℕ). bound_to n (binding_at (bind c place id) k) ≡ true) e t)))
        (eq-or-ne j place))
        (λ e.
        ⊎_elim
        (λ f. absurd (one_place n i e t (subst (λ (k : ℕ). bound_to n (binding_at (bind c place id) k) ≡ true) f u)))
        (λ f. s.once i j n (others-had n i e t) (others-had n j f u))
        (eq-or-ne j place))
        (eq-or-ne i place)

    bind-current : (bind c place id).current ≡ place + 1
    unfolding bind with_tables
    bind-current = sym (current-within place l)

    bind-current-bound : is_bound (binding_at (bind c place id) place) ≡ true
    unfolding is_bound bind_to
    bind-current-bound = ap is_bound (bound-here c place id (omega arith))

    pub bind-keeps : SoundConnection tables (bind c place id)
    unfolding bind with_tables
    bind-keeps =
        tables-keep _ _ (record {
          bound_flag = bind-bound-flag;
          updated_flag = bind-updated-flag;
          bound_held = bind-bound-held;
          updated_held = bind-updated-held;
          once = bind-once;
          current_limit = current-limit place;
          current_held = λ p e. let q : place ≡ p = omega (arith, bind-current) in subst (λ (n : ℕ). held_at tables n ≡ true) q held;
          current_bound =
              λ p e.
              let q : place ≡ p = omega (arith, bind-current) in
              subst (λ (n : ℕ). is_bound (binding_at (bind c place id) n) ≡ true) q bind-current-bound;
        })

  -- an update committed to a held table
  module _ (place update : ℕ) (l : place < length c.bindings) (held : held_at tables place ≡ true) where
    there : (P : Binding → Type 0) (i : ℕ) → (i ≡ place → P (commit_to update (binding_at c place))) → ((i ≡ place → ⊥) → P (binding_at c i))
        → P (binding_at (committed c place update) i)
    there P i = commit-cases c place update P i (λ e. l)

    commit-bound-flag : (i : ℕ) → (binding_at (committed c place update) i).bound ≤ 1
    unfolding commit_to
    commit-bound-flag i = there (λ (b : Binding). b.bound ≤ 1) i (λ e. s.bound_flag place) (λ g. s.bound_flag i)

    commit-updated-flag : (i : ℕ) → (binding_at (committed c place update) i).updated ≤ 1
    unfolding commit_to
    commit-updated-flag i = there (λ (b : Binding). b.updated ≤ 1) i (λ e. omega arith) (λ g. s.updated_flag i)

    -- a bound ID stays where it was
    commit-had : (n i : ℕ) → bound_to n (binding_at (committed c place update) i) ≡ bound_to n (binding_at c i)
    unfolding bound_to is_bound commit_to
    commit-had n i =
        there (λ (b : Binding). bound_to n b ≡ bound_to n (binding_at c i)) i (λ e. ap (λ (k : ℕ). bound_to n (binding_at c k)) (sym e)) (λ g. refl)

    commit-bound : (i : ℕ) → is_bound (binding_at (committed c place update) i) ≡ is_bound (binding_at c i)
    unfolding is_bound commit_to
    commit-bound i =
        there (λ (b : Binding). is_bound b ≡ is_bound (binding_at c i)) i (λ e. ap (λ (k : ℕ). is_bound (binding_at c k)) (sym e)) (λ g. refl)

    commit-updated-held : (i : ℕ) → is_updated (binding_at (committed c place update) i) ≡ true → held_at tables i ≡ true
    commit-updated-held i =
        there (λ (b : Binding). is_updated b ≡ true → held_at tables i ≡ true) i (λ e t. ap (held_at tables) e ∙ held) (λ g. s.updated_held i)

    pub commit-keeps : SoundConnection tables (committed c place update)
    unfolding committed with_tables
    commit-keeps =
        tables-keep _ _ (record {
          bound_flag = commit-bound-flag;
          updated_flag = commit-updated-flag;
          bound_held = λ i t. s.bound_held i (sym (commit-bound i) ∙ t);
          updated_held = commit-updated-held;
          once = λ i j n t u. s.once i j n (sym (commit-had n i) ∙ t) (sym (commit-had n j) ∙ u);
          current_limit = s.current_limit;
          current_held = s.current_held;
          current_bound = λ p e. commit-bound p ∙ s.current_bound p e;
        })
