-- Soundness of a connection as facts, each at an index where it concerns a list, and both ways between facts and tests.
use Prim.Native.Nat.{ℕ, zero, suc, ◌+◌, ◌-◌, ◌≤◌, ◌<◌}
use native.Mathlib.Omega.{arith}
use mathlib.Core.Path.{◌≡◌, refl, sym, ap, ◌∙◌, subst}
use mathlib.Core.Logic.{⊎_elim}
use mathlib.Core.Bool.{Bool, true, false, not, ◌&&◌, ◌||◌}
use mathlib.Core.List.{List, [], ◌∷◌}
use lib.ListN.{length, get_or}
use lib.Dec.{eqb, leb}
use borrow.Author.Tests.{leb-true, le-leb, eqb-true, eq-eqb, eqb-false, not-true}
use Rattle.lists.specs.Lists.{every, distinct}
use Rattle.lists.proofs.Cases.{by-test, never, not-passed, and_first, and_second, and_intro, or-true, or-false, cond-true, cond-false, all_none, all_first, all_rest, all-intro, lt-or-le}
use Rattle.lists.proofs.Every.{every-at, every-from}
use Rattle.lists.proofs.Distinct.{distinct-at, distinct_from}
use Rattle.store.specs.declared.Table.{Table}
use Rattle.store.specs.Store.{table_held, no_table}
use Rattle.handshake.specs.Handshake.{name_ok}
use Rattle.session.specs.declared.Binding.{Binding}
use Rattle.session.specs.declared.Connection.{Connection}
use Rattle.session.specs.Session.{is_closed, local_name, remote_name, is_bound, is_updated, bound_to, no_binding, binding_at}
use Rattle.session_soundness.specs.Sound.{phase_ok, closed_ok, is_closing, number_ok, name_within, names_ok, flags_ok, no_ids, free_places_ok, same_id, current_ok, sound_connection}
use Rattle.session.proofs.Bindings.{past-last, unbound-past, any-default}

-- the table at a place is held; past the last none is
abbrev pub held_at : List Table → ℕ → Bool
held_at tables i = table_held (get_or tables i no_table)

pub record SoundConnection (tables : List Table) (c : Connection) : Type 0 where
  pub phase : c.phase ≤ 2
  pub closed : c.closed ≤ 1
  pub closed_number : is_closed c ≡ true → is_closing c.number ≡ true
  pub open_number : is_closed c ≡ false → c.number ≡ 0
  pub local_length : c.local_len ≤ 32
  pub remote_length : c.remote_len ≤ 32
  pub local : name_ok (local_name c) ≡ true
  pub remote : name_ok (remote_name c) ≡ true
  pub bound_flag : (i : ℕ) → (binding_at c i).bound ≤ 1
  pub updated_flag : (i : ℕ) → (binding_at c i).updated ≤ 1
  pub bound_held : (i : ℕ) → is_bound (binding_at c i) ≡ true → held_at tables i ≡ true
  pub updated_held : (i : ℕ) → is_updated (binding_at c i) ≡ true → held_at tables i ≡ true
  pub once : (i j id : ℕ) → bound_to id (binding_at c i) ≡ true → bound_to id (binding_at c j) ≡ true → i ≡ j
  pub current_limit : c.current ≤ 8
  pub current_held : (p : ℕ) → c.current ≡ p + 1 → held_at tables p ≡ true
  pub current_bound : (p : ℕ) → c.current ≡ p + 1 → is_bound (binding_at c p) ≡ true

-- ---- a place past the last binding has no flag set

none-bound : is_bound no_binding ≡ false
unfolding is_bound no_binding
none-bound = refl

none-updated : is_updated no_binding ≡ false
unfolding is_updated no_binding
none-updated = refl

none-flags : flags_ok no_binding ≡ true
unfolding flags_ok no_binding
none-flags = refl

-- ---- an ID bound to a table

pub bound-to-bound : (id : ℕ) (b : Binding) → bound_to id b ≡ true → is_bound b ≡ true
unfolding bound_to
bound-to-bound id b h = and_first (is_bound b) (eqb b.id id) h

pub bound-to-id : (id : ℕ) (b : Binding) → bound_to id b ≡ true → b.id ≡ id
unfolding bound_to
bound-to-id id b h = eqb-true b.id id (and_second (is_bound b) (eqb b.id id) h)

pub bound-to-own : (b : Binding) → is_bound b ≡ true → bound_to b.id b ≡ true
unfolding bound_to
bound-to-own b h = and_intro (is_bound b) (eqb b.id b.id) h (eq-eqb b.id b.id refl)

-- ---- flags

module _ (c : Connection) where
  flags-at : every flags_ok c.bindings ≡ true → (i : ℕ) → flags_ok (binding_at c i) ≡ true
  flags-at h i =
      ⊎_elim
      (λ l. ap flags_ok (sym (any-default c i no_binding l)) ∙ every-at flags_ok c.bindings no_binding i h l)
      (λ l. ap flags_ok (past-last c i l) ∙ none-flags)
      (lt-or-le i (length c.bindings))

  flags-from : ((i : ℕ) → flags_ok (binding_at c i) ≡ true) → every flags_ok c.bindings ≡ true
  flags-from f = every-from flags_ok c.bindings no_binding (λ i l. ap flags_ok (any-default c i no_binding l) ∙ f i)

flags-bound : (b : Binding) → flags_ok b ≡ true → b.bound ≤ 1
unfolding flags_ok
flags-bound b h = leb-true b.bound 1 (and_first (leb b.bound 1) (leb b.updated 1) h)

flags-updated : (b : Binding) → flags_ok b ≡ true → b.updated ≤ 1
unfolding flags_ok
flags-updated b h = leb-true b.updated 1 (and_second (leb b.bound 1) (leb b.updated 1) h)

flags-both : (b : Binding) → b.bound ≤ 1 → b.updated ≤ 1 → flags_ok b ≡ true
unfolding flags_ok
flags-both b p q = and_intro (leb b.bound 1) (leb b.updated 1) (le-leb b.bound 1 p) (le-leb b.updated 1 q)

-- ---- free places

no-ids-bound : (b : Binding) → no_ids b ≡ true → is_bound b ≡ false
unfolding no_ids
no-ids-bound b h = not-true (is_bound b) (and_first (not (is_bound b)) (not (is_updated b)) h)

no-ids-updated : (b : Binding) → no_ids b ≡ true → is_updated b ≡ false
unfolding no_ids
no-ids-updated b h = not-true (is_updated b) (and_second (not (is_bound b)) (not (is_updated b)) h)

no-ids-both : (b : Binding) → is_bound b ≡ false → is_updated b ≡ false → no_ids b ≡ true
unfolding no_ids
no-ids-both b p q = and_intro (not (is_bound b)) (not (is_updated b)) (ap not p) (ap not q)

none-no-ids : no_ids no_binding ≡ true
none-no-ids = no-ids-both no_binding none-bound none-updated

places-at : (ts : List Table) (bs : List Binding) (i : ℕ) → free_places_ok ts bs ≡ true → (held_at ts i || no_ids (get_or bs i no_binding)) ≡ true
unfolding free_places_ok
places-at ts [] i h = by-test (held_at ts i) (λ t. or-true _ _ t) (λ t. or-false _ _ t ∙ none-no-ids)
places-at [] (b ∷ bs) zero h =
    by-test (table_held no_table) (λ t. or-true _ _ t) (λ t. or-false _ _ t ∙ and_first (no_ids b) (free_places_ok [] bs) h)
places-at [] (b ∷ bs) (suc i) h = places-at [] bs i (and_second (no_ids b) (free_places_ok [] bs) h)
places-at (t ∷ ts) (b ∷ bs) zero h = and_first (table_held t || no_ids b) (free_places_ok ts bs) h
places-at (t ∷ ts) (b ∷ bs) (suc i) h = places-at ts bs i (and_second (table_held t || no_ids b) (free_places_ok ts bs) h)

none-held : table_held no_table ≡ false
unfolding table_held no_table
none-held = refl

places-from : (ts : List Table) (bs : List Binding) → ((i : ℕ) → (held_at ts i || no_ids (get_or bs i no_binding)) ≡ true) → free_places_ok ts bs ≡ true
unfolding free_places_ok
places-from ts [] f = refl
places-from [] (b ∷ bs) f =
    and_intro (no_ids b) (free_places_ok [] bs) (sym (or-false (table_held no_table) (no_ids b) none-held) ∙ f 0) (places-from [] bs (λ i. f (suc i)))
places-from (t ∷ ts) (b ∷ bs) f = and_intro (table_held t || no_ids b) (free_places_ok ts bs) (f 0) (places-from ts bs (λ i. f (suc i)))

-- an ID asks for a held table
held-for : (held : Bool) (b : Binding) → (held || no_ids b) ≡ true → (no_ids b ≡ true → ⊥) → held ≡ true
held-for held b h g = by-test held (λ t. t) (λ t. absurd (g (sym (or-false held (no_ids b) t) ∙ h)))

held-or : (held : Bool) (b : Binding) → (is_bound b ≡ true → held ≡ true) → (is_updated b ≡ true → held ≡ true) → (held || no_ids b) ≡ true
held-or held b f g =
    by-test held
    (λ t. or-true held (no_ids b) t)
    (λ t.
    or-false held (no_ids b) t
    ∙ no-ids-both b (not-passed (is_bound b) (λ e. never (f e) t)) (not-passed (is_updated b) (λ e. never (g e) t)))

-- ---- IDs bound twice

module _ (c : Connection) where
  bound-inside : (i id : ℕ) → bound_to id (binding_at c i) ≡ true → i < length c.bindings
  bound-inside i id t =
      ⊎_elim
      (λ l. l)
      (λ l. never t (ap (bound_to id) (past-last c i l) ∙ unbound-past id))
      (lt-or-le i (length c.bindings))

  same_at : (i j id : ℕ) → bound_to id (binding_at c i) ≡ true → bound_to id (binding_at c j) ≡ true → same_id (binding_at c i) (binding_at c j) ≡ true
  unfolding same_id
  same_at i j id p q =
      and_intro (is_bound (binding_at c i)) (bound_to (binding_at c i).id (binding_at c j))
      (bound-to-bound id (binding_at c i) p)
      (ap (λ (n : ℕ). bound_to n (binding_at c j)) (bound-to-id id (binding_at c i) p) ∙ q)

  same-bound : (a b : Binding) → same_id a b ≡ true → (bound_to a.id a ≡ true) × (bound_to a.id b ≡ true)
  unfolding same_id
  same-bound a b h =
      (bound-to-own a (and_first (is_bound a) (bound_to a.id b) h), and_second (is_bound a) (bound_to a.id b) h)

  apart : (h : distinct same_id c.bindings ≡ true) (i j id : ℕ) → i < j → bound_to id (binding_at c i) ≡ true → bound_to id (binding_at c j) ≡ true → ⊥
  unfolding binding_at
  apart h i j id l p q =
      never (same_at i j id p q) (distinct-at same_id c.bindings no_binding i j h l (bound-inside j id q))

  once-at : distinct same_id c.bindings ≡ true → (i j id : ℕ) → bound_to id (binding_at c i) ≡ true → bound_to id (binding_at c j) ≡ true → i ≡ j
  once-at h i j id p q =
      ⊎_elim
      (λ l. absurd (apart h i j id l p q))
      (λ l. ⊎_elim (λ m. absurd (apart h j i id m q p)) (λ m. omega arith) (lt-or-le j i))
      (lt-or-le i j)

  once-from : ((i j id : ℕ) → bound_to id (binding_at c i) ≡ true → bound_to id (binding_at c j) ≡ true → i ≡ j) → distinct same_id c.bindings ≡ true
  unfolding binding_at
  once-from f =
      distinct_from same_id c.bindings no_binding
      (λ i j l m.
      not-passed (same_id (binding_at c i) (binding_at c j))
      (λ t. let b = same-bound (binding_at c i) (binding_at c j) t in let e : i ≡ j = f i j (binding_at c i).id b.0 b.1 in omega arith))

-- ---- the current table

record Current (tables : List Table) (c : Connection) : Type 0 where
  limit : c.current ≤ 8
  held : (p : ℕ) → c.current ≡ p + 1 → held_at tables p ≡ true
  bound : (p : ℕ) → c.current ≡ p + 1 → is_bound (binding_at c p) ≡ true

module _ (tables : List Table) (c : Connection) where
  abbrev held_b : Bool
  held_b = held_at tables (c.current - 1)

  abbrev bound_b : Bool
  bound_b = is_bound (binding_at c (c.current - 1))

  current-at : current_ok tables c ≡ true → Current tables c
  unfolding current_ok
  current-at h =
      by-test (eqb c.current 0)
      (λ t.
      let z = eqb-true c.current 0 t in
      record { limit = omega arith; held = λ p e. absurd (omega arith); bound = λ p e. absurd (omega arith) })
      (λ t.
      let r = sym (or-false (eqb c.current 0) _ t) ∙ h in
      let l = and_first (leb c.current 8) (held_b && bound_b) r in
      let hb = and_second (leb c.current 8) (held_b && bound_b) r in
      record {
        limit = leb-true c.current 8 l;
        held =
            λ p e. let q : c.current - 1 ≡ p = omega arith in subst (λ (n : ℕ). held_at tables n ≡ true) q (and_first held_b bound_b hb);
        bound =
            λ p e. let q : c.current - 1 ≡ p = omega arith in subst (λ (n : ℕ). is_bound (binding_at c n) ≡ true) q (and_second held_b bound_b hb);
      })

  current-from : Current tables c → current_ok tables c ≡ true
  unfolding current_ok
  current-from k =
      by-test (eqb c.current 0)
      (λ t. or-true (eqb c.current 0) _ t)
      (λ t.
      let n = eqb-false c.current 0 t in
      let e : c.current ≡ (c.current - 1) + 1 = omega (arith, n) in
      or-false (eqb c.current 0) _ t
      ∙ and_intro (leb c.current 8) (held_b && bound_b) (le-leb c.current 8 k.limit)
      (and_intro held_b bound_b (k.held (c.current - 1) e) (k.bound (c.current - 1) e)))

-- ---- phase, number, names

module _ (c : Connection) where
  closed-number : number_ok c ≡ true → is_closed c ≡ true → is_closing c.number ≡ true
  unfolding number_ok
  closed-number h t = sym (cond-true (is_closed c) _ _ t) ∙ h

  open-number : number_ok c ≡ true → is_closed c ≡ false → c.number ≡ 0
  unfolding number_ok
  open-number h t = eqb-true c.number 0 (sym (cond-false (is_closed c) _ _ t) ∙ h)

  number-from : (is_closed c ≡ true → is_closing c.number ≡ true) → (is_closed c ≡ false → c.number ≡ 0) → number_ok c ≡ true
  unfolding number_ok
  number-from f g =
      by-test (is_closed c)
      (λ t. cond-true (is_closed c) _ _ t ∙ f t)
      (λ t. cond-false (is_closed c) _ _ t ∙ eq-eqb c.number 0 (g t))

  record Names : Type 0 where
    local_length : c.local_len ≤ 32
    remote_length : c.remote_len ≤ 32
    local : name_ok (local_name c) ≡ true
    remote : name_ok (remote_name c) ≡ true

  names_at : names_ok c ≡ true → Names
  unfolding names_ok name_within local_name remote_name
  names_at h =
      let l = and_first (name_within c.local_len c.local) _ h in
      let r = and_second (name_within c.local_len c.local) _ h in
      record {
        local_length = leb-true c.local_len 32 (and_first _ _ l);
        remote_length = leb-true c.remote_len 32 (and_first _ _ r);
        local = and_second (leb c.local_len 32) _ l;
        remote = and_second (leb c.remote_len 32) _ r;
      }

  names-from : Names → names_ok c ≡ true
  unfolding names_ok name_within local_name remote_name
  names-from n =
      and_intro (name_within c.local_len c.local) (name_within c.remote_len c.remote)
      (and_intro _ _ (le-leb c.local_len 32 n.local_length) n.local)
      (and_intro _ _ (le-leb c.remote_len 32 n.remote_length) n.remote)

  phase-at : phase_ok c ≡ true → c.phase ≤ 2
  unfolding phase_ok
  phase-at h = leb-true c.phase 2 h

  phase-from : c.phase ≤ 2 → phase_ok c ≡ true
  unfolding phase_ok
  phase-from h = le-leb c.phase 2 h

  closed_at : closed_ok c ≡ true → c.closed ≤ 1
  unfolding closed_ok
  closed_at h = leb-true c.closed 1 h

  closed-from : c.closed ≤ 1 → closed_ok c ≡ true
  unfolding closed_ok
  closed-from h = le-leb c.closed 1 h

-- ---- all of them

pub connection-facts : (tables : List Table) (c : Connection) → sound_connection tables c ≡ true → SoundConnection tables c
unfolding sound_connection binding_at
connection-facts tables c h₁ =
    let h₂ = all_rest _ _ h₁ in
    let h₃ = all_rest _ _ h₂ in
    let h₄ = all_rest _ _ h₃ in
    let h₅ = all_rest _ _ h₄ in
    let h₆ = all_rest _ _ h₅ in
    let h₇ = all_rest _ _ h₆ in
    let h₈ = all_rest _ _ h₇ in
    let number = all_first _ _ h₃ in
    let names = names_at c (all_first _ _ h₄) in
    let flags = flags-at c (all_first _ _ h₅) in
    let places : (i : ℕ) → (held_at tables i || no_ids (binding_at c i)) ≡ true = λ i. places-at tables c.bindings i (all_first _ _ h₆) in
    let current = current-at tables c (all_first _ _ h₈) in
    record {
      phase = phase-at c (all_first _ _ h₁);
      closed = closed_at c (all_first _ _ h₂);
      closed_number = closed-number c number;
      open_number = open-number c number;
      local_length = names.local_length;
      remote_length = names.remote_length;
      local = names.local;
      remote = names.remote;
      bound_flag = λ i. flags-bound (binding_at c i) (flags i);
      updated_flag = λ i. flags-updated (binding_at c i) (flags i);
      bound_held = λ i t. held-for (held_at tables i) (binding_at c i) (places i) (λ u. never t (no-ids-bound (binding_at c i) u));
      updated_held = λ i t. held-for (held_at tables i) (binding_at c i) (places i) (λ u. never t (no-ids-updated (binding_at c i) u));
      once = once-at c (all_first _ _ h₇);
      current_limit = current.limit;
      current_held = current.held;
      current_bound = current.bound;
    }

pub facts-connection : {tables : List Table} {c : Connection} → SoundConnection tables c → sound_connection tables c ≡ true
unfolding sound_connection binding_at
facts-connection {tables} {c} s =
    all-intro _ _ (phase-from c s.phase)
    (all-intro _ _ (closed-from c s.closed)
    (all-intro _ _ (number-from c s.closed_number s.open_number)
    (all-intro _ _
    (names-from c (record { local_length = s.local_length; remote_length = s.remote_length; local = s.local; remote = s.remote }))
    (all-intro _ _ (flags-from c (λ i. flags-both (binding_at c i) (s.bound_flag i) (s.updated_flag i)))
    (all-intro _ _ (places-from tables c.bindings (λ i. held-or (held_at tables i) (binding_at c i) (s.bound_held i) (s.updated_held i)))
    (all-intro _ _ (once-from c s.once)
    (all-intro _ _ (current-from tables c (record { limit = s.current_limit; held = s.current_held; bound = s.current_bound }))
    all_none)))))))
