-- The record that opening returns is sound with every sound store.
use Prim.Native.Nat.{ℕ, ◌≤◌}
use native.Mathlib.Omega.{arith}
use mathlib.Core.Path.{◌≡◌, refl, sym, ap, ◌∙◌, subst}
use mathlib.Core.Logic.{⊎_elim}
use mathlib.Core.Bool.{true, false, ◌&&◌}
use mathlib.Core.List.{List, [], ◌∷◌}
use lib.ListN.{length, replicate, get_or-replicate}
use lib.Dec.{ltb}
use borrow.Author.Tests.{eqb-true}
use Rattle.lists.specs.Lists.{pad_to, all_of, every, is_zero}
use Rattle.lists.proofs.Cases.{by-test, never, and_first, and_second, and_intro, cond-true, cond-false, lt-or-le, all_first, all_rest}
use Rattle.lists.proofs.Bytes.{pad-take}
use Rattle.store.specs.declared.Table.{Table}
use Rattle.store.specs.declared.Store.{Store}
use Rattle.store.specs.Sound.{sound_store}
use Rattle.handshake.specs.Handshake.{name_ok}
use Rattle.session.specs.declared.Binding.{Binding}
use Rattle.session.specs.declared.Connection.{Connection}
use Rattle.session.specs.declared.Session.{Session}
use Rattle.session.specs.Shape.{SessionShape}
use Rattle.session.specs.Session.{is_closed, local_name, remote_name, is_bound, is_updated, bound_to, no_binding, binding_at, holding, nothing_sent}
use Rattle.session.proofs.Bindings.{past-last, unbound-past}
use Rattle.session_soundness.specs.Sound.{refuses_opening, empty_binding, empty_buffer, sent_nothing, is_refused_opening, sound, sound_session}
use Rattle.session_soundness.proofs.Facts.{SoundConnection}
use Rattle.session_soundness.proofs.Records.{sound-both, record-refused, empty-sound, nothing-sent-ok}
use Rattle.opening.specs.Opening.{Role, answerer, caller, first_phase, new_connection, opened, refused_opening, refuse_opening, accept, Opening, «open»}
use Rattle.opening.proofs.Making.{name-most}

-- ---- an opened session

module _ (phase : ℕ) (local remote : List ℕ) where
  abbrev new : Connection
  new = new_connection phase 0 0 local remote

  new-binding : (i : ℕ) → binding_at new i ≡ no_binding
  unfolding binding_at new_connection
  new-binding i =
      ⊎_elim
      (λ l. get_or-replicate 8 i no_binding no_binding l)
      (λ l. past-last new i l)
      (lt-or-le i 8)

  new-open : is_closed new ≡ false
  unfolding is_closed new_connection
  new-open = refl

  new-local : length local ≤ 32 → local_name new ≡ local
  unfolding local_name new_connection
  new-local l = pad-take 32 local l

  new-remote : length remote ≤ 32 → remote_name new ≡ remote
  unfolding remote_name new_connection
  new-remote l = pad-take 32 remote l

  new-unbound : (i : ℕ) → is_bound (binding_at new i) ≡ true → ⊥
  unfolding is_bound no_binding
  new-unbound i t = never (sym (ap is_bound (new-binding i)) ∙ t) refl

  new-not-updated : (i : ℕ) → is_updated (binding_at new i) ≡ true → ⊥
  unfolding is_updated no_binding
  new-not-updated i t = never (sym (ap is_updated (new-binding i)) ∙ t) refl

  new-bound-flag : (i : ℕ) → (binding_at new i).bound ≤ 1
  unfolding no_binding
  new-bound-flag i = subst (λ (b : Binding). b.bound ≤ 1) (sym (new-binding i)) (omega arith)

  new-updated-flag : (i : ℕ) → (binding_at new i).updated ≤ 1
  unfolding no_binding
  new-updated-flag i = subst (λ (b : Binding). b.updated ≤ 1) (sym (new-binding i)) (omega arith)

  pub new-facts : (ts : List Table) → phase ≤ 2 → name_ok local ≡ true → name_ok remote ≡ true → SoundConnection ts new
  unfolding new_connection
  new-facts ts p a b =
      record {
        phase = p;
        closed = omega arith;
        closed_number = λ t. never t new-open;
        open_number = λ t. refl;
        local_length = name-most local a;
        remote_length = name-most remote b;
        local = ap name_ok (new-local (name-most local a)) ∙ a;
        remote = ap name_ok (new-remote (name-most remote b)) ∙ b;
        bound_flag = new-bound-flag;
        updated_flag = new-updated-flag;
        bound_held = λ i t. absurd (new-unbound i t);
        updated_held = λ i t. absurd (new-not-updated i t);
        once = λ i j id t u. never (sym (ap (bound_to id) (new-binding i)) ∙ t) (unbound-past id);
        current_limit = omega arith;
        current_held = λ q e. absurd (omega arith);
        current_bound = λ q e. absurd (omega arith);
      }

first-phase : (role : Role) → first_phase role ≤ 2
first-phase answerer = omega arith
first-phase (caller process relative) = omega arith

pub opened-sound : (ts : List Table) (role : Role) (local remote : List ℕ) → name_ok local ≡ true → name_ok remote ≡ true
    → sound_session ts (opened role local remote) ≡ true
unfolding opened
opened-sound ts role local remote a b = empty-sound (new-facts (first_phase role) local remote ts (first-phase role) a b) nothing_sent (nothing-sent-ok ts)

-- ---- a refused one

refused-is : (n : ℕ) → refuses_opening n ≡ true → is_refused_opening (refused_opening n) ≡ true
unfolding is_refused_opening refused_opening holding nothing_sent new_connection all_of every pad_to empty_binding empty_buffer sent_nothing no_binding
refused-is n h = and_intro (refuses_opening n) true h refl

-- and only its record passes that test
all-zeros : (xs : List ℕ) → every is_zero xs ≡ true → xs ≡ pad_to (length xs) []
unfolding every pad_to
all-zeros [] h = refl
all-zeros (x ∷ xs) h =
    let e = eqb-true x 0 (and_first (is_zero x) (every is_zero xs) h) in
    let f = all-zeros xs (and_second (is_zero x) (every is_zero xs) h) in
    λ i. e i ∷ f i

empty-is : (b : Binding) → empty_binding b ≡ true → b ≡ no_binding
unfolding empty_binding no_binding
empty-is b h =
    let h₂ = all_rest _ _ h in
    let h₃ = all_rest _ _ h₂ in
    let bound = eqb-true b.bound 0 (all_first _ _ h) in
    let updated = eqb-true b.updated 0 (all_first _ _ h₂) in
    let id = eqb-true b.id 0 (all_first _ _ h₃) in
    let previous = eqb-true b.previous 0 (all_first _ _ (all_rest _ _ h₃)) in
    λ i. record { bound = bound i; updated = updated i; id = id i; previous = previous i }

all-empty : (bs : List Binding) → every empty_binding bs ≡ true → bs ≡ replicate (length bs) no_binding
unfolding every
all-empty [] h = refl
all-empty (b ∷ bs) h =
    let e = empty-is b (and_first (empty_binding b) (every empty_binding bs) h) in
    let f = all-empty bs (and_second (empty_binding b) (every empty_binding bs) h) in
    λ i. e i ∷ f i

sized : (n : ℕ) (xs : List ℕ) → length xs ≡ n → every is_zero xs ≡ true → xs ≡ pad_to n []
sized n xs l h = all-zeros xs h ∙ ap (λ (k : ℕ). pad_to k []) l

pub refused-only : (s : Session) → SessionShape s → is_refused_opening s ≡ true → s ≡ refused_opening s.connection.number
unfolding is_refused_opening refused_opening holding nothing_sent new_connection empty_buffer sent_nothing
refused-only s sh h =
    let c = s.connection in
    let h₃ = all_rest _ _ (all_rest _ _ h) in
    let h₄ = all_rest _ _ h₃ in
    let x = all_first _ _ h₃ in
    let y = and_second (is_zero s.sending.defined) _ x in
    let b = all_first _ _ h₄ in
    let z = all_first _ _ (all_rest _ _ h₄) in
    let z₃ = all_rest _ _ (all_rest _ _ z) in
    let n = all_first _ _ z₃ in
    let n₃ = all_rest _ _ (all_rest _ _ n) in
    let closed = eqb-true c.closed 1 (all_first _ _ h) in
    let len = eqb-true s.len 0 (and_first (is_zero s.len) (every is_zero s.buffer) b) in
    let buffer = sized 1032 s.buffer sh.buffer.size (and_second (is_zero s.len) (every is_zero s.buffer) b) in
    let defined = eqb-true s.sending.defined 0 (and_first (is_zero s.sending.defined) _ x) in
    let sent = eqb-true s.sending.sent 0 (and_first (is_zero s.sending.sent) _ y) in
    let last = eqb-true s.sending.last 0 (and_second (is_zero s.sending.sent) _ y) in
    let phase = eqb-true c.phase 0 (all_first _ _ z) in
    let current = eqb-true c.current 0 (all_first _ _ (all_rest _ _ z)) in
    let local_length = eqb-true c.local_len 0 (all_first _ _ n) in
    let remote_length = eqb-true c.remote_len 0 (all_first _ _ (all_rest _ _ n)) in
    let local = sized 32 c.local sh.connection.local.size (all_first _ _ n₃) in
    let remote = sized 32 c.remote sh.connection.remote.size (all_first _ _ (all_rest _ _ n₃)) in
    let bindings =
    all-empty c.bindings (all_first _ _ (all_rest _ _ z₃)) ∙ ap (λ (k : ℕ). replicate k no_binding) sh.connection.places
    in
    λ i. record {
      connection = record {
        phase = phase i;
        closed = closed i;
        number = c.number;
        current = current i;
        local_len = local_length i;
        remote_len = remote_length i;
        local = local i;
        remote = remote i;
        bindings = bindings i;
      };
      len = len i;
      buffer = buffer i;
      sending = record { defined = defined i; sent = sent i; last = last i };
    }

pub refused-sound : (ts : List Table) (n : ℕ) → refuses_opening n ≡ true → sound_session ts (refused_opening n) ≡ true
refused-sound ts n h = record-refused ts (refused_opening n) (refused-is n h)

-- ---- both roles, refused or not

refuses-one : refuses_opening 1 ≡ true
unfolding refuses_opening
refuses-one = refl

refuses-three : refuses_opening 3 ≡ true
unfolding refuses_opening
refuses-three = refl

pub open-cases : (P : Opening → Type 0) (role : Role) (local remote : List ℕ) (room : ℕ) → P (refuse_opening 1) → P (refuse_opening 3)
    → (name_ok local ≡ true → name_ok remote ≡ true → P (accept role local remote))
    → P («open» role local remote room)
unfolding «open»
open-cases P role local remote room one three f =
    by-test (ltb room 101)
    (λ t. subst P (sym (cond-true (ltb room 101) _ _ t)) one)
    (λ t.
    subst P (sym (cond-false (ltb room 101) _ _ t))
    (by-test (name_ok local && name_ok remote)
    (λ u.
    subst P (sym (cond-true (name_ok local && name_ok remote) _ _ u))
    (f (and_first (name_ok local) (name_ok remote) u) (and_second (name_ok local) (name_ok remote) u)))
    (λ u. subst P (sym (cond-false (name_ok local && name_ok remote) _ _ u)) three)))

pub open-sound : (role : Role) (local remote : List ℕ) (room : ℕ) (t : Store) → sound_store t ≡ true
    → sound («open» role local remote room).session t ≡ true
open-sound role local remote room t h =
    sound-both («open» role local remote room).session t h
    (open-cases (λ (o : Opening). sound_session t.tables o.session ≡ true) role local remote room
    (refused-sound t.tables 1 refuses-one)
    (refused-sound t.tables 3 refuses-three)
    (λ a b. opened-sound t.tables role local remote a b))
