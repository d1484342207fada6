-- The ledger follows the record: after each message it says of every place what the record says, and the reply carries it.
use Prim.Native.Nat.{ℕ, ◌+◌, ◌-◌, ◌<◌, ◌^◌}
use native.Mathlib.Omega.{arith}
use mathlib.Core.Path.{◌≡◌, refl, sym, ap, subst, ◌∙◌}
use mathlib.Core.Logic.{⊎_elim}
use mathlib.Core.List.{List, []}
use mathlib.Core.Bool.{true, false, cond, ◌&&◌}
use mathlib.Core.Option.{Option, some, none}
use lib.ListN.{length, get_or}
use lib.Dec.{eqb, leb}
use borrow.Author.Tests.{eqb-true, eq-eqb, ne_eqb}
use Rattle.lists.proofs.Cases.{by-test, cond-true, cond-false, eq-or-ne, and_first, and_second, and-true}
use Rattle.store.specs.declared.Table.{Table}
use Rattle.store.specs.declared.Entry.{Entry}
use Rattle.handshake.specs.Bytes as hb
use Rattle.handshake.specs.Handshake.{refusal_line, status_line, lf}
use Rattle.session.specs.declared.Binding.{Binding}
use Rattle.session.specs.declared.Connection.{Connection}
use Rattle.session.specs.declared.Commit.{Commit}
use Rattle.session.specs.declared.Answer.{Answer}
use Rattle.session.specs.declared.Answer.TheVariants as answer
use Rattle.session.specs.Answers.{refusal_of, refusal_reply, is_size_limit, is_protocol_error}
use Rattle.session.proofs.answers.Refusals.{of-refusal}
use Rattle.session.proofs.Replies.{refusal-short, accepted-short}
use Rattle.session.specs.Session.{binding_at, no_binding, is_bound, is_updated, bound_to, closed_with, establish, make_current, with_tables, bind, bind_to, unbind, committed, commit_to}
use Rattle.session.proofs.CurrentTable.{current-within}
use Rattle.session.proofs.Bindings.{bound-here, bound-lost, bound-kept, bind-cases, commit-cases, committed-here, committed-other}
use Rattle.message.specs.declared.Effect.{Effect}
use Rattle.message.specs.Effects.{refuse_with, note, peer_error, control, control_answer, control_reply, define_at, commit_at, acknowledge}
use Rattle.message.proofs.Replies.{control-short}
use Rattle.streams.specs.Model.{Ended}
use Rattle.receiver.specs.Ledger.{Ledger, start_ledger, post, defines, switches, commits, without, at, table_id, update_id, is_acknowledgement, Carried, RightReply, NoAcknowledgement}

pub record Follows (c : Connection) (l : Ledger) : Type 0 where
  pub current : l.current ≡ (start_ledger c).current
  pub bound : (p : ℕ) → l.bound p ≡ (start_ledger c).bound p
  pub last : (p : ℕ) → l.last p ≡ (start_ledger c).last p

pub starts-following : (c : Connection) → Follows c (start_ledger c)
starts-following c = record { current = refl; bound = λ p. refl; last = λ p. refl }

-- a message that did this
abbrev pub ended_as : List ℕ → Effect → Ended Answer
ended_as m e = record { message = m; answer = e.answer; reply = e.reply }

-- what a message does keeps the ledger in step, and its reply is right
pub record Follow (c : Connection) (m : List ℕ) (e : Effect) : Type 0 where
  pub follows : (l : Ledger) → Follows c l → Follows e.connection (post l (ended_as m e))
  pub right : (l : Ledger) → Follows c l → RightReply (post l (ended_as m e)) m e.reply e.answer

-- ---- replies that are no acknowledgements

none-not : is_acknowledgement [] ≡ false
unfolding is_acknowledgement
none-not = refl

line-not : (n : ℕ) → is_acknowledgement (refusal_line n) ≡ false
unfolding is_acknowledgement refusal_line status_line hb.decimal hb.decimal_in lf
line-not n =
    by-test (eqb n 10)
    (λ a. rw a)
    (λ a.
    rw a
    (by-test (eqb n 11)
    (λ b. rw b)
    (λ b. rw b (by-test (eqb n 12) (λ d. rw d) (λ d. rw d (by-test (eqb n 13) (λ e. rw e) (λ e. rw e)))))))

pub refusal-not : (n : ℕ) → is_acknowledgement (refusal_reply n) ≡ false
unfolding refusal_reply
refusal-not n =
    by-test (is_size_limit n)
    (λ a. rw a (unfold is_acknowledgement in refl))
    (λ a. rw a (by-test (is_protocol_error n) (λ b. rw b (unfold is_acknowledgement in refl)) (λ b. rw b (line-not n))))

accepted-not : is_acknowledgement (status_line 200) ≡ false
unfolding is_acknowledgement status_line hb.decimal hb.decimal_in lf
accepted-not = refl

control-not : (type : ℕ) → is_acknowledgement (control_reply type) ≡ false
unfolding control_reply is_acknowledgement
control-not type = by-test (leb 1 type && leb type 2) (λ a. rw a) (λ a. rw a)

-- ---- and too short to hold one

none-none : NoAcknowledgement []
none-none = record { other = none-not; short = omega arith }

pub refusal-none : (n : ℕ) → NoAcknowledgement (refusal_reply n)
refusal-none n = record { other = refusal-not n; short = refusal-short n }

pub accepted-none : NoAcknowledgement (status_line 200)
accepted-none = record { other = accepted-not; short = accepted-short }

pub control-none : (type : ℕ) → NoAcknowledgement (control_reply type)
control-none type = record { other = control-not type; short = control-short type }

-- ---- messages that leave bindings and current table as they are

same-ledger : (c d : Connection) → d.current ≡ c.current → d.bindings ≡ c.bindings → (l : Ledger) → Follows c l → Follows d l
unfolding start_ledger binding_at
same-ledger c d e b l f = record {
  current = f.current ∙ ap (λ (n : ℕ). cond (eqb n 0) none (some (n - 1))) (sym e);
  bound = λ p. f.bound p ∙ ap (λ (bs : List Binding). cond (is_bound (get_or bs p no_binding)) (some (get_or bs p no_binding).id) none) (sym b);
  last = λ p. f.last p ∙ ap (λ (bs : List Binding). cond (is_updated (get_or bs p no_binding)) (some (get_or bs p no_binding).previous) none) (sym b);
}

pub refuse-follow : (c : Connection) (n : ℕ) (a : Answer) (m : List ℕ) → refusal_of a ≡ some n → Follow c m (refuse_with c n a)
unfolding refuse_with post closed_with
refuse-follow c n a m q =
    of-refusal (λ (b : Answer). Follow c m (refuse_with c n b)) n
    (record { follows = same-ledger c (closed_with c n) refl refl; right = λ l f. refusal-none n })
    (λ offset. record { follows = same-ledger c (closed_with c n) refl refl; right = λ l f. refusal-none n })
    a q

pub hello-follow : (c : Connection) (p r : ℕ) (m : List ℕ) → Follow c m (note (establish c) (answer.Hello p r) (status_line 200))
unfolding note post establish
hello-follow c p r m = record { follows = same-ledger c (establish c) refl refl; right = λ l f. accepted-none }

pub status-follow : (c : Connection) (m : List ℕ) → Follow c m (note (establish c) answer.Status [])
unfolding note post establish
status-follow c m = record { follows = same-ledger c (establish c) refl refl; right = λ l f. none-none }

pub error-follow : (c : Connection) (type : ℕ) (m : List ℕ) → Follow c m (peer_error c type)
unfolding peer_error note post closed_with
error-follow c type m = record { follows = same-ledger c (closed_with c 0) refl refl; right = λ l f. none-none }

pub skipped-follow : (c : Connection) (kind : ℕ) (m : List ℕ) → Follow c m (note c (answer.Skipped kind) [])
unfolding note post
skipped-follow c kind m = record { follows = λ l f. f; right = λ l f. none-none }

pub acknowledgement-follow : (c : Connection) (id update : ℕ) (m : List ℕ) → Follow c m (note c (answer.Acknowledgement id update) [])
unfolding note post
acknowledgement-follow c id update m = record { follows = λ l f. f; right = λ l f. none-none }

pub control-follow : (c : Connection) (type : ℕ) (m : List ℕ) → Follow c m (control c type)
unfolding control note post control_answer
control-follow c type m =
    by-test (eqb type 0)
    (λ a. rw a (record { follows = λ l f. f; right = λ l f. control-none type }))
    (λ a.
    rw a
    (by-test (eqb type 1)
    (λ b. rw b (record { follows = λ l f. f; right = λ l f. control-none type }))
    (λ b.
    rw b
    (by-test (eqb type 2)
    (λ d. rw d (record { follows = λ l f. f; right = λ l f. control-none type }))
    (λ d.
    rw d
    (by-test (eqb type 3)
    (λ e. rw e (record { follows = λ l f. f; right = λ l f. control-none type }))
    (λ e. rw e (record { follows = λ l f. f; right = λ l f. control-none type }))))))))

-- ---- the current table

pub current-some : (c : Connection) (place : ℕ) → c.current ≡ place + 1 → (start_ledger c).current ≡ some place
unfolding start_ledger
current-some c place e =
    cond-false (eqb c.current 0) none (some (c.current - 1)) (ne_eqb c.current 0 (λ z. let w : ⊥ = omega arith in w))
    ∙ ap some (let w : c.current - 1 ≡ place = omega arith in w)

made-current : (c : Connection) (place : ℕ) → place < 8 → (make_current c place).current ≡ place + 1
unfolding make_current with_tables
made-current c place h = sym (current-within place h)

-- ---- a switch and a definition

bound_of : Binding → Option ℕ
bound_of b = cond (is_bound b) (some b.id) none

last_of : Binding → Option ℕ
last_of b = cond (is_updated b) (some b.previous) none

start-bound : (c : Connection) (p : ℕ) → (start_ledger c).bound p ≡ bound_of (binding_at c p)
unfolding start_ledger bound_of
start-bound c p = refl

start-last : (c : Connection) (p : ℕ) → (start_ledger c).last p ≡ last_of (binding_at c p)
unfolding start_ledger last_of
start-last c p = refl

pub last_some : (c : Connection) (p : ℕ) → is_updated (binding_at c p) ≡ true → (start_ledger c).last p ≡ some (binding_at c p).previous
unfolding start_ledger
last_some c p h = cond-true (is_updated (binding_at c p)) (some (binding_at c p).previous) none h

-- the ID that is bound
bound-id : (id : ℕ) (b : Binding) → bound_to id b ≡ true → bound_of b ≡ some id
unfolding bound_of bound_to
bound-id id b h =
    cond-true (is_bound b) (some b.id) none (and_first (is_bound b) (eqb b.id id) h)
    ∙ ap some (eqb-true b.id id (and_second (is_bound b) (eqb b.id id) h))

pub switch-follow : (c : Connection) (id place : ℕ) (m : List ℕ) → place < 8 → bound_to id (binding_at c place) ≡ true → table_id m ≡ id → Follow c m (note (make_current c place) (answer.Switch place) [])
unfolding note post switches
switch-follow c id place m h b e = record {
  follows = λ l f. record {
    current = sym (current-some (make_current c place) place (made-current c place h));
    bound = λ p. f.bound p ∙ unfold start_ledger binding_at make_current with_tables in refl;
    last = λ p. f.last p ∙ unfold start_ledger binding_at make_current with_tables in refl;
  };
  right = λ l f. record { bound = f.bound place ∙ (start-bound c place ∙ (bound-id id (binding_at c place) b ∙ ap some (sym e))); none = none-none };
}

bound-of-bound : (id : ℕ) (b : Binding) → bound_of (bind_to id b) ≡ some id
unfolding bound_of bind_to is_bound
bound-of-bound id b = refl

bound-of-unbound : (b : Binding) → bound_of (unbind b) ≡ none
unfolding bound_of unbind is_bound
bound-of-unbound b = refl

-- the ID lost elsewhere
lost : (id : ℕ) (b : Binding) → bound_to id b ≡ true → without id (bound_of b) ≡ none
unfolding bound_of bound_to without
lost id b h =
    let y = and_first (is_bound b) (eqb b.id id) h in
    let z = and_second (is_bound b) (eqb b.id id) h in
    ap (without id) (cond-true (is_bound b) (some b.id) none y) ∙ cond-true (eqb b.id id) none (some b.id) z

kept-id : (id : ℕ) (b : Binding) → bound_to id b ≡ false → without id (bound_of b) ≡ bound_of b
unfolding bound_of bound_to without
kept-id id b h =
    by-test (is_bound b)
    (λ y.
    let z : eqb b.id id ≡ false = sym (and-true (is_bound b) (eqb b.id id) y) ∙ h in
    let e = cond-true (is_bound b) (some b.id) none y in
    ap (without id) e ∙ (cond-false (eqb b.id id) none (some b.id) z ∙ sym e))
    (λ y. let e = cond-false (is_bound b) (some b.id) none y in ap (without id) e ∙ sym e)

bound-current : (c : Connection) (place id : ℕ) → place < 8 → (bind c place id).current ≡ place + 1
unfolding bind with_tables
bound-current c place id h = sym (current-within place h)

module _ (c : Connection) (place id : ℕ) (h : place < 8) (long : length c.bindings ≡ 8) (l : Ledger) (f : Follows c l) where
  defines-bound : (p : ℕ) → (defines l place id).bound p ≡ (start_ledger (bind c place id)).bound p
  unfolding defines
  defines-bound p =
      let here : place < length c.bindings = omega arith in
      ⊎_elim
      (λ e.
      cond-true (eqb p place) (some id) (without id (l.bound p)) (eq-eqb p place e)
      ∙ sym (start-bound (bind c place id) p ∙ (ap bound_of (ap (binding_at (bind c place id)) e ∙ bound-here c place id here) ∙ bound-of-bound id (binding_at c place))))
      (λ e.
      cond-false (eqb p place) (some id) (without id (l.bound p)) (ne_eqb p place e)
      ∙ (ap (without id) (f.bound p ∙ start-bound c p)
      ∙ (by-test (bound_to id (binding_at c p))
      (λ t. lost id (binding_at c p) t ∙ sym (ap bound_of (bound-lost c place id p e t) ∙ bound-of-unbound (binding_at c p)))
      (λ t. kept-id id (binding_at c p) t ∙ sym (ap bound_of (bound-kept c place id p e t)))
      ∙ sym (start-bound (bind c place id) p))))
      (eq-or-ne p place)

  defines-last : (p : ℕ) → (defines l place id).last p ≡ (start_ledger (bind c place id)).last p
  unfolding defines
  defines-last p =
      f.last p
      ∙ (start-last c p
      ∙ (sym (bind-cases c place id (λ (b : Binding). last_of b ≡ last_of (binding_at c p)) p (λ e. omega arith)
      (λ e. unfold last_of bind_to is_updated in ap (λ (k : ℕ). last_of (binding_at c k)) (sym e))
      (λ e. unfold last_of unbind is_updated in refl)
      (λ e. refl))
      ∙ sym (start-last (bind c place id) p)))

pub define-follow : (c : Connection) (id : ℕ) (t : Table) (place : ℕ) (m : List ℕ) → place < 8
    → length c.bindings ≡ 8 → table_id m ≡ id → Follow c m (define_at c id t place)
unfolding define_at post
define-follow c id t place m h long e = record {
  follows = λ l f.
      subst (λ (k : ℕ). Follows (bind c place id) (defines l place k)) (sym e)
      (record {
        current = unfold defines in sym (current-some (bind c place id) place (bound-current c place id h));
        bound = defines-bound c place id h long l f;
        last = defines-last c place id h long l f;
      });
  right = λ l f. none-none;
}

-- ---- a committed update

module _ (c : Connection) (table id : ℕ) (h : table < 8) (long : length c.bindings ≡ 8) (now : c.current ≡ table + 1) (l : Ledger) (f : Follows c l) where
  here : table < length c.bindings
  here = omega arith

  ledger-current : l.current ≡ some table
  ledger-current = f.current ∙ current-some c table now

  commits-current : l.current ≡ (start_ledger (committed c table id)).current
  commits-current = f.current ∙ unfold start_ledger committed with_tables in refl

  commits-bound : (p : ℕ) → l.bound p ≡ (start_ledger (committed c table id)).bound p
  commits-bound p =
      f.bound p
      ∙ (start-bound c p
      ∙ (sym (commit-cases c table id (λ (b : Binding). bound_of b ≡ bound_of (binding_at c p)) p (λ e. here)
      (λ e. unfold bound_of commit_to is_bound in ap (λ (k : ℕ). bound_of (binding_at c k)) (sym e))
      (λ e. refl))
      ∙ sym (start-bound (committed c table id) p)))

  commits-last : (p : ℕ) → cond (eqb p table) (some id) (l.last p) ≡ (start_ledger (committed c table id)).last p
  commits-last p =
      ⊎_elim
      (λ e.
      cond-true (eqb p table) (some id) (l.last p) (eq-eqb p table e)
      ∙ sym (start-last (committed c table id) p
      ∙ (ap last_of (ap (binding_at (committed c table id)) e ∙ committed-here c table id here) ∙ unfold last_of commit_to is_updated in refl)))
      (λ e.
      cond-false (eqb p table) (some id) (l.last p) (ne_eqb p table e)
      ∙ (f.last p ∙ (start-last c p ∙ (ap last_of (sym (committed-other c table id p e)) ∙ sym (start-last (committed c table id) p)))))
      (eq-or-ne p table)

  -- the ledger after the update
  pub after-commit : Follows (committed c table id) (commits l l.current (some id))
  after-commit =
      subst (λ (o : Option ℕ). Follows (committed c table id) (commits l o (some id))) (sym ledger-current)
      (unfold commits in record { current = commits-current; bound = commits-bound; last = commits-last })

  pub carried : is_bound (binding_at c table) ≡ true → (binding_at c table).id < 2 ^ 32 → id < 2 ^ 32
      → Carried (commits l l.current (some id)) (acknowledge (binding_at c table).id id) table id
  carried b i u = record {
    id = (binding_at c table).id;
    current = after-commit.current ∙ (sym commits-current ∙ ledger-current);
    bound =
        after-commit.bound table
        ∙ (sym (commits-bound table) ∙ (f.bound table ∙ (start-bound c table ∙ unfold bound_of in cond-true (is_bound (binding_at c table)) (some (binding_at c table).id) none b)));
    last = after-commit.last table ∙ (sym (commits-last table) ∙ cond-true (eqb table table) (some id) (l.last table) (eq-eqb table table refl));
    small-id = i;
    small-update = u;
    carries = refl;
  }

pub commit-follow : (c : Connection) (id : ℕ) (e : Entry) (place : ℕ) (how : Commit) (m : List ℕ) → e.table < 8
    → length c.bindings ≡ 8 → c.current ≡ e.table + 1 → is_bound (binding_at c e.table) ≡ true
    → (binding_at c e.table).id < 2 ^ 32 → id < 2 ^ 32
    → ((l : Ledger) → Follows c l → update_id m (at l.last l.current) ≡ some id)
    → Follow c m (commit_at c id e place how)
unfolding commit_at post
commit-follow c id e place how m h long now b i u ids = record {
  follows = λ l f. rw (ids l f) (after-commit c e.table id h long now l f);
  right = λ l f. rw (ids l f) (carried c e.table id h long now l f b i u);
}
