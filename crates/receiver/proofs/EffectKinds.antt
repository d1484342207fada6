-- What unfinished bytes can come to, on any record and store: a refusal, a note of the answer, a peer's error, a table defined, an update committed.
-- Each law over everything that bytes come to goes by these kinds.
use Rattle.std.specs.Prelude.{Some, None}
use Rattle.std.specs.Prelude as std
use Prim.Native.Nat.{ℕ, ◌-◌, ◌≤◌, ◌<◌}
use native.Mathlib.Omega.{arith}
use mathlib.Core.Path.{◌≡◌, refl, sym, ap, ◌∙◌, subst}
use mathlib.Core.Option.{Option, some, none}
use mathlib.Core.Bool.{true, false, ◌||◌}
use mathlib.Core.List.{List, [], ◌∷◌}
use lib.ListN.{length, take, drop, get_or}
use lib.Dec.{eqb}
use borrow.Author.Tests.{eqb-true, eqb-false, ne_eqb, le-leb, lt-leb}
use Rattle.lists.specs.Lists.{first_place}
use Rattle.lists.proofs.Places.{first-at}
use Rattle.lists.proofs.Cases.{by-test, or-false}
use Rattle.store.specs.declared.Entry.{Entry}
use Rattle.store.specs.declared.Store.{Store}
use Rattle.store.specs.Store.{table_free, table_named, find_table, free_table, entry_free, no_table, no_entry}
use Rattle.store.specs.Places.{free_of, place_of}
use Rattle.handshake.specs.declared.Hello.{Hello}
use Rattle.handshake.specs.declared.Hello.TheVariants as hello
use Rattle.handshake.specs.declared.Status.{Status}
use Rattle.handshake.specs.declared.Status.TheVariants as status
use Rattle.handshake.specs.Handshake.{judge_hello, judge_status}
use Rattle.handshake.proofs.HelloLaws.{hello-refusal, status-refusal}
use Rattle.frame.specs.declared.Frame.{Frame}
use Rattle.frame.specs.declared.Frame.TheVariants as frame
use Rattle.frame.specs.Frame.{judge_frame}
use Rattle.frame.proofs.Limits.{refused-number}
use Rattle.session.specs.declared.Connection.{Connection}
use Rattle.session.specs.declared.Commit.{Commit}
use Rattle.session.specs.declared.Commit.TheVariants as commit
use Rattle.session.specs.declared.Answer.{Answer}
use Rattle.session.specs.declared.Answer.TheVariants as answer
use Rattle.session.specs.Session.{local_name, remote_name, binding_at, is_updated}
use Rattle.body.specs.declared.Failure.{Failure}
use Rattle.body.specs.declared.Failure.TheVariants as failure
use Rattle.body.specs.declared.Fault.{Fault}
use Rattle.body.specs.Fields.{Read, got, failed, span_in}
use Rattle.body.specs.declared.definition.Definition.{Definition}
use Rattle.body.specs.declared.update.Update.{Update}
use Rattle.body.specs.Bodies.{definition_fields, switch_fields, acknowledgement_fields, form_of}
use Rattle.body.proofs.BodiesBreak.{bodies-break}
use Rattle.message.specs.Targets.{keyed_as, goes_to}
use Rattle.message.proofs.Kept.{failure-least, failure-most}
use Rattle.session.specs.Answers.{refusal_of, answer_values}
use Rattle.message.specs.declared.Effect.{Effect}
use Rattle.message.specs.Effects.{refuse_with, refuse, refusal, failure_number, refuse_body, note, fields_then, control, control_answer, peer_error, defined_table, define_at, define_new, define_named, agrees, definition, switch_to, switch, acknowledgement, skipped, updated_entry, commit_at, commit_entry, with_fields, update_of, update, other_message, by_form, stick_table, done}
use Rattle.body.specs.declared.update.Form.{Form}
use Rattle.reassembly.specs.Judge.{Judged, waiting, settled, hello_judged, status_judged, frame_judged, asks_none, judge_bytes, done_of, judge}
use Rattle.receiver.specs.Corollaries.{EntryWent, TableWent, held_name, new_name, closes, fields_of, gives_offset, FieldFails, in_definition, in_switch, in_acknowledgement, in_update, BodyBroke, OffsetGiven}

-- an answer that leaves the store as it is, and is no refusal
abbrev pub Noted : Answer → Type 0
Noted answer.More = ⊥
Noted (answer.Hello process relative) = Unit {0}
Noted answer.Status = Unit {0}
Noted answer.Request = Unit {0}
Noted answer.Finished = Unit {0}
Noted answer.Partial = Unit {0}
Noted answer.Confirmed = Unit {0}
Noted answer.Heartbeat = Unit {0}
Noted (answer.Error type) = Unit {0}
Noted (answer.Table place) = ⊥
Noted (answer.Switch place) = Unit {0}
Noted (answer.Update table id entry how) = ⊥
Noted (answer.Acknowledgement id update) = Unit {0}
Noted (answer.Skipped kind) = Unit {0}
Noted (answer.Refused n) = ⊥
Noted (answer.RefusedAt n offset) = ⊥

abbrev pub body_in : List ℕ → ℕ → ℕ → List ℕ
body_in u start end = take (end - start) (drop start u)

-- what a committed entry finds at its place: a new one a free place, one that replaces an entry of its table and key
unfoldable pub Finds : Commit → Entry → Entry → Type 0
Finds commit.New e old = entry_free old ≡ true
Finds commit.Replaced e old = keyed_as e old ≡ true

-- where a committed entry goes, in the store that came
abbrev pub Went : Store → Entry → ℕ → Commit → Type 0
Went t e place how = EntryWent how place (first_place (keyed_as e) t.entries) (first_place entry_free t.entries)

-- an update of the current table whose fields were read, and the place of its entry
pub record Committing (c : Connection) (t : Store) (u : List ℕ) (fields : Update) (body : List ℕ) (place : ℕ) (how : Commit) : Type 0 where
  pub kind : ℕ
  pub start : ℕ
  pub end : ℕ
  pub framed : judge_frame u ≡ frame.Body kind start end
  pub body_is : body ≡ body_in u start end
  pub form : Form
  pub type : form_of kind ≡ some form
  pub current : eqb c.current 0 ≡ false
  pub previous : form.explicit ≡ false → is_updated (binding_at c (c.current - 1)) ≡ true
  pub after : ℕ
  pub read : fields_of c t (c.current - 1) form body ≡ got fields after
  pub inside : place < length t.entries
  pub finds : Finds how (updated_entry body (c.current - 1) fields) (get_or t.entries place no_entry)
  pub went : Went t (updated_entry body (c.current - 1) fields) place how

-- a definition whose fields were read, and the place of its table
pub record Defining (c : Connection) (t : Store) (u : List ℕ) (fields : Definition) (body : List ℕ) (place : ℕ) : Type 0 where
  pub start : ℕ
  pub end : ℕ
  pub framed : judge_frame u ≡ frame.Body 130 start end
  pub body_is : body ≡ body_in u start end
  pub after : ℕ
  pub read : definition_fields body ≡ got fields after
  pub inside : place < length t.tables
  pub went : TableWent t (span_in body fields.name) (defined_table body fields) place

pub data Kind (c : Connection) (t : Store) (u : List ℕ) : Effect → Type 0 where
  refused : (n : ℕ) (a : Answer) → closes n ≡ true → refusal_of a ≡ some n → OffsetGiven c t u n (answer_values a) → Kind c t u (refuse_with c n a)
  noted : (d : Connection) (a : Answer) (reply : List ℕ) → Noted a → Kind c t u (note d a reply)
  errored : (type : ℕ) → Kind c t u (peer_error c type)
  defined : (fields : Definition) (body : List ℕ) (place : ℕ) → Defining c t u fields body place
      → Kind c t u (define_at c fields.id (defined_table body fields) place)
  committed : (fields : Update) (body : List ℕ) (place : ℕ) (how : Commit) → Committing c t u fields body place how
      → Kind c t u (commit_at c fields.id (updated_entry body (c.current - 1) fields) place how)

-- ---- numbers of refusals

closes-low : (n : ℕ) → 10 ≤ n → n ≤ 15 → closes n ≡ true
unfolding closes
closes-low n a b = rw (le-leb 10 n a, le-leb n 15 b)

closes-high : (n : ℕ) → 20 ≤ n → n ≤ 30 → closes n ≡ true
unfolding closes
closes-high n a b = rw (le-leb 10 n (let z : 10 ≤ n = omega arith in z), lt-leb n 15 (let z : 15 < n = omega arith in z), le-leb 20 n a, le-leb n 30 b)

-- those of a hello, a status and a frame have no offset, nor have those between 24 and 30; those of a body's field have one
low-none : (n : ℕ) → n ≤ 22 → gives_offset n ≡ false
unfolding gives_offset
low-none n l = rw (ne_eqb n 23 (λ e. omega (arith, e, l)), ne_eqb n 24 (λ e. omega (arith, e, l)), ne_eqb n 30 (λ e. omega (arith, e, l)))

between_none : (n : ℕ) → 25 ≤ n → n ≤ 29 → gives_offset n ≡ false
unfolding gives_offset
between_none n a b = rw (ne_eqb n 23 (λ e. omega (arith, e, a)), ne_eqb n 24 (λ e. omega (arith, e, a)), ne_eqb n 30 (λ e. omega (arith, e, b)))

failure-offset : (f : Failure) → gives_offset (failure_number f) ≡ true
unfolding gives_offset failure_number
failure-offset failure.Short = refl
failure-offset failure.OutOfRange = refl
failure-offset failure.NotPlain = refl

-- ---- messages of class 10

module _ (c : Connection) (t : Store) (u : List ℕ) where
  refuses : (n : ℕ) → closes n ≡ true → gives_offset n ≡ false → Kind c t u (refuse c n)
  unfolding refuse
  refuses n h o = refused n (answer.Refused n) h (unfold refusal_of in refl) (rw o (unfold answer_values in refl))

  refused-with : (n : ℕ) → 25 ≤ n → n ≤ 29 → Kind c t u (refuse c n)
  refused-with n a b = refuses n (closes-high n (omega (arith, a)) (omega (arith, b))) (between_none n a b)

  switch-kind : (f : std.Option ℕ) → Kind c t u (switch_to c f)
  unfolding switch_to
  switch-kind (Some p) = noted _ _ [] tt
  switch-kind None = refused-with 27 (omega arith) (omega arith)

  module _ (kind start end : ℕ) (e : judge_frame u ≡ frame.Body kind start end) where
    abbrev body : List ℕ
    body = body_in u start end

    -- a field that fails
    body-broke : (f : Fault) → FieldFails c t kind body f → BodyBroke c t u (failure_number f.failure) (f.start ∷ [])
    body-broke f h = record {
      kind = kind;
      start = start;
      end = end;
      framed = e;
      body = body;
      body_is = refl;
      fault = f;
      number_is = refl;
      offset = refl;
      fails = h;
    }

    body-kind : (f : Fault) → FieldFails c t kind body f → Kind c t u (refuse_body c f)
    unfolding refuse_body answer_values
    body-kind f h =
        let n = failure_number f.failure in
        refused n (answer.RefusedAt n f.start) (closes-high n (failure-least f.failure) (failure-most f.failure)) (unfold refusal_of in refl)
        (rw (failure-offset f.failure) (body-broke f h))

    fields-kind : {A : Type 0} (r : Read A) (f : A → Effect) → ((a : A) → Kind c t u (f a)) → ((x : Fault) → r ≡ failed x → FieldFails c t kind body x)
        → Kind c t u (fields_then (refuse_body c) r f)
    unfolding fields_then
    fields-kind (got a n) f g h = g a
    fields-kind (failed x) f g h = body-kind x (h x refl)

    -- a definition
    module _ (k : kind ≡ 130) (d : Definition) (after : ℕ) (r : definition_fields body ≡ got d after) where
      abbrev name : List ℕ
      name = span_in body d.name

      define-kind : (p : ℕ) → p < length t.tables → TableWent t name (defined_table body d) p → Kind c t u (define_at c d.id (defined_table body d) p)
      define-kind p l w =
          defined d body p
          (record { start = start; end = end; framed = e ∙ ap (λ (n : ℕ). frame.Body n start end) k; body_is = refl; after = after; read = r; inside = l; went = w })

      new-kind : (f : std.Option ℕ) → find_table t name ≡ None → free_table t ≡ f → Kind c t u (define_new c d.id (defined_table body d) f)
      unfolding define_new
      new-kind (Some p) n q = define-kind p (unfold free_table in (first-at table_free t.tables p q).inside) (new_name n q)
      new-kind None n q = refused-with 26 (omega arith) (omega arith)

      named-kind : (f : std.Option ℕ) → find_table t name ≡ f → Kind c t u (define_named c t.tables d.id (defined_table body d) f)
      unfolding define_named
      named-kind (Some p) q =
          by-test (agrees (get_or t.tables p no_table) (defined_table body d))
          (λ a. rw a (define-kind p (unfold find_table in (first-at (table_named name) t.tables p q).inside) (held_name q a)))
          (λ a. rw a (refused-with 25 (omega arith) (omega arith)))
      named-kind None q = unfold free_table in new-kind (free_table t) q refl

    definition-kind : kind ≡ 130 → (r : Read Definition) → definition_fields body ≡ r
        → Kind c t u (fields_then (refuse_body c) r λ d. define_named c t.tables d.id (defined_table body d) (first_place (table_named (span_in body d.name)) t.tables))
    unfolding fields_then
    definition-kind k (got d after) r = unfold find_table in named-kind k d after r _ refl
    definition-kind k (failed f) r = body-kind f (in_definition k (r, bodies-break.definition body f r))

    abbrev now : ℕ
    now = c.current - 1

    module _ (form : Form) (type : form_of kind ≡ some form) (z : eqb c.current 0 ≡ false)
        (previous : form.explicit ≡ false → is_updated (binding_at c now) ≡ true) where
      commit-kind : (f : Update) (after p : ℕ) (how : Commit) → fields_of c t now form body ≡ got f after → p < length t.entries
          → Finds how (updated_entry body now f) (get_or t.entries p no_entry) → Went t (updated_entry body now f) p how
          → Kind c t u (commit_at c f.id (updated_entry body now f) p how)
      commit-kind f after p how r l d w =
          committed f body p how
          (record { kind = kind; start = start; end = end; framed = e; body_is = refl; form = form; type = type; current = z; previous = previous; after = after; read = r; inside = l; finds = d; went = w })

      -- where the entry goes, by what the lookups found
      commit-entry-kind : (f : Update) (after : ℕ) (x y : std.Option ℕ) → fields_of c t now form body ≡ got f after
          → first_place (keyed_as (updated_entry body now f)) t.entries ≡ x → first_place entry_free t.entries ≡ y
          → Kind c t u (commit_entry c f.id (updated_entry body now f) (place_of x y))
      unfolding commit_entry place_of free_of Finds EntryWent
      commit-entry-kind f after (Some p) y r q w =
          let x = first-at (keyed_as (updated_entry body now f)) t.entries p q in
          commit-kind f after p commit.Replaced r x.inside (x.passes no_entry) q
      commit-entry-kind f after None (Some p) r q w =
          let x = first-at entry_free t.entries p w in
          commit-kind f after p commit.New r x.inside (x.passes no_entry) (q, w)
      commit-entry-kind f after None None r q w = refused-with 29 (omega arith) (omega arith)

      with-kind : (r : Read Update) → fields_of c t now form body ≡ r → Kind c t u (done c t.entries (with_fields c body now r))
      unfolding with_fields fields_then refusal done goes_to
      with-kind (got f after) q = commit-entry-kind f after _ _ q refl refl
      with-kind (failed f) q =
          let x = eqb-false c.current 0 z in
          body-kind f (in_update form now type (omega (arith, x)) previous (q, bodies-break.update form (get_or t.tables now no_table) _ body f q))

    update-kind : (form : Form) → form_of kind ≡ some form → Kind c t u (done c t.entries (update form c t.tables body))
    unfolding update update_of refusal done
    update-kind form type =
        by-test (eqb c.current 0)
        (λ z. rw z (refused-with 27 (omega arith) (omega arith)))
        (λ z.
        rw z
        (by-test (form.explicit || is_updated (binding_at c now))
        (λ y.
        rw y
        (with-kind form type z (λ x. sym (or-false form.explicit (is_updated (binding_at c now)) x) ∙ y) (fields_of c t now form body) refl))
        (λ y. rw y (refused-with 28 (omega arith) (omega arith)))))

    other-kind : Kind c t u (other_message c t.tables kind body)
    unfolding other_message
    other-kind =
        by-test (eqb kind 130)
        (λ d. rw d (unfold definition in definition-kind (eqb-true kind 130 d) (definition_fields body) refl))
        (λ d.
        rw d
        (by-test (eqb kind 131)
        (λ f.
        rw f
        (unfold switch in fields-kind (switch_fields body) _ (λ x. switch-kind _)
        (λ x q. in_switch (eqb-true kind 131 f) (q, bodies-break.switch body x q))))
        (λ f.
        rw f
        (by-test (eqb kind 132)
        (λ g.
        rw g
        (unfold acknowledgement in fields-kind (acknowledgement_fields body) _ (λ x. noted c _ [] tt)
        (λ x q. in_acknowledgement (eqb-true kind 132 g) (q, bodies-break.acknowledgement body x q))))
        (λ g. rw g (unfold skipped in noted c _ [] tt))))))

    form-kind : (form : Option Form) → form_of kind ≡ form → Kind c t u (done c t.entries (by_form c t.tables kind body form))
    unfolding by_form done
    form-kind (some form) q = update-kind form q
    form-kind none q = other-kind

    stick-kind : Kind c t u (done c t.entries (stick_table c t.tables kind body))
    unfolding stick_table
    stick-kind = form-kind (form_of kind) refl

-- ---- all that bytes come to

abbrev JudgedKind : Connection → Store → List ℕ → Judged Effect → Type 0
JudgedKind c t u waiting = Unit {0}
JudgedKind c t u (settled e) = Kind c t u e

control-noted : (type : ℕ) → Noted (control_answer type)
unfolding control_answer
control-noted type =
    by-test (eqb type 0)
    (λ a. rw a tt)
    (λ a. rw a (by-test (eqb type 1) (λ b. rw b tt) (λ b. rw b (by-test (eqb type 2) (λ d. rw d tt) (λ d. rw d (by-test (eqb type 3) (λ e. rw e tt) (λ e. rw e tt)))))))

module _ (c : Connection) (t : Store) (u : List ℕ) where
  hello-kind : (h : Hello) → judge_hello (local_name c) (remote_name c) u ≡ h → JudgedKind c t u (hello_judged c h)
  unfolding hello_judged
  hello-kind hello.Waiting e = tt
  hello-kind (hello.Accepted p r) e = noted _ _ _ tt
  hello-kind (hello.Refused n) e = let k = hello-refusal (local_name c) (remote_name c) u n e in refuses c t u n (closes-low n k.0 (omega (arith, k.1))) (low-none n (omega (arith, k.1)))

  status-kind : (h : Status) → judge_status u ≡ h → JudgedKind c t u (status_judged c h)
  unfolding status_judged
  status-kind status.Waiting e = tt
  status-kind status.Accepted e = noted _ _ _ tt
  status-kind (status.Refused n) e = let k = status-refusal u n e in refuses c t u n (closes-low n (omega (arith, k.0)) k.1) (low-none n (omega (arith, k.1)))

  frame-kind : (f : Frame) → judge_frame u ≡ f → JudgedKind c t u (done_of c t.entries (frame_judged c t.tables u f))
  unfolding done_of frame_judged done refusal
  frame-kind frame.Waiting e = tt
  frame-kind (frame.Control type) e = unfold control in noted c (control_answer type) _ (control-noted type)
  frame-kind (frame.Error type) e = errored type
  frame-kind (frame.Body kind start end) e = stick-kind c t u kind start end e
  frame-kind (frame.Refused n) e = let k = refused-number u n e in refuses c t u n (closes-high n k.0 (omega (arith, k.1))) (low-none n k.1)

  none-kind : (j : Judged Effect) → JudgedKind c t u j → JudgedKind c t u (done_of c t.entries (asks_none j))
  unfolding done_of asks_none done
  none-kind waiting k = tt
  none-kind (settled e) k = k

  judge-kind : JudgedKind c t u (judge c t u)
  unfolding judge judge_bytes
  judge-kind =
      by-test (eqb c.phase 0)
      (λ a. rw a (none-kind _ (hello-kind (judge_hello (local_name c) (remote_name c) u) refl)))
      (λ a.
      rw a
      (by-test (eqb c.phase 1)
      (λ b. rw b (none-kind _ (status-kind (judge_status u) refl)))
      (λ b. rw b (frame-kind (judge_frame u) refl))))

  pub kind-of : (e : Effect) → judge c t u ≡ settled e → Kind c t u e
  kind-of e q = subst (JudgedKind c t u) q judge-kind
