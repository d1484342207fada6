-- Past its handshake a session stays so: no message changes the phase.
use Rattle.std.specs.Prelude.{Some, None}
use Rattle.std.specs.Prelude as std
use Prim.Native.Nat.{ℕ, ◌-◌}
use native.Mathlib.Omega.{arith}
use mathlib.Core.Path.{◌≡◌, sym, ap, ◌∙◌}
use mathlib.Core.List.{List, [], ◌∷◌, ◌++◌}
use mathlib.Core.Bool.{◌||◌}
use mathlib.Core.Option.{Option, some, none}
use lib.Dec.{ltb, eqb}
use lib.ListN.{get_or}
use borrow.Author.Tests.{ne_eqb}
use Rattle.lists.proofs.Cases.{by-test}
use Rattle.lists.specs.Lists.{first_place}
use Rattle.store.specs.declared.Table.{Table}
use Rattle.store.specs.declared.Entry.{Entry}
use Rattle.store.specs.declared.Store.{Store}
use Rattle.store.specs.declared.entries.Place.{Place}
use Rattle.store.specs.declared.entries.Place.TheVariants as place
use Rattle.store.specs.Store.{table_free, no_table}
use Rattle.frame.specs.declared.Frame.{Frame}
use Rattle.frame.specs.declared.Frame.TheVariants as frame
use Rattle.frame.specs.Frame.{judge_frame}
use Rattle.session.specs.declared.Connection.{Connection}
use Rattle.session.specs.declared.Session.{Session}
use Rattle.session.specs.declared.Answer.{Answer}
use Rattle.session.specs.Session.{established, is_closed, holding, closed_with, with_tables, make_current, bind, committed, is_updated, binding_at}
use Rattle.session_soundness.specs.Sound.{sound}
use Rattle.body.specs.declared.update.Form.{Form}
use Rattle.body.specs.Fields.{Read, got, failed}
use Rattle.body.specs.declared.update.Update.{Update}
use Rattle.body.specs.Bodies.{form_of}
use Rattle.message.specs.declared.Effect.{Effect}
use Rattle.message.specs.Effects.{refuse_with, refuse, refusal, refuse_body, note, fields_then, control, peer_error, define_at, define_new, define_named, agrees, definition, switch_to, switch, acknowledgement, skipped, with_fields, update_of, update, other_message, by_form, stick_table, commit_at, commit_entry, done}
use Rattle.reassembly.specs.Judge.{Judged, waiting, settled, judge, judge_bytes, frame_judged, done_of}
use Rattle.streams.specs.Model.{Fed, state_of}
use Rattle.streams.specs.Calls.{Call, scan}
use Rattle.streams.proofs.Basics.{by-fed}
use Rattle.streams.proofs.OneCall.{scan-nil, scan-quiet, scan-answered}
use Rattle.receiver.specs.Model.{State, held_by, feed, joined, reply_room, peers}
use Rattle.receiver.specs.Promise.{call_of, session_of}

-- ---- what a message does

module _ (c : Connection) (p : c.phase ≡ established) where
  abbrev Stays : Effect → Type 0
  Stays e = e.connection.phase ≡ established

  refuse-stays : (n : ℕ) → Stays (refuse c n)
  unfolding refuse refuse_with closed_with
  refuse-stays n = p

  fields-stay : {A : Type 0} (r : Read A) (f : A → Effect) → ((a : A) → Stays (f a)) → Stays (fields_then (refuse_body c) r f)
  unfolding fields_then refuse_body refuse_with closed_with
  fields-stay (got a n) f g = g a
  fields-stay (failed e) f g = p

  note-stays : (a : Answer) (reply : List ℕ) → Stays (note c a reply)
  unfolding note
  note-stays a reply = p

  define-stays : (id : ℕ) (t : Table) (i : ℕ) → Stays (define_at c id t i)
  unfolding define_at bind with_tables
  define-stays id t i = p

  new-stays : (id : ℕ) (t : Table) (f : std.Option ℕ) → Stays (define_new c id t f)
  unfolding define_new
  new-stays id t (Some i) = define-stays id t i
  new-stays id t None = refuse-stays 26

  named-stays : (tables : List Table) (id : ℕ) (t : Table) (f : std.Option ℕ) → Stays (define_named c tables id t f)
  unfolding define_named
  named-stays tables id t (Some i) =
      by-test (agrees (get_or tables i no_table) t)
      (λ a. rw a (define-stays id t i))
      (λ a. rw a (refuse-stays 25))
  named-stays tables id t None = new-stays id t (first_place table_free tables)

  switch-stays : (f : std.Option ℕ) → Stays (switch_to c f)
  unfolding switch_to note make_current with_tables
  switch-stays (Some i) = p
  switch-stays None = refuse-stays 27

  commit-stays : (id : ℕ) (e : Entry) (q : Place) → Stays (commit_entry c id e q)
  unfolding commit_entry commit_at committed with_tables
  commit-stays id e (place.Held i) = p
  commit-stays id e (place.Free i) = p
  commit-stays id e place.Full = refuse-stays 29

  other-stays : (tables : List Table) (kind : ℕ) (body : List ℕ) → Stays (other_message c tables kind body)
  unfolding other_message definition switch acknowledgement skipped
  other-stays tables kind body =
      by-test (eqb kind 130)
      (λ a. rw a (fields-stay _ _ (λ d. named-stays tables _ _ _)))
      (λ a.
      rw a
      (by-test (eqb kind 131)
      (λ b. rw b (fields-stay _ _ (λ id. switch-stays _)))
      (λ b.
      rw b
      (by-test (eqb kind 132)
      (λ d. rw d (fields-stay _ _ (λ x. note-stays _ _)))
      (λ d. rw d (note-stays _ _))))))

  module _ (entries : List Entry) where
    with-stays : (body : List ℕ) (table : ℕ) (r : Read Update) → Stays (done c entries (with_fields c body table r))
    unfolding with_fields fields_then done refuse_body refuse_with closed_with
    with-stays body table (got f n) = commit-stays _ _ _
    with-stays body table (failed f) = p

    update-stays : (form : Form) (tables : List Table) (body : List ℕ) → Stays (done c entries (update form c tables body))
    unfolding update update_of refusal done
    update-stays form tables body =
        by-test (eqb c.current 0)
        (λ a. rw a (refuse-stays 27))
        (λ a.
        rw a
        (by-test (form.explicit || is_updated (binding_at c (c.current - 1)))
        (λ b. rw b (with-stays body (c.current - 1) _))
        (λ b. rw b (refuse-stays 28))))

    form-stays : (tables : List Table) (kind : ℕ) (body : List ℕ) (form : Option Form) → Stays (done c entries (by_form c tables kind body form))
    unfolding by_form done
    form-stays tables kind body (some form) = update-stays form tables body
    form-stays tables kind body none = other-stays tables kind body

  -- ---- what bytes come to

  abbrev StaysJudged : Judged Effect → Type 0
  StaysJudged waiting = Unit {0}
  StaysJudged (settled e) = Stays e

  frame-stays : (t : Store) (u : List ℕ) (f : Frame) → StaysJudged (done_of c t.entries (frame_judged c t.tables u f))
  unfolding done_of frame_judged done refusal control peer_error note closed_with stick_table
  frame-stays t u frame.Waiting = tt
  frame-stays t u (frame.Control type) = p
  frame-stays t u (frame.Error type) = p
  frame-stays t u (frame.Body kind start end) = form-stays t.entries t.tables kind _ (form_of kind)
  frame-stays t u (frame.Refused n) = refuse-stays n

  judge-stays : (t : Store) (u : List ℕ) → StaysJudged (judge c t u)
  unfolding judge judge_bytes
  judge-stays t u =
      let a : c.phase ≡ 0 → ⊥ = λ z. omega (arith, p) in
      let b : c.phase ≡ 1 → ⊥ = λ z. omega (arith, p) in
      rw (ne_eqb c.phase 0 a, ne_eqb c.phase 1 b) (frame-stays t u (judge_frame u))

  joined-stays : (t : Store) (u : List ℕ) (j : Judged Effect) → StaysJudged j → (state_of (joined c t u j)).connection.phase ≡ established
  unfolding joined
  joined-stays t u waiting h = p
  joined-stays t u (settled e) h = h

feed-stays : (s : State) (b : ℕ) → s.connection.phase ≡ established → (state_of (feed s b)).connection.phase ≡ established
unfolding feed
feed-stays s b p =
    let c = s.connection in
    let u = s.unfinished ++ (b ∷ []) in
    by-test (is_closed c)
    (λ a. rw a p)
    (λ a. rw a (joined-stays c p s.store u (judge c s.store u) (judge-stays c p s.store u)))

scan-stays : (piece : List ℕ) (s : State) → s.connection.phase ≡ established → (scan peers s piece).state.connection.phase ≡ established
scan-stays [] s p = ap (λ (k : Call State Answer). k.state.connection.phase) (scan-nil peers s) ∙ p
scan-stays (b ∷ bs) s p =
    let phase_of : State → ℕ = λ x. x.connection.phase in
    by-fed (feed s b)
    (λ x h.
    ap (λ (k : Call State Answer). phase_of k.state) (scan-quiet peers s x b bs h)
    ∙ scan-stays bs x (sym (ap (λ (f : Fed State Answer). phase_of (state_of f)) h) ∙ feed-stays s b p))
    (λ a r x h.
    ap (λ (k : Call State Answer). phase_of k.state) (scan-answered peers s x b bs a r h)
    ∙ (sym (ap (λ (f : Fed State Answer). phase_of (state_of f)) h) ∙ feed-stays s b p))

-- ---- a call

call_stays : (s : Session) (t : Store) (piece : List ℕ) (room : ℕ) → s.connection.phase ≡ established
    → (call_of s t piece room).state.connection.phase ≡ established
unfolding call_of held_by
call_stays s t piece room p =
    by-test (ltb room reply_room)
    (λ a. rw a p)
    (λ a.
    rw a
    (by-test (sound s t)
    (λ b. rw b (by-test (is_closed s.connection) (λ d. rw d p) (λ d. rw d (scan-stays piece (held_by s t) p))))
    (λ b. rw b p)))

pub established-stays : (s : Session) (t : Store) (piece : List ℕ) (room : ℕ) → s.connection.phase ≡ established
    → (session_of s (call_of s t piece room)).connection.phase ≡ established
unfolding session_of holding
established-stays s t piece room p =
    let k = call_of s t piece room in
    by-test (eqb k.taken 0)
    (λ a. rw a p)
    (λ a. rw a (call_stays s t piece room p))
