-- What every answer of the byte model has from a sound record and store: its reply is short, record and store stay sound, and the ledger
-- follows.
use Rattle.std.specs.Prelude.{None, Some}
use Prim.Native.Nat.{ℕ, zero, suc, ◌+◌, ◌-◌, ◌^◌, ◌≤◌, ◌<◌}
use native.Mathlib.Omega.{arith}
use mathlib.Core.Path.{◌≡◌, refl, sym, ap, subst, ◌∙◌}
use mathlib.Core.List.{List, [], ◌∷◌}
use mathlib.Core.Bool.{true, false, cond, ◌&&◌, ◌||◌}
use mathlib.Core.Option.{Option, some, none}
use Rattle.std.specs.Prelude as std
use lib.ListN.{length, take, drop, get_or}
use lib.Dec.{eqb, leb, lit<}
use borrow.Author.Tests.{ne_eqb, eqb-false, le-leb, lt-leb}
use Rattle.lists.specs.Lists.{first_place}
use Rattle.lists.proofs.Places.{first-at}
use Rattle.wire.specs.Value.{Bytes}
use Rattle.wire.proofs.Sizes.{drop-bytes}
use Rattle.store.specs.declared.Table.{Table}
use Rattle.store.specs.declared.Entry.{Entry}
use Rattle.store.specs.declared.entries.Place.{Place}
use Rattle.store.specs.declared.entries.Place.TheVariants as place
use Rattle.store.specs.Store.{table_free, table_named, make_entry, no_table}
use Rattle.lists.proofs.Cases.{by-test, and_intro, or-false, cond-true, cond-false}
use Rattle.store.specs.declared.Store.{Store}
use Rattle.handshake.specs.declared.Hello.{Hello}
use Rattle.handshake.specs.declared.Hello.TheVariants as hello
use Rattle.handshake.specs.declared.Status.{Status}
use Rattle.handshake.specs.declared.Status.TheVariants as status
use Rattle.handshake.specs.Bytes as hb
use Rattle.handshake.specs.Handshake.{judge_hello, judge_status, hello_reply, status_line, lf}
use Rattle.handshake.proofs.HelloLaws.{hello-refusal, status-refusal}
use Rattle.frame.specs.declared.Frame.{Frame}
use Rattle.frame.specs.declared.Frame.TheVariants as frame
use Rattle.frame.specs.Frame.{judge_frame}
use Rattle.frame.proofs.Limits.{refused-number, whole-facts}
use Rattle.session.specs.declared.Connection.{Connection}
use Rattle.session.specs.declared.Commit.{Commit}
use Rattle.session.specs.declared.Commit.TheVariants as commit
use Rattle.session.specs.declared.Answer.{Answer}
use Rattle.session.specs.declared.Answer.TheVariants as answer
use Rattle.session.specs.Session.{local_name, remote_name, establish, find_bound, binding_at, is_updated}
use Rattle.session_soundness.specs.Sound.{is_closing, refuses_opening}
use Rattle.session.proofs.Bindings.{found-bound, committed-previous}
use Rattle.session_soundness.proofs.Keeping.{establish-keeps}
use Rattle.session.proofs.Shapes.{establish-shape}
use Rattle.body.specs.declared.Fault.{Fault}
use Rattle.body.specs.Fields.{Read, got, failed, span_in}
use Rattle.body.specs.declared.update.Update.{Update}
use Rattle.body.specs.Bodies.{definition_fields, switch_fields, acknowledgement_fields, update_fields, form_of}
use Rattle.body.specs.declared.update.Form.{Form}
use Rattle.body.proofs.Within.{UpdateRead, update-within}
use Rattle.message.specs.Targets.{goes_to}
use Rattle.session.specs.Answers.{refusal_of}
use Rattle.message.specs.declared.Effect.{Effect}
use Rattle.message.specs.Effects.{refuse_with, refuse, refusal, failure_number, refuse_body, note, fields_then, control, control_answer, control_reply, peer_error, define_at, define_new, define_named, agrees, definition, switch_to, switch, acknowledgement, skipped, commit_at, commit_entry, with_fields, following_id, update_of, update, other_message, by_form, defined_table, updated_entry, stick_table, done}
use Rattle.message.proofs.Acknowledging.{acknowledge-short}
use Rattle.message.proofs.Kept.{Held, Kept, failure-least, failure-most, stays-kept, refuse-with-kept, error-kept, note-kept, switch_kept, definition-kept, update-kept}
use Rattle.receiver.specs.Ledger.{Ledger, table_id, id_by, update_id, at, kind_of, next_id, explicit_id}
use Rattle.reassembly.specs.Judge.{Judged, waiting, settled, hello_judged, status_judged, frame_judged, asks_none, judge_bytes, done_of, judge}
use Rattle.receiver.proofs.Following.{Follows, Follow, refusal-none, current-some, last_some, refuse-follow, hello-follow, status-follow, error-follow, control-follow, skipped-follow, acknowledgement-follow, switch-follow, define-follow, commit-follow}
use Rattle.receiver.proofs.FirstFields.{definition-id, switch-id, update-explicit}

pub record Right (c : Connection) (s : Store) (m : List ℕ) (e : Effect) : Type 0 where
  pub short : length e.reply ≤ 12
  pub kept : Kept s e
  pub follow : Follow c m e

-- ---- refusals

closing-from : (n low high : ℕ) → low ≤ n → n ≤ high → (leb low n && leb n high) ≡ true
closing-from n low high a b = and_intro (leb low n) (leb n high) (le-leb low n a) (le-leb n high b)

closing-hello : (n : ℕ) → 10 ≤ n → n ≤ 15 → is_closing n ≡ true
unfolding is_closing refuses_opening
closing-hello n a b =
    rw (ne_eqb n 0 (λ e. let z : ⊥ = omega arith in z), ne_eqb n 1 (λ e. let z : ⊥ = omega arith in z), ne_eqb n 3 (λ e. let z : ⊥ = omega arith in z), closing-from n 10 15 a b) refl

closing-message : (n : ℕ) → 20 ≤ n → n ≤ 30 → is_closing n ≡ true
unfolding is_closing refuses_opening
closing-message n a b =
    rw (ne_eqb n 0 (λ e. let z : ⊥ = omega arith in z), ne_eqb n 1 (λ e. let z : ⊥ = omega arith in z), ne_eqb n 3 (λ e. let z : ⊥ = omega arith in z), lt-leb n 15 (let z : 15 < n = omega arith in z), closing-from n 20 30 a b, le-leb 10 n (let z : 10 ≤ n = omega arith in z)) refl

-- ---- control messages

control-short : (type : ℕ) → length (control_reply type) ≤ 12
unfolding control_reply
control-short type = by-test (leb 1 type && leb type 2) (λ a. rw a (omega arith)) (λ a. rw a (omega arith))

accepted-short : length (status_line 200) ≤ 12
unfolding status_line hb.decimal hb.decimal_in lf
accepted-short = omega arith

module _ (c : Connection) (s : Store) (h : Held c s) (m : List ℕ) where
  refuse-with-right : (n : ℕ) (a : Answer) → n < 2 ^ 8 → is_closing n ≡ true → refusal_of a ≡ some n → Right c s m (refuse_with c n a)
  refuse-with-right n a b k q = record {
    short = unfold refuse_with in omega (arith, (refusal-none n).short);
    kept = refuse-with-kept c s h n a k b;
    follow = refuse-follow c n a m q;
  }

  pub refuse-right : (n : ℕ) → n < 2 ^ 8 → is_closing n ≡ true → Right c s m (refuse c n)
  unfolding refuse
  refuse-right n b k = refuse-with-right n (answer.Refused n) b k (unfold refusal_of in refl)

  established : (a : Answer) (r : List ℕ) → Kept s (note (establish c) a r)
  unfolding note
  established a r =
      stays-kept c s h
      (record {
        store = h.store;
        store_shape = h.store_shape;
        connection = establish-keeps h.connection;
        connection_shape = establish-shape h.connection_shape;
      })

  control-right : (type : ℕ) → Right c s m (control c type)
  control-right type = record {
    short = unfold control note in control-short type;
    kept = unfold control in note-kept c s h (control_answer type) (control_reply type);
    follow = control-follow c type m;
  }

  error-right : (type : ℕ) → Right c s m (peer_error c type)
  error-right type = record {
    short = unfold peer_error note in omega arith;
    kept = error-kept c s h type;
    follow = error-follow c type m;
  }

-- ---- what unfinished bytes come to

abbrev pub JudgedRight : Connection → Store → List ℕ → Judged Effect → Type 0
JudgedRight c s m waiting = Unit {0}
JudgedRight c s m (settled e) = Right c s m e

module _ (c : Connection) (s : Store) (h : Held c s) (m : List ℕ) where
  hello-right : (j : Hello) → judge_hello (local_name c) (remote_name c) m ≡ j → JudgedRight c s m (hello_judged c j)
  unfolding hello_judged hello_reply
  hello-right hello.Waiting e = tt
  hello-right (hello.Accepted p r) e = record {
    short = unfold note in accepted-short;
    kept = established c s h m (answer.Hello p r) (status_line 200);
    follow = hello-follow c p r m;
  }
  hello-right (hello.Refused n) e =
      let k = hello-refusal (local_name c) (remote_name c) m n e in
      refuse-right c s h m n (omega (arith, k.1)) (closing-hello n k.0 (omega (arith, k.1)))

  status-right : (j : Status) → judge_status m ≡ j → JudgedRight c s m (status_judged c j)
  unfolding status_judged
  status-right status.Waiting e = tt
  status-right status.Accepted e = record {
    short = unfold note in omega arith;
    kept = established c s h m answer.Status [];
    follow = status-follow c m;
  }
  status-right (status.Refused n) e =
      let k = status-refusal m n e in
      refuse-right c s h m n (omega (arith, k.1)) (closing-hello n (omega (arith, k.0)) k.1)

-- ---- messages of class 10

module _ (c : Connection) (s : Store) (h : Held c s) (m : List ℕ) where
  message-refused : (n : ℕ) → 20 ≤ n → n ≤ 30 → Right c s m (refuse c n)
  message-refused n a b = refuse-right c s h m n (omega arith) (closing-message n a b)

  body_refused : (f : Fault) → Right c s m (refuse_body c f)
  unfolding refuse_body
  body_refused f =
      let n = failure_number f.failure in
      let most = failure-most f.failure in
      refuse-with-right c s h m n _ (omega arith) (closing-message n (failure-least f.failure) most) (unfold refusal_of in refl)

  noted : (a : Answer) → Follow c m (note c a []) → Right c s m (note c a [])
  noted a f = record { short = unfold note in omega arith; kept = note-kept c s h a []; follow = f }

  -- fields, then what the message does
  fields-right : {A : Type 0} (r : Read A) (f : A → Effect) → ((a : A) (n : ℕ) → r ≡ got a n → Right c s m (f a)) → Right c s m (fields_then (refuse_body c) r f)
  unfolding fields_then
  fields-right (got a n) f g = g a n refl
  fields-right (failed e) f g = body_refused e

  acknowledgement-right : (body : List ℕ) → Right c s m (acknowledgement c body)
  unfolding acknowledgement
  acknowledgement-right body =
      fields-right (acknowledgement_fields body) _
      (λ a n e. noted (answer.Acknowledgement a.id a.update) (acknowledgement-follow c a.id a.update m))

  skipped-right : (kind : ℕ) → Right c s m (skipped c kind)
  unfolding skipped
  skipped-right kind = noted (answer.Skipped kind) (skipped-follow c kind m)

  -- a switch, whose ID is the ledger's
  switch-to-right : (id : ℕ) → table_id m ≡ id → (f : std.Option ℕ) → find_bound c id ≡ f → Right c s m (switch_to c f)
  switch-to-right id q (Some p) e =
      let b = found-bound c id p e in
      let l : p < 8 = omega (arith, b.0, h.connection_shape.places) in
      record {
        short = unfold switch_to note in omega arith;
        kept = switch_kept c s h id (Some p) e;
        follow = unfold switch_to in switch-follow c id p m l b.1 q;
      }
  switch-to-right id q None e = unfold switch_to in message-refused 27 (omega arith) (omega arith)

  -- a definition, whose ID is the ledger's
  define-at-right : (id : ℕ) (t : Table) (p : ℕ) → table_id m ≡ id → p < length s.tables → Kept s (define_at c id t p) → Right c s m (define_at c id t p)
  define-at-right id t p e l k = record {
    short = unfold define_at in omega arith;
    kept = k;
    follow = define-follow c id t p m (omega (arith, h.store_shape.tables)) h.connection_shape.places e;
  }

  define-new-right : (id : ℕ) (t : Table) → table_id m ≡ id → (f : std.Option ℕ) → first_place table_free s.tables ≡ f → Kept s (define_new c id t f) → Right c s m (define_new c id t f)
  unfolding define_new
  define-new-right id t e (Some p) q k = define-at-right id t p e (first-at table_free s.tables p q).inside k
  define-new-right id t e None q k = message-refused 26 (omega arith) (omega arith)

  define-right : (id : ℕ) (t : Table) (name : List ℕ) → table_id m ≡ id → (f : std.Option ℕ) → first_place (table_named name) s.tables ≡ f
      → Kept s (define_named c s.tables id t f) → Right c s m (define_named c s.tables id t f)
  unfolding define_named
  define-right id t name e (Some p) q k =
      let x = agrees (get_or s.tables p no_table) t in
      by-test x
      (λ a.
      let w = cond-true x (define_at c id t p) (refuse c 25) a in
      rw w (define-at-right id t p e (first-at (table_named name) s.tables p q).inside (subst (Kept s) w k)))
      (λ a. rw (cond-false x (define_at c id t p) (refuse c 25) a) (message-refused 25 (omega arith) (omega arith)))
  define-right id t name e None q k = define-new-right id t e (first_place table_free s.tables) refl k

  -- ---- updates

  module _ (id : ℕ) (ids : (l : Ledger) → Follows c l → update_id m (at l.last l.current) ≡ some id) (e : Entry) (now : c.current ≡ e.table + 1) where
    small : e.table < 8
    small = let l = h.connection.current_limit in omega arith

    commit-at-right : (p : ℕ) (how : Commit) → Kept s (commit_at c id e p how) → Right c s m (commit_at c id e p how)
    commit-at-right p how k = record {
      short = reply-short p how k;
      kept = k;
      follow = commit-follow c id e p how m small h.connection_shape.places now (h.connection.current_bound e.table now)
          (h.connection_shape.binding e.table small).id (update-small k) ids;
    }
      where
        update-small : Kept s (commit_at c id e p how) → id < 2 ^ 32
        update-small k =
            unfold commit_at in
            subst (λ (n : ℕ). n < 2 ^ 32) (committed-previous c e.table id (omega (arith, small, h.connection_shape.places)))
            (k.connection_shape.binding e.table small).previous

        reply-short : (p : ℕ) (how : Commit) → Kept s (commit_at c id e p how) → length (commit_at c id e p how).reply ≤ 12
        reply-short p how k =
            unfold commit_at in
            acknowledge-short (binding_at c e.table).id id (h.connection_shape.binding e.table small).id

    commit-right : (f : Place) → Kept s (commit_entry c id e f) → Right c s m (commit_entry c id e f)
    unfolding commit_entry
    commit-right (place.Held p) k = commit-at-right p commit.Replaced k
    commit-right (place.Free p) k = commit-at-right p commit.New k
    commit-right place.Full k = message-refused 29 (omega arith) (omega arith)

-- ---- a whole message of class 10

take-bytes : (n : ℕ) (xs : List ℕ) → Bytes xs → Bytes (take n xs)
take-bytes n xs b = record { byte = go n xs b.byte }
  where
    go : (n : ℕ) (xs : List ℕ) → ((i : ℕ) → get_or xs i 0 < 256) → (i : ℕ) → get_or (take n xs) i 0 < 256
    go zero xs h i = lit< tt
    go (suc n) [] h i = h i
    go (suc n) (x ∷ xs) h zero = h zero
    go (suc n) (x ∷ xs) h (suc i) = go n xs (λ j. h (suc j)) i

module _ (c : Connection) (s : Store) (h : Held c s) (m : List ℕ) (mb : Bytes m) (kind start end : ℕ) (e : judge_frame m ≡ frame.Body kind start end) where
  abbrev body : List ℕ
  body = take (end - start) (drop start m)

  body_bytes : Bytes body
  body_bytes = take-bytes (end - start) (drop start m) (drop-bytes start mb)

  start-inside : start ≤ length m
  start-inside = let w = whole-facts m kind start end e in omega (arith, w.ordered, w.inside)

  kind-is : kind_of m ≡ kind
  unfolding kind_of
  kind-is = sym (whole-facts m kind start end e).type

  switch-right : Right c s m (switch c body)
  unfolding switch
  switch-right =
      fields-right c s h m (switch_fields body) _
      (λ id n q. switch-to-right c s h m id (switch-id m kind start end id n e start-inside q) (find_bound c id) refl)

  definition-right : Right c s m (definition c s.tables body)
  unfolding definition
  definition-right =
      fields-right c s h m (definition_fields body) _
      (λ d n q.
      define-right c s h m d.id (defined_table body d) (span_in body d.name) (definition-id m kind start end d n e start-inside q)
      (first_place (table_named (span_in body d.name)) s.tables) refl (definition-kept c s h body d n body_bytes q))

  made-now : (table : ℕ) (u : Update) → c.current ≡ table + 1 → c.current ≡ (updated_entry body table u).table + 1
  unfolding updated_entry make_entry
  made-now table u now = now

  following-small : (x : ℕ) → following_id x < 2 ^ 32
  unfolding following_id
  following-small x = omega arith

  -- the fields of an update of the current table, and its ID
  with-right : (form : Form) (following table : ℕ) (r : Read Update) → following < 2 ^ 32 → c.current ≡ table + 1
      → ((u : Update) (n : ℕ) → r ≡ got u n → UpdateRead form (get_or s.tables table no_table) following body u
      × ((l : Ledger) → Follows c l → update_id m (at l.last l.current) ≡ some u.id))
      → Right c s m (done c s.entries (with_fields c body table r))
  unfolding with_fields fields_then refusal done
  with-right form following table (got u n) within now facts =
      let w = facts u n refl in
      commit-right c s h m u.id w.1 (updated_entry body table u) (made-now table u now) (goes_to s.entries (updated_entry body table u))
      (update-kept c s h form following body table u body_bytes within now w.0)
  with-right form following table (failed e) within now facts = body_refused c s h m e

  current-is : eqb c.current 0 ≡ false → c.current ≡ c.current - 1 + 1
  current-is z = let q = eqb-false c.current 0 z in current-positive c.current q
    where
      current-positive : (n : ℕ) → (n ≡ 0 → ⊥) → n ≡ n - 1 + 1
      current-positive zero q = absurd (q refl)
      current-positive (suc n) q = omega arith

  -- the ledger's ID of an update of this form
  module _ (form : Form) (type : form_of kind ≡ some form) where
    id-is : (x : Option ℕ) → update_id m x ≡ cond form.explicit (some (explicit_id m)) (next_id x)
    unfolding update_id id_by
    id-is x = rw (kind-is, type)

    explicit-is : form.explicit ≡ true → (x : Option ℕ) → update_id m x ≡ some (explicit_id m)
    explicit-is k x = id-is x ∙ cond-true form.explicit (some (explicit_id m)) (next_id x) k

    next-is : form.explicit ≡ false → (table : ℕ) → c.current ≡ table + 1 → is_updated (binding_at c table) ≡ true → (l : Ledger) → Follows c l
        → update_id m (at l.last l.current) ≡ some (following_id (binding_at c table).previous)
    unfolding at next_id following_id
    next-is k table now y l f =
        let a : l.current ≡ some table = f.current ∙ current-some c table now in
        let b : at l.last l.current ≡ some (binding_at c table).previous = ap (at l.last) a ∙ (f.last table ∙ last_some c table y) in
        id-is (at l.last l.current)
        ∙ (cond-false form.explicit (some (explicit_id m)) (next_id (at l.last l.current)) k ∙ ap next_id b)

    module _ (table : ℕ) (now : c.current ≡ table + 1) (known : (form.explicit || is_updated (binding_at c table)) ≡ true) where
      abbrev following : ℕ
      following = following_id (binding_at c table).previous

      abbrev current : Table
      current = get_or s.tables table no_table

      posted : (u : Update) (n : ℕ) → update_fields form current following body ≡ got u n → (l : Ledger) → Follows c l
          → update_id m (at l.last l.current) ≡ some u.id
      posted u n q l f =
          by-test form.explicit
          (λ k. explicit-is k (at l.last l.current) ∙ ap some (update-explicit m kind start end form current following u n e start-inside k q))
          (λ k.
          next-is k table now (sym (or-false form.explicit (is_updated (binding_at c table)) k) ∙ known) l f
          ∙ ap some (sym ((update-within form current following body u n q).0.id-known k)))

      fields-known : Right c s m (done c s.entries (with_fields c body table (update_fields form current following body)))
      fields-known =
          with-right form following table (update_fields form current following body) (following-small (binding_at c table).previous) now
          (λ u n q. ((update-within form current following body u n q).0, posted u n q))

    update-right : Right c s m (done c s.entries (update form c s.tables body))
    unfolding update update_of refusal done
    update-right =
        by-test (eqb c.current 0)
        (λ z. rw z (message-refused c s h m 27 (omega arith) (omega arith)))
        (λ z.
        let table = c.current - 1 in
        rw z
        (by-test (form.explicit || is_updated (binding_at c table))
        (λ y. rw y (fields-known table (current-is z) y))
        (λ y. rw y (message-refused c s h m 28 (omega arith) (omega arith)))))

  other-right : Right c s m (other_message c s.tables kind body)
  unfolding other_message
  other-right =
      by-test (eqb kind 130)
      (λ d. rw d definition-right)
      (λ d.
      rw d
      (by-test (eqb kind 131)
      (λ f. rw f switch-right)
      (λ f.
      rw f
      (by-test (eqb kind 132) (λ g. rw g (acknowledgement-right c s h m body)) (λ g. rw g (skipped-right c s h m kind))))))

  form-right : (form : Option Form) → form_of kind ≡ form → Right c s m (done c s.entries (by_form c s.tables kind body form))
  unfolding by_form done
  form-right (some form) q = update-right form q
  form-right none q = other-right

  stick-right : Right c s m (done c s.entries (stick_table c s.tables kind body))
  unfolding stick_table
  stick-right = form-right (form_of kind) refl

module _ (c : Connection) (s : Store) (h : Held c s) (m : List ℕ) (mb : Bytes m) where
  frame_right : (f : Frame) → judge_frame m ≡ f → JudgedRight c s m (done_of c s.entries (frame_judged c s.tables m f))
  unfolding done_of frame_judged done refusal
  frame_right frame.Waiting e = tt
  frame_right (frame.Control type) e = control-right c s h m type
  frame_right (frame.Error type) e = error-right c s h m type
  frame_right (frame.Body kind start end) e = stick-right c s h m mb kind start end e
  frame_right (frame.Refused n) e =
      let k = refused-number m n e in
      refuse-right c s h m n (omega (arith, k.1)) (closing-message n k.0 (omega (arith, k.1)))

  none_right : (j : Judged Effect) → JudgedRight c s m j → JudgedRight c s m (done_of c s.entries (asks_none j))
  unfolding done_of asks_none done
  none_right waiting r = tt
  none_right (settled e) r = r

  pub judge-right : JudgedRight c s m (judge c s m)
  unfolding judge judge_bytes
  judge-right =
      by-test (eqb c.phase 0)
      (λ a. rw a (none_right _ (hello-right c s h m (judge_hello (local_name c) (remote_name c) m) refl)))
      (λ a.
      rw a
      (by-test (eqb c.phase 1)
      (λ b. rw b (none_right _ (status-right c s h m (judge_status m) refl)))
      (λ b. rw b (frame_right (judge_frame m) refl))))
