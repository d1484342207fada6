-- Laws over everything that bytes come to, on any record and store: it ends a message or closes the session; a refusal closes the record with its
-- number and changes nothing else; an update puts its entry at one place; the store stays for all but a table or an update; held tables stay held.
use Prim.Native.Nat.{ℕ, ◌+◌, ◌-◌, ◌<◌}
use native.Mathlib.Omega.{arith}
use mathlib.Core.Path.{◌≡◌, refl, sym, ap, subst, ◌∙◌}
use mathlib.Core.Option.{some}
use mathlib.Core.Bool.{true, false}
use mathlib.Core.List.{List}
use lib.ListN.{length}
use lib.Dec.{eqb}
use borrow.Author.Tests.{ne_eqb, eqb-false}
use Rattle.lists.proofs.Cases.{never}
use Rattle.store.specs.declared.Store.{Store}
use Rattle.store.specs.Store.{with_entries, put_table, put_entry, make_table, make_entry, table_held}
use Rattle.frame.specs.declared.Frame.TheVariants as frame
use Rattle.frame.specs.Frame.{judge_frame}
use Rattle.session.specs.declared.Connection.{Connection}
use Rattle.session.specs.declared.Commit.{Commit}
use Rattle.session.specs.declared.Answer.{Answer}
use Rattle.session.specs.declared.Answer.TheVariants as answer
use Rattle.session.specs.Session.{bind, binding_at, is_updated}
use Rattle.session_soundness.proofs.Facts.{held_at}
use Rattle.session_soundness.proofs.Keeping.{put-held}
use Rattle.body.specs.Fields.{got, span_in}
use Rattle.body.specs.declared.definition.Definition.{Definition}
use Rattle.body.specs.declared.update.Update.{Update}
use Rattle.body.specs.Bodies.{definition_fields, form_of}
use Rattle.body.specs.declared.update.Form.{Form}
use Rattle.message.specs.Changes.{no_change, table_change, entry_change, changed}
use Rattle.session.specs.Answers.{refusal_of, answer_values}
use Rattle.session.proofs.answers.Refusals.{of-refusal, no_number, same_number}
use Rattle.message.specs.declared.Effect.{Effect}
use Rattle.message.specs.Effects.{refuse_with, note, peer_error, defined_table, define_at, acknowledge, updated_entry, commit_at}
use Rattle.reassembly.specs.Judge.{settled, judge}
use Rattle.receiver.specs.Model.{ends_refused, ends}
use Rattle.receiver.specs.Corollaries.{TableWent, closes, fields_of, OffsetGiven}
use Rattle.receiver.proofs.EffectKinds as kinds
use Rattle.receiver.proofs.EffectKinds.{Noted, Went, Kind, body_in, kind-of}

-- ---- every answer ends a message or closes the session

not-closing : (n k : ℕ) → closes k ≡ false → closes n ≡ true → eqb n k ≡ false
not-closing n k f h = ne_eqb n k (λ e. never (ap closes (sym e) ∙ h) f)

few : (closes 1 ≡ false) × (closes 2 ≡ false) × (closes 4 ≡ false)
unfolding closes
few = (refl, refl, refl)

noted-ends : (a : Answer) → Noted a → ends a ≡ true
unfolding ends
noted-ends answer.More h = absurd h
noted-ends (answer.Hello process relative) h = refl
noted-ends answer.Status h = refl
noted-ends answer.Request h = refl
noted-ends answer.Finished h = refl
noted-ends answer.Partial h = refl
noted-ends answer.Confirmed h = refl
noted-ends answer.Heartbeat h = refl
noted-ends (answer.Error type) h = refl
noted-ends (answer.Table place) h = absurd h
noted-ends (answer.Switch place) h = refl
noted-ends (answer.Update table id entry how) h = absurd h
noted-ends (answer.Acknowledgement id update) h = refl
noted-ends (answer.Skipped kind) h = refl
noted-ends (answer.Refused n) h = absurd h
noted-ends (answer.RefusedAt n offset) h = absurd h

refusal-ends : (n : ℕ) (a : Answer) → closes n ≡ true → refusal_of a ≡ some n → ends a ≡ true
unfolding ends ends_refused
refusal-ends n a h q =
    of-refusal (λ (b : Answer). ends b ≡ true) n
    (rw (not-closing n 1 few.0 h, not-closing n 2 few.1 h, not-closing n 4 few.2 h))
    (λ offset. rw (not-closing n 1 few.0 h, not-closing n 2 few.1 h, not-closing n 4 few.2 h))
    a q

defined-held : (body : List ℕ) (d : Definition) → table_held (defined_table body d) ≡ true
unfolding defined_table make_table table_held
defined-held body d = refl

-- a refusal with this number: it closes the connection with it, and has an offset or not
pub record Refused (c : Connection) (t : Store) (u : List ℕ) (n : ℕ) (e : Effect) : Type 0 where
  pub closes : closes n ≡ true
  pub answer : Answer
  pub effect : e ≡ refuse_with c n answer
  pub offset : OffsetGiven c t u n (answer_values answer)

module _ (c : Connection) (t : Store) (u : List ℕ) where
  kind-ends : (e : Effect) → Kind c t u e → ends e.answer ≡ true
  kind-ends e (kinds.refused n a h q o) = unfold refuse_with in refusal-ends n a h q
  kind-ends e (kinds.noted d a reply h) = unfold note in noted-ends a h
  kind-ends e (kinds.errored type) = unfold peer_error note ends in refl
  kind-ends e (kinds.defined fields body place k) = unfold define_at ends in refl
  kind-ends e (kinds.committed fields body place how k) = unfold commit_at ends in refl

  pub settled-ends : (e : Effect) → judge c t u ≡ settled e → ends e.answer ≡ true
  settled-ends e q = kind-ends e (kind-of c t u e q)

  -- ---- refusals

  noted-refused : (a : Answer) (n : ℕ) → Noted a → refusal_of a ≡ some n → ⊥
  noted-refused a n h q = of-refusal (λ (b : Answer). Noted b → ⊥) n (λ k. k) (λ offset k. k) a q h

  kind-refused : (e : Effect) (n : ℕ) → Kind c t u e → refusal_of e.answer ≡ some n → Refused c t u n e
  unfolding refuse_with note peer_error define_at commit_at refusal_of
  kind-refused e n (kinds.refused k a h p o) q =
      let r : k ≡ n = same_number k n (sym p ∙ q) in
      record {
        closes = subst (λ (x : ℕ). closes x ≡ true) r h;
        answer = a;
        effect = ap (λ (x : ℕ). refuse_with c x a) r;
        offset = subst (λ (x : ℕ). OffsetGiven c t u x (answer_values a)) r o;
      }
  kind-refused e n (kinds.noted d a reply h) q = absurd (noted-refused a n h q)
  kind-refused e n (kinds.errored type) q = absurd (no_number n q)
  kind-refused e n (kinds.defined fields body place k) q = absurd (no_number n q)
  kind-refused e n (kinds.committed fields body place how k) q = absurd (no_number n q)

  pub settled-refused : (e : Effect) → judge c t u ≡ settled e → (n : ℕ) → refusal_of e.answer ≡ some n → Refused c t u n e
  settled-refused e q n a = kind-refused e n (kind-of c t u e q) a

  -- ---- the store stays for every answer but a table or an update

  kind-stays : (e : Effect) → Kind c t u e → ((place : ℕ) → e.answer ≡ answer.Table place → ⊥)
      → ((table id place : ℕ) (how : Commit) → e.answer ≡ answer.Update table id place how → ⊥) → changed t e.change ≡ t
  unfolding refuse_with refusal_of note peer_error define_at commit_at changed no_change
  kind-stays e (kinds.refused n a h r o) f g = refl
  kind-stays e (kinds.noted d a reply h) f g = refl
  kind-stays e (kinds.errored type) f g = refl
  kind-stays e (kinds.defined fields body place k) f g = absurd (f place refl)
  kind-stays e (kinds.committed fields body place how k) f g = absurd (g _ _ place how refl)

  pub store-stays : (e : Effect) → judge c t u ≡ settled e → ((place : ℕ) → e.answer ≡ answer.Table place → ⊥)
      → ((table id place : ℕ) (how : Commit) → e.answer ≡ answer.Update table id place how → ⊥) → changed t e.change ≡ t
  store-stays e q = kind-stays e (kind-of c t u e q)

  -- ---- held tables stay held

  kind_grows : (e : Effect) → Kind c t u e → (i : ℕ) → held_at t.tables i ≡ true → held_at (changed t e.change).tables i ≡ true
  unfolding refuse_with refusal_of note peer_error define_at commit_at changed no_change table_change entry_change put_table put_entry with_entries
  kind_grows e (kinds.refused n a h r o) i k = k
  kind_grows e (kinds.noted d a reply h) i k = k
  kind_grows e (kinds.errored type) i k = k
  kind_grows e (kinds.defined fields body place d) i k = put-held t.tables place (defined_table body fields) (defined-held body fields) i k
  kind_grows e (kinds.committed fields body place how w) i k = k

  pub settled-grows : (e : Effect) → judge c t u ≡ settled e → (i : ℕ) → held_at t.tables i ≡ true → held_at (changed t e.change).tables i ≡ true
  settled-grows e q = kind_grows e (kind-of c t u e q)

-- ---- an update

pub record Updated (c : Connection) (t : Store) (u : List ℕ) (table id place : ℕ) (how : Commit) (e : Effect) : Type 0 where
  pub kind : ℕ
  pub start : ℕ
  pub end : ℕ
  pub framed : judge_frame u ≡ frame.Body kind start end
  pub form : Form
  pub type : form_of kind ≡ some form
  pub current : c.current ≡ table + 1
  pub previous : form.explicit ≡ false → is_updated (binding_at c table) ≡ true
  pub fields : Update
  pub after : ℕ
  pub read : fields_of c t table form (body_in u start end) ≡ got fields after
  pub own-id : fields.id ≡ id
  pub inside : place < length t.entries
  pub went : Went t (updated_entry (body_in u start end) table fields) place how
  pub store : changed t e.change ≡ put_entry t place (updated_entry (body_in u start end) table fields)
  pub reply : e.reply ≡ acknowledge (binding_at c table).id id

module _ (c : Connection) (t : Store) (u : List ℕ) (table id place : ℕ) (how : Commit) where
  noted-update : (a : Answer) → Noted a → a ≡ answer.Update table id place how → ⊥
  noted-update a h q = subst Noted q h

  kind-updated : (e : Effect) → Kind c t u e → e.answer ≡ answer.Update table id place how → Updated c t u table id place how e
  unfolding refuse_with refusal_of note peer_error define_at commit_at changed entry_change updated_entry make_entry
  kind-updated e (kinds.refused n a h r o) q = absurd (no_number n (sym (ap refusal_of q) ∙ r))
  kind-updated e (kinds.noted d a reply h) q = absurd (noted-update a h q)
  kind-updated e (kinds.errored type) q = absurd (let z : ◌≡◌ {A = ℕ} 0 1 = cc in omega arith)
  kind-updated e (kinds.defined fields body p k) q = absurd (let z : ◌≡◌ {A = ℕ} 0 1 = cc in omega arith)
  kind-updated e (kinds.committed fields body p h k) q =
      let now = c.current - 1 in
      let a : c.current - 1 ≡ table = cc in
      let b : fields.id ≡ id = cc in
      let d : p ≡ place = cc in
      let g : h ≡ how = cc in
      let z = eqb-false c.current 0 k.current in
      let w : c.current ≡ (c.current - 1) + 1 = omega (arith, z) in
      record {
        kind = k.kind;
        start = k.start;
        end = k.end;
        framed = k.framed;
        form = k.form;
        type = k.type;
        current = w ∙ ap (λ (n : ℕ). n + 1) a;
        previous = λ y. subst (λ (n : ℕ). is_updated (binding_at c n) ≡ true) a (k.previous y);
        fields = fields;
        after = k.after;
        read = subst (λ (x : List ℕ). fields_of c t table k.form x ≡ got fields k.after) k.body_is
            (subst (λ (n : ℕ). fields_of c t n k.form body ≡ got fields k.after) a k.read);
        own-id = b;
        inside = subst (λ (n : ℕ). n < length t.entries) d k.inside;
        went =
            subst (λ (x : List ℕ). Went t (updated_entry x table fields) place how) k.body_is
            (subst (λ (n : ℕ). Went t (updated_entry body n fields) place how) a
            (subst (λ (x : Commit). Went t (updated_entry body now fields) place x) g
            (subst (λ (n : ℕ). Went t (updated_entry body now fields) n h) d k.went)));
        store =
            ap (λ (n : ℕ). put_entry t n (updated_entry body now fields)) d
            ∙ (ap (λ (n : ℕ). put_entry t place (updated_entry body n fields)) a ∙ ap (λ (x : List ℕ). put_entry t place (updated_entry x table fields)) k.body_is);
        reply = ap (acknowledge (binding_at c now).id) b ∙ ap (λ (n : ℕ). acknowledge (binding_at c n).id id) a;
      }

  pub updated : (e : Effect) → judge c t u ≡ settled e → e.answer ≡ answer.Update table id place how → Updated c t u table id place how e
  updated e q = kind-updated e (kind-of c t u e q)

-- ---- a definition

pub record Defined (c : Connection) (t : Store) (u : List ℕ) (place : ℕ) (e : Effect) : Type 0 where
  pub start : ℕ
  pub end : ℕ
  pub framed : judge_frame u ≡ frame.Body 130 start end
  pub fields : Definition
  pub after : ℕ
  pub read : definition_fields (body_in u start end) ≡ got fields after
  pub inside : place < length t.tables
  pub went : TableWent t (span_in (body_in u start end) fields.name) (defined_table (body_in u start end) fields) place
  pub connection : e.connection ≡ bind c place fields.id
  pub store : changed t e.change ≡ put_table t place (defined_table (body_in u start end) fields)

module _ (c : Connection) (t : Store) (u : List ℕ) (place : ℕ) where
  noted-table : (a : Answer) → Noted a → a ≡ answer.Table place → ⊥
  noted-table a h q = subst Noted q h

  kind-defined : (e : Effect) → Kind c t u e → e.answer ≡ answer.Table place → Defined c t u place e
  unfolding refuse_with refusal_of note peer_error define_at commit_at changed table_change
  kind-defined e (kinds.refused n a h r o) q = absurd (no_number n (sym (ap refusal_of q) ∙ r))
  kind-defined e (kinds.noted d a reply h) q = absurd (noted-table a h q)
  kind-defined e (kinds.errored type) q = absurd (let z : ◌≡◌ {A = ℕ} 0 1 = cc in omega arith)
  kind-defined e (kinds.defined fields body p k) q =
      let d : p ≡ place = cc in
      record {
        start = k.start;
        end = k.end;
        framed = k.framed;
        fields = fields;
        after = k.after;
        read = subst (λ (x : List ℕ). definition_fields x ≡ got fields k.after) k.body_is k.read;
        inside = subst (λ (n : ℕ). n < length t.tables) d k.inside;
        went =
            subst (λ (x : List ℕ). TableWent t (span_in x fields.name) (defined_table x fields) place) k.body_is
            (subst (TableWent t (span_in body fields.name) (defined_table body fields)) d k.went);
        connection = ap (λ (n : ℕ). bind c n fields.id) d;
        store =
            ap (λ (n : ℕ). put_table t n (defined_table body fields)) d ∙ ap (λ (x : List ℕ). put_table t place (defined_table x fields)) k.body_is;
      }
  kind-defined e (kinds.committed fields body p how k) q = absurd (let z : ◌≡◌ {A = ℕ} 0 1 = cc in omega arith)

  pub defined : (e : Effect) → judge c t u ≡ settled e → e.answer ≡ answer.Table place → Defined c t u place e
  defined e q = kind-defined e (kind-of c t u e q)
