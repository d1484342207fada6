-- No reply that a message comes to is longer than twelve bytes.
use Rattle.std.proofs.Common.{◌≡◌, ℕ, ◌-◌, ◌^◌, ◌≤◌, ◌<◌, ◌&&◌, ◌||◌, ◌==◌, nat_le, List, length, slice_index_or, arith, lit<, refl, subst, Option, Some, None}
use Rattle.std.proofs.Math.Option as math
use Rattle.std.proofs.Math.ListN.{get_or-eq_default}
use Rattle.frame.specs.Frame.{definition_type, switch_type, acknowledgement_type}
use Rattle.lists.specs.Lists.{first_place}
use Rattle.lists.proofs.Cases.{by-test, lt-or-le, split}
use Rattle.store.specs.declared.Table.{Table}
use Rattle.store.specs.declared.Entry.{Entry}
use Rattle.store.specs.declared.entries.Place.{Place}
use Rattle.store.specs.declared.entries.Place.TheVariants as place
use Rattle.store.specs.Store.{table_free, table_named, no_table}
use Rattle.session.specs.declared.Connection.{Connection}
use Rattle.session.specs.declared.Commit.{Commit}
use Rattle.session.specs.declared.Commit.TheVariants as commit
use Rattle.session.specs.declared.Answer.{Answer}
use Rattle.session.specs.declared.Answer.TheVariants as answer
use Rattle.session.specs.Session.{find_bound, binding_at, no_binding, is_updated}
use Rattle.session.specs.Shape.{ConnectionShape}
use Rattle.session.proofs.Replies.{refusal-short}
use Rattle.body.specs.declared.Fault.{Fault}
use Rattle.body.specs.declared.update.Form.{Form}
use Rattle.body.specs.Fields.{Read, got, failed, span_in}
use Rattle.body.specs.Bodies.{definition_fields, switch_fields, acknowledgement_fields, update_fields, form_of}
use Rattle.message.specs.Effects
use Rattle.message.specs.Effects.{Effect, Asks, does, commits}
use Rattle.message.specs.Structs.{finished}
use Rattle.message.proofs.Acknowledging.{acknowledge-short}

-- what is done before the entries are looked at has a reply of at most twelve bytes
pub record ShortAsk (a : Asks) : Type 0 where
  pub short : (e : Effect) → a ≡ does e → length e.reply ≤ 12

pub done-short : (e : Effect) → length e.reply ≤ 12 → ShortAsk (does e)
done-short e l = record { short = λ f q. let p : e ≡ f = cc in subst (λ (x : Effect). length x.reply ≤ 12) p l }

commits-short : (id : ℕ) (e : Entry) → ShortAsk (commits id e)
commits-short id e = record { short = λ f q. absurd (let z : ◌≡◌ {A = ℕ} 0 1 = cc in omega arith) }

pub control-short : (type : ℕ) → length (Effects.control_reply type) ≤ 4
unfolding Effects.control_reply
control-short type = by-test (nat_le 1 type && nat_le type 2) (λ a. rw a (omega arith)) (λ a. rw a (omega arith))

-- fields, then what the message does
module _ {A : Type 0} where
  fields-short : (refused : Fault → Effect) (r : Read A) (whole : A → Effect) → ((f : Fault) → length (refused f).reply ≤ 12)
      → ((a : A) → length (whole a).reply ≤ 12) → length (Effects.fields_then refused r whole).reply ≤ 12
  unfolding Effects.fields_then
  fields-short refused (got a at) whole f g = g a
  fields-short refused (failed x) whole f g = f x

  fields-asked : (refused : Fault → Asks) (r : Read A) (whole : A → Asks) → ((f : Fault) → ShortAsk (refused f))
      → ((a : A) → ShortAsk (whole a)) → ShortAsk (Effects.fields_then refused r whole)
  unfolding Effects.fields_then
  fields-asked refused (got a at) whole f g = g a
  fields-asked refused (failed x) whole f g = f x

module _ (c : Connection) where
  refuse-with-short : (n : ℕ) (a : Answer) → length (Effects.refuse_with c n a).reply ≤ 12
  unfolding Effects.refuse_with
  refuse-with-short n a = omega (arith, refusal-short n)

  pub refuse-short : (n : ℕ) → length (Effects.refuse c n).reply ≤ 12
  unfolding Effects.refuse
  refuse-short n = refuse-with-short n (answer.Refused n)

  pub refuse-body-short : (f : Fault) → length (Effects.refuse_body c f).reply ≤ 12
  unfolding Effects.refuse_body
  refuse-body-short f = refuse-with-short (Effects.failure_number f.failure) (answer.RefusedAt (Effects.failure_number f.failure) f.start)

  pub refusal-asked : (n : ℕ) → ShortAsk (Effects.refusal c n)
  unfolding Effects.refusal
  refusal-asked n = done-short (Effects.refuse c n) (refuse-short n)

  -- ---- control and error messages, and those of other types
  pub controlled-short : (type : ℕ) → length (Effects.control c type).reply ≤ 12
  unfolding Effects.control Effects.note
  controlled-short type = omega (arith, control-short type)

  pub error-short : (type : ℕ) → length (Effects.peer_error c type).reply ≤ 12
  unfolding Effects.peer_error Effects.note
  error-short type = omega arith

  pub skipped-short : (type : ℕ) → length (Effects.skipped c type).reply ≤ 12
  unfolding Effects.skipped Effects.note
  skipped-short type = omega arith

  -- ---- definition
  define-at-short : (id : ℕ) (t : Table) (place : ℕ) → length (Effects.define_at c id t place).reply ≤ 12
  unfolding Effects.define_at
  define-at-short id t place = omega arith

  define-new-short : (id : ℕ) (t : Table) (place : Option ℕ) → length (Effects.define_new c id t place).reply ≤ 12
  unfolding Effects.define_new
  define-new-short id t (Some place) = define-at-short id t place
  define-new-short id t None = refuse-short 26

  define-named-short : (tables : List Table) (id : ℕ) (t : Table) (place : Option ℕ) → length (Effects.define_named c tables id t place).reply ≤ 12
  unfolding Effects.define_named
  define-named-short tables id t (Some place) =
      by-test (Effects.agrees (slice_index_or tables place no_table) t)
      (λ a. rw a (define-at-short id t place))
      (λ a. rw a (refuse-short 25))
  define-named-short tables id t None = define-new-short id t (first_place table_free tables)

  pub definition-short : (tables : List Table) (body : List ℕ) → length (Effects.definition c tables body).reply ≤ 12
  unfolding Effects.definition
  definition-short tables body =
      fields-short (Effects.refuse_body c) (definition_fields body) _ refuse-body-short
      (λ d. define-named-short tables d.id (Effects.defined_table body d) (first_place (table_named (span_in body d.name)) tables))

  -- ---- switch, acknowledgement
  switch-to-short : (place : Option ℕ) → length (Effects.switch_to c place).reply ≤ 12
  unfolding Effects.switch_to Effects.note
  switch-to-short (Some place) = omega arith
  switch-to-short None = refuse-short 27

  pub switch-short : (body : List ℕ) → length (Effects.switch c body).reply ≤ 12
  unfolding Effects.switch
  switch-short body = fields-short (Effects.refuse_body c) (switch_fields body) _ refuse-body-short (λ id. switch-to-short (find_bound c id))

  pub acknowledgement-short : (body : List ℕ) → length (Effects.acknowledgement c body).reply ≤ 12
  unfolding Effects.acknowledgement Effects.note
  acknowledgement-short body =
      fields-short (Effects.refuse_body c) (acknowledgement_fields body) _ refuse-body-short (λ a. omega arith)

  -- ---- updates
  update-of-short : (form : Form) (tables : List Table) (table : ℕ) (body : List ℕ) → ShortAsk (Effects.update_of form c tables table body)
  unfolding Effects.update_of Effects.with_fields
  update-of-short form tables table body =
      by-test (form.explicit || is_updated (binding_at c table))
      (λ a.
      rw a
      (fields-asked (λ f. does (Effects.refuse_body c f))
      (update_fields form (slice_index_or tables table no_table) (Effects.following_id (binding_at c table).previous) body) _
      (λ f. done-short (Effects.refuse_body c f) (refuse-body-short f))
      (λ u. commits-short u.id (Effects.updated_entry body table u))))
      (λ a. rw a (refusal-asked 28))

  pub update-short : (form : Form) (tables : List Table) (body : List ℕ) → ShortAsk (Effects.update form c tables body)
  unfolding Effects.update
  update-short form tables body =
      by-test (c.current == 0) (λ a. rw a (refusal-asked 27)) (λ a. rw a (update-of-short form tables (c.current - 1) body))

  -- ---- a message of class 10
  other-short : (tables : List Table) (kind : ℕ) (body : List ℕ) → length (Effects.other_message c tables kind body).reply ≤ 12
  unfolding Effects.other_message
  other-short tables kind body =
      by-test (kind == definition_type)
      (λ a. rw a (definition-short tables body))
      (λ a.
      rw a
      (by-test (kind == switch_type)
      (λ b. rw b (switch-short body))
      (λ b. rw b (by-test (kind == acknowledgement_type) (λ d. rw d (acknowledgement-short body)) (λ d. rw d (skipped-short kind))))))

  by-form-short : (tables : List Table) (kind : ℕ) (body : List ℕ) (form : math.Option Form) → ShortAsk (Effects.by_form c tables kind body form)
  unfolding Effects.by_form
  by-form-short tables kind body (math.some form) = update-short form tables body
  by-form-short tables kind body math.none = done-short (Effects.other_message c tables kind body) (other-short tables kind body)

  pub stick-table-short : (tables : List Table) (kind : ℕ) (body : List ℕ) → ShortAsk (Effects.stick_table c tables kind body)
  unfolding Effects.stick_table
  stick-table-short tables kind body = by-form-short tables kind body (form_of kind)

  -- ---- the entry committed: a bound ID is below 2^32, and past the last place 0
  unbound : ConnectionShape c → (table : ℕ) → 8 ≤ table → (binding_at c table).id < 2 ^ 32
  unfolding binding_at no_binding
  unbound h table l =
      let k : length c.bindings ≤ table = omega (arith, h.places, l) in
      rw (get_or-eq_default c.bindings no_binding k) (lit< tt)

  bound-small : ConnectionShape c → (table : ℕ) → (binding_at c table).id < 2 ^ 32
  bound-small h table = split (lt-or-le table 8) (λ l. (h.binding table l).id) (unbound h table)

  pub commit-short : ConnectionShape c → (id : ℕ) (e : Entry) (place : ℕ) (how : Commit) → length (Effects.commit_at c id e place how).reply ≤ 12
  unfolding Effects.commit_at
  commit-short h id e place how = acknowledge-short (binding_at c e.table).id id (bound-small h e.table)

  pub commit-entry-short : ConnectionShape c → (id : ℕ) (e : Entry) (p : Place) → length (Effects.commit_entry c id e p).reply ≤ 12
  unfolding Effects.commit_entry
  commit-entry-short h id e (place.Held i) = commit-short h id e i commit.Replaced
  commit-entry-short h id e (place.Free i) = commit-short h id e i commit.New
  commit-entry-short h id e place.Full = refuse-short 29

  pub finished-short : ConnectionShape c → (p : Place) (a : Asks) → ShortAsk a → length (finished c p a).reply ≤ 12
  unfolding finished
  finished-short h p (does e) s = s.short e refl
  finished-short h p (commits id e) s = commit-entry-short h id e p
