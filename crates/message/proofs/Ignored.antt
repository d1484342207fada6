-- "Bytes after the known fields are ignored.": added to the body of an accepted message they change nothing; of a definition, where it has its
-- expiry.
use Rattle.std.proofs.Common.{◌≡◌, ℕ, ◌-◌, Bool, true, false, ◌||◌, eqb, List, ◌++◌, get_or, sym, refl, ap, ◌∙◌, true≢false, eqb-true}
use mathlib.Core.Option.{Option, some, none}
use Rattle.lists.proofs.Cases.{by-test}
use Rattle.store.specs.declared.Table.{Table}
use Rattle.store.specs.Store.{no_table}
use Rattle.session.specs.declared.Connection.{Connection}
use Rattle.session.specs.declared.Answer.{Answer}
use Rattle.session.specs.declared.Answer.TheVariants as answer
use Rattle.session.specs.Session.{binding_at, is_updated}
use Rattle.body.specs.declared.Fault.{Fault}
use Rattle.body.specs.Fields.{Read, got, failed, span_in}
use Rattle.body.specs.declared.definition.Definition.{Definition}
use Rattle.body.specs.declared.update.Update.{Update}
use Rattle.body.specs.Bodies.{definition_fields, switch_fields, acknowledgement_fields, update_fields, form_of}
use Rattle.body.specs.declared.update.Form.{Form}
use Rattle.body.proofs.Behind.{definition-behind, update-behind, switch-behind, acknowledgement-behind}
use Rattle.body.proofs.Spans.{span-behind}
use Rattle.body.proofs.Within.{definition-within, update-within}
use Rattle.message.specs.Effects.{Effect, Asks, does, commits, refuse_with, refuse, refuse_body, fields_then, defined_table, definition, switch, acknowledgement, updated_entry, with_fields, following_id, update_of, update, other_message, by_form, stick_table}

-- an answer that is no refusal
abbrev pub is_accepted : Answer → Bool
is_accepted answer.More = true
is_accepted (answer.Hello process relative) = true
is_accepted answer.Status = true
is_accepted answer.Request = true
is_accepted answer.Finished = true
is_accepted answer.Partial = true
is_accepted answer.Confirmed = true
is_accepted answer.Heartbeat = true
is_accepted (answer.Error type) = true
is_accepted (answer.Table place) = true
is_accepted (answer.Switch place) = true
is_accepted (answer.Update table id entry how) = true
is_accepted (answer.Acknowledgement id update) = true
is_accepted (answer.Skipped kind) = true
is_accepted (answer.Refused n) = false
is_accepted (answer.RefusedAt n offset) = false

abbrev pub Accepted : Effect → Type 0
Accepted e = is_accepted e.answer ≡ true

-- of an update, that its fields were read
abbrev pub AcceptedAsk : Asks → Type 0
AcceptedAsk (does e) = Accepted e
AcceptedAsk (commits id e) = Unit {0}

module _ (c : Connection) (tables : List Table) where
  refused-not : (n : ℕ) → Accepted (refuse c n) → ⊥
  unfolding refuse refuse_with
  refused-not n a = true≢false (sym a)

  broken-not : (f : Fault) → Accepted (refuse_body c f) → ⊥
  unfolding refuse_body refuse_with
  broken-not f a = true≢false (sym a)

  -- the same fields, and what they do
  module _ {A X : Type 0} (P : X → Type 0) (refused : Fault → X) (no : (f : Fault) → P (refused f) → ⊥) where
    fields-same : (x y : Read A) (f g : A → X) → P (fields_then refused x f) → ((a : A) (n : ℕ) → x ≡ got a n → (y ≡ got a n) × (g a ≡ f a))
        → fields_then refused y g ≡ fields_then refused x f
    unfolding fields_then
    fields-same (got a n) y f g k h = let w = h a n refl in ap (λ (r : Read A). fields_then refused r g) w.0 ∙ w.1
    fields-same (failed e) y f g k h = absurd (no e k)

  module _ (body more : List ℕ) where
    switch-same : Accepted (switch c body) → switch c (body ++ more) ≡ switch c body
    unfolding switch
    switch-same k =
        fields-same Accepted (refuse_body c) broken-not (switch_fields body) (switch_fields (body ++ more)) _ _ k (λ id n e. (switch-behind body more id n e, refl))

    acknowledgement-same : Accepted (acknowledgement c body) → acknowledgement c (body ++ more) ≡ acknowledgement c body
    unfolding acknowledgement
    acknowledgement-same k =
        fields-same Accepted (refuse_body c) broken-not (acknowledgement_fields body) (acknowledgement_fields (body ++ more)) _ _ k
        (λ a n e. (acknowledgement-behind body more a n e, refl))

    -- a definition that has its expiry
    definition-same : Accepted (definition c tables body) → ((d : Definition) (n : ℕ) → definition_fields body ≡ got d n → d.times.timed ≡ 1)
        → definition c tables (body ++ more) ≡ definition c tables body
    unfolding definition defined_table
    definition-same k timed =
        fields-same Accepted (refuse_body c) broken-not (definition_fields body) (definition_fields (body ++ more)) _ _ k
        (λ d n e.
        let w = span-behind body d.name (definition-within body d n e).0.name_end more in
        (definition-behind body more d n (timed d n e) e, rw w refl))

    -- an update of the current table
    with-same : (table : ℕ) (x y : Read Update) → AcceptedAsk (with_fields c body table x)
        → ((u : Update) (n : ℕ) → x ≡ got u n → (y ≡ got u n) × (span_in (body ++ more) u.key ≡ span_in body u.key))
        → with_fields c (body ++ more) table y ≡ with_fields c body table x
    unfolding with_fields updated_entry
    with-same table x y k h = fields-same AcceptedAsk (λ f. does (refuse_body c f)) broken-not x y _ _ k (λ u n e. let w = h u n e in (w.0, rw w.1 refl))

    update_same : (form : Form) → AcceptedAsk (update form c tables body) → update form c tables (body ++ more) ≡ update form c tables body
    unfolding update update_of
    update_same form k =
        let table = c.current - 1 in
        let t = get_or tables table no_table in
        let id = following_id (binding_at c table).previous in
        by-test (eqb c.current 0)
        (λ z. rw z refl)
        (λ z.
        let q = rw z at k in
        rw z
        (by-test (form.explicit || is_updated (binding_at c table))
        (λ y.
        let r = rw y at q in
        rw y
        (with-same table (update_fields form t id body) (update_fields form t id (body ++ more)) r
        (λ u n e. (update-behind form t id body more u n e, span-behind body u.key (update-within form t id body u n e).0.within.key_end more))))
        (λ y. rw y refl)))

    other-same : (kind : ℕ) → Accepted (other_message c tables kind body)
        → (kind ≡ 130 → (d : Definition) (n : ℕ) → definition_fields body ≡ got d n → d.times.timed ≡ 1)
        → other_message c tables kind (body ++ more) ≡ other_message c tables kind body
    unfolding other_message
    other-same kind q timed =
        by-test (eqb kind 130)
        (λ d. let r = rw d at q in rw d (definition-same r (timed (eqb-true kind 130 d))))
        (λ d.
        let r = rw d at q in
        rw d
        (by-test (eqb kind 131)
        (λ e. let u = rw e at r in rw e (switch-same u))
        (λ e.
        let u = rw e at r in
        rw e
        (by-test (eqb kind 132) (λ f. let v = rw f at u in rw f (acknowledgement-same v)) (λ f. rw f refl)))))

    form-same : (kind : ℕ) (form : Option Form) → AcceptedAsk (by_form c tables kind body form)
        → (kind ≡ 130 → (d : Definition) (n : ℕ) → definition_fields body ≡ got d n → d.times.timed ≡ 1)
        → by_form c tables kind (body ++ more) form ≡ by_form c tables kind body form
    unfolding by_form
    form-same kind (some form) k timed = update_same form k
    form-same kind none k timed = ap does (other-same kind k timed)

    -- every accepted message; a definition where it has its expiry
    pub ignored-behind : (kind : ℕ) → AcceptedAsk (stick_table c tables kind body)
        → (kind ≡ 130 → (d : Definition) (n : ℕ) → definition_fields body ≡ got d n → d.times.timed ≡ 1)
        → stick_table c tables kind (body ++ more) ≡ stick_table c tables kind body
    unfolding stick_table
    ignored-behind kind k timed = form-same kind (form_of kind) k timed
