-- "Bytes after the known fields are ignored": what was read of a body stays when more bytes follow.
use Prim.Native.Nat.{ℕ, ◌+◌, ◌≤◌}
use native.Mathlib.Omega.{arith}
use mathlib.Core.Logic.{◌⊎◌, inl, inr}
use mathlib.Core.Path.{◌≡◌, refl, sym, ap, ◌∙◌}
use mathlib.Core.List.{List, [], ◌∷◌, ◌++◌}
use mathlib.Core.Bool.{Bool, true, false, cond}
use lib.ListN.{length, length-append}
use lib.IntN.{pos}
use lib.Dec.{eqb}
use borrow.Author.Tests.{le-leb, lt-leb, eq-eqb, ne_eqb}
use Rattle.lists.proofs.Cases.{lt-or-le, eq-or-ne, split}
use Rattle.wire.proofs.Behind.{int-behind, number_behind, server-behind}
use Rattle.store.specs.declared.Table.{Table}
use Rattle.store.specs.Limits.{name_max, key_kind, is_string, key_length_ok, data_types_ok, present, width_of, slot_types, rate_types}
use Rattle.body.specs.declared.Failure.TheVariants as failure
use Rattle.body.specs.declared.update.Form.{Form}
use Rattle.body.specs.Fields.{Read, got, failed, fault, short, Reader, and_then, for_each, tested, integer, between, integer_of, bytes, Span, field_read, number_read, number4, server_id}
use Rattle.body.specs.Bodies.{name_field, named_fields, is_key_type, shape_fields, pair_field, period_field, period_fields, Times, no_times, times_there, times_fields, Definition, defined, rest_fields, definition_fields, switch_fields, Acknowledged, acknowledgement_fields, string_field, key_field, server_field, slot_field, value_fields, data_fields, Time, Update, entry_fields, number_or, time_mark, timed_fields, update_fields}
use Rattle.body.proofs.Within.{shape-end}
use Rattle.body.proofs.Spans.{span-behind}
use Rattle.body.proofs.Holds.{same_value, then-got}

-- It is short, or more bytes behind change nothing.
module _ {A : Type 0} where
  abbrev pub Shortened : Read A → Type 0
  Shortened x = (start : ℕ) × (x ≡ short start)

  abbrev pub Steady : Reader A → Type 0
  Steady f = (s t : List ℕ) (at : ℕ) → Shortened (f s at) ⊎ (f (s ++ t) at ≡ f s at)

  pub behind : (f : Reader A) → Steady f → (s t : List ℕ) (at : ℕ) (a : A) (next : ℕ) → f s at ≡ got a next → f (s ++ t) at ≡ got a next
  behind f h s t at a next e = split (h s t at) (λ q. let z : got a next ≡ short q.0 = sym e ∙ q.1 in cc) (λ q. q ∙ e)

  steady-got : (a : A) → Steady λ s at. got a at
  steady-got a s t at = inr refl

  steady-cond : (b : Bool) (f g : Reader A) → Steady f → Steady g → Steady λ s at. cond b (f s at) (g s at)
  steady-cond true f g hf hg = hf
  steady-cond false f g hf hg = hg

-- fields one after another
module _ {A B : Type 0} (f : Reader A) (g : A → Reader B) where
  then-steady : (s t : List ℕ) (x y : Read A) → Shortened x ⊎ (y ≡ x) → ((a : A) → Steady (g a))
      → Shortened (and_then x (λ a n. g a s n)) ⊎ (and_then y (λ a n. g a (s ++ t) n) ≡ and_then x (λ a n. g a s n))
  then-steady s t (got a n) y d k = split d (λ q. let e : got a n ≡ short q.0 = q.1 in absurd (let z : ◌≡◌ {A = ℕ} 0 1 = cc in omega arith)) (λ e. rw e (k a s t n))
  then-steady s t (failed f) y d k = split d (λ q. let e : failed f ≡ short {A = A} q.0 = q.1 in inl (q.0, (let z : f ≡ fault failure.Short q.0 = cc in rw z))) (λ e. inr (rw e))

  steady_then : Steady f → ((a : A) → Steady (g a)) → Steady λ s at. and_then (f s at) λ a n. g a s n
  steady_then h k s t at = then-steady s t (f s at) (f (s ++ t) at) (h s t at) k

steady-each : (field : ℕ → Reader ℕ) → ((t : ℕ) → Steady (field t)) → (ts : List ℕ) → Steady (for_each field ts)
unfolding for_each
steady-each field h [] = steady-got []
steady-each field h (t ∷ ts) =
    steady_then (field t) _ (h t) λ v.
    steady_then (for_each field ts) _ (steady-each field h ts) λ vs.
    steady-got (v ∷ vs)

-- ---- one field
steady-integer : (ok : ℕ → Bool) → Steady (integer ok)
unfolding integer tested
steady-integer ok s t at = split (int-behind s t at) (λ e. inl (at, rw e)) (λ e. inr (rw e))

steady-width : (k : ℕ) → Steady (integer_of k)
unfolding integer_of
steady-width k = steady-integer _

steady-bytes : (n : ℕ) → Steady (bytes n)
unfolding bytes
steady-bytes n s t at =
    split (lt-or-le (length s) (at + n))
    (λ l. inl (at, rw (lt-leb (at + n) (length s) l)))
    (λ l.
    let k : at + n ≤ length (s ++ t) = rw length-append (omega arith) in
    inr (rw (le-leb (at + n) (length s) l, le-leb (at + n) (length (s ++ t)) k)))

steady-name : (n : ℕ) → Steady (name_field n)
unfolding name_field bytes
steady-name n s t at =
    split (lt-or-le (length s) (at + n))
    (λ l. inl (at, rw (lt-leb (at + n) (length s) l)))
    (λ l.
    let k : at + n ≤ length (s ++ t) = rw length-append (omega arith) in
    let name : Span = record { start = at; len = n } in
    inr (rw (le-leb (at + n) (length s) l, le-leb (at + n) (length (s ++ t)) k, span-behind s name l t)))

steady-number : Steady number4
unfolding number4 number_read
steady-number s t at = split (number_behind s t at) (λ e. inl (at, rw e)) (λ e. inr (rw e))

steady-server : Steady server_id
unfolding server_id field_read
steady-server s t at = split (server-behind s t at) (λ e. inl (at, rw e)) (λ e. inr (rw e))

-- ---- a definition's fields
pub steady-named : Steady named_fields
unfolding named_fields
steady-named =
    steady_then (integer_of 32) _ (steady-width 32) λ id.
    steady_then (integer (between 1 name_max)) _ (steady-integer _) λ len.
    steady_then (name_field len) _ (steady-name len) λ name.
    steady-got _

pub steady-shape : Steady shape_fields
unfolding shape_fields
steady-shape =
    steady_then (integer is_key_type) _ (steady-integer _) λ key_type.
    steady_then (integer (key_length_ok key_type)) _ (steady-integer _) λ key_length.
    steady_then (integer data_types_ok) _ (steady-integer _) λ types.
    steady-got _

steady-pair : (t : ℕ) → Steady (pair_field t)
unfolding pair_field
steady-pair t = steady_then (integer λ n. eqb n t) _ (steady-integer _) λ n. steady-width 32

steady-period : (types t : ℕ) → Steady (period_field types t)
unfolding period_field
steady-period types t = steady-cond (present types t) (pair_field t) (λ s at. got 0 at) (steady-pair t) (steady-got 0)

pub steady-times : (types : ℕ) → Steady (times_there types)
unfolding times_there
steady-times types =
    steady_then (integer_of 32) _ (steady-width 32) λ expiry.
    steady_then (period_fields types) _ (steady-each (period_field types) (steady-period types) rate_types) λ periods.
    steady-got _

-- ---- an update's fields
steady-string : (n : ℕ) → Steady (string_field n)
unfolding string_field
steady-string n = steady_then (integer (between 0 n)) _ (steady-integer _) λ len. steady-bytes len

steady-key : (key_type n : ℕ) → Steady (key_field key_type n)
unfolding key_field
steady-key key_type n = steady-cond (is_string (key_kind key_type)) (string_field n) (bytes n) (steady-string n) (steady-bytes n)

steady-server-field : (types : ℕ) → Steady (server_field types)
unfolding server_field
steady-server-field types = steady-cond (present types 0) server_id (λ s at. got (pos 0) at) steady-server (steady-got (pos 0))

steady-slot : (types t : ℕ) → Steady (slot_field types t)
unfolding slot_field
steady-slot types t =
    steady-cond (present types t) (integer_of (width_of t)) (λ s at. got 0 at) (steady-width (width_of t)) (steady-got 0)

steady-data : (types : ℕ) → Steady (data_fields types)
unfolding data_fields
steady-data types =
    steady_then (server_field types) _ (steady-server-field types) λ z.
    steady_then (value_fields types) _ (steady-each (slot_field types) (steady-slot types) slot_types) λ values.
    steady-got _

pub steady-entry : (t : Table) (id : ℕ) (time : Time) → Steady (entry_fields t id time)
unfolding entry_fields
steady-entry t id time =
    steady_then (key_field t.key_type t.key_len) _ (steady-key t.key_type t.key_len) λ key.
    steady_then (data_fields t.data_types) _ (steady-data t.data_types) λ d.
    steady-got _

steady-number-or : (there : Bool) (known : ℕ) → Steady (number_or there known)
unfolding number_or
steady-number-or there known = steady-cond there number4 (λ s at. got known at) steady-number (steady-got known)

steady-timed : (form : Form) (t : Table) (id : ℕ) → Steady (timed_fields form t id)
unfolding timed_fields
steady-timed form t id =
    steady_then (number_or form.timed t.expiry) _ (steady-number-or form.timed t.expiry) λ remaining.
    steady-entry t id (record { timed = time_mark form t; remaining = remaining })

-- ---- whole bodies
pub update-behind : (form : Form) (t : Table) (following : ℕ) (body more : List ℕ) (u : Update) (next : ℕ)
    → update_fields form t following body ≡ got u next → update_fields form t following (body ++ more) ≡ got u next
unfolding update_fields
update-behind form t following body more u next e =
    behind (λ s at. and_then (number_or form.explicit following s at) λ id n. timed_fields form t id s n)
    (steady_then (number_or form.explicit following) _ (steady-number-or form.explicit following) λ id. steady-timed form t id)
    body more 0 u next e

pub switch-behind : (body more : List ℕ) (id next : ℕ) → switch_fields body ≡ got id next → switch_fields (body ++ more) ≡ got id next
unfolding switch_fields
switch-behind body more id next e = behind (integer_of 32) (steady-width 32) body more 0 id next e

pub acknowledgement-behind : (body more : List ℕ) (a : Acknowledged) (next : ℕ)
    → acknowledgement_fields body ≡ got a next → acknowledgement_fields (body ++ more) ≡ got a next
unfolding acknowledgement_fields
acknowledgement-behind body more a next e =
    behind (λ s at. and_then (integer_of 32 s at) λ id n. and_then (number4 s n) λ update m. got (record { id = id; update = update }) m)
    (steady_then (integer_of 32) _ (steady-width 32) λ id. steady_then number4 _ steady-number λ update. steady-got _)
    body more 0 a next e

-- ---- a definition that has its expiry
times-behind : (types : ℕ) (s t : List ℕ) (at : ℕ) (x : Times) (next : ℕ) → at ≤ length s → x.timed ≡ 1
    → times_fields types s at ≡ got x next → times_fields types (s ++ t) at ≡ got x next
unfolding times_fields
times-behind types s t at x next l timed e =
    split (eq-or-ne at (length s))
    (λ q.
    let f : got no_times at ≡ got x next = rw (eq-eqb at (length s) q) at e in
    let g : no_times ≡ x = same_value no_times x at next f in
    absurd (omega (arith, ap (λ (y : Times). y.timed) g)))
    (λ q.
    let k : at ≡ length (s ++ t) → ⊥ = λ r. omega (arith, length-append s t) in
    let f : times_there types s at ≡ got x next = rw (ne_eqb at (length s) q) at e in
    rw (ne_eqb at (length (s ++ t)) k) (behind (times_there types) (steady-times types) s t at x next f))

pub definition-behind : (body more : List ℕ) (d : Definition) (next : ℕ) → d.times.timed ≡ 1
    → definition_fields body ≡ got d next → definition_fields (body ++ more) ≡ got d next
unfolding definition_fields rest_fields
definition-behind body more d next timed e =
    let n = then-got (named_fields body 0) _ d next e in
    let h = then-got (shape_fields body n.1) _ d next n.3 in
    let t = then-got (times_fields h.0.data_types body h.1) _ d next h.3 in
    let same : defined n.0 h.0 t.0 ≡ d = same_value (defined n.0 h.0 t.0) d t.1 next t.3 in
    let l : h.1 ≤ length body = shape-end body n.1 h.0 h.1 h.2 in
    let e₁ = behind named_fields steady-named body more 0 n.0 n.1 n.2 in
    let e₂ = behind shape_fields steady-shape body more n.1 h.0 h.1 h.2 in
    let one : t.0.timed ≡ 1 = ap (λ (y : Definition). y.times.timed) same ∙ timed in
    let e₃ = times-behind h.0.data_types body more h.1 t.0 t.1 l one t.2 in
    rw (e₁, e₂, e₃) t.3
