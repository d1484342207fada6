-- What was read as a definition is its encoding: the bytes of each field, one directly behind the other, and then the bytes that are ignored.
use Prim.Native.Nat.{ℕ, ◌<◌}
use native.Mathlib.Omega.{arith}
use mathlib.Core.Path.{◌≡◌, refl, ap, ◌∙◌}
use mathlib.Core.List.{List, [], ◌∷◌, ◌++◌, append_assoc}
use mathlib.Core.Bool.{false, cond}
use lib.ListN.{length, drop, get_or, replicate, get_or-replicate}
use lib.Seq.{drop-length}
use lib.Dec.{eqb}
use borrow.Author.Tests.{eqb-true}
use Rattle.lists.proofs.Cases.{never, cond-true, cond-false}
use Rattle.wire.specs.Integer.{encode_int}
use Rattle.wire.specs.Value.{Bytes}
use Rattle.store.specs.declared.Table.{Table}
use Rattle.store.specs.Limits.{name_max, key_length_ok, data_types_ok, present, rate_types}
use Rattle.store.specs.Store.{name_of}
use Rattle.store.proofs.Rules.{rate-count}
use Rattle.body.specs.Fields.{got, for_each, integer, between, integer_of, span_in}
use Rattle.body.specs.Bodies.{Named, name_field, named_fields, is_key_type, Shape, shape_fields, pair_field, period_field, period_fields, Times, no_times, times_there, times_fields, Definition, defined, rest_fields, definition_fields}
use Rattle.body.specs.Encodings.{each_bytes, period_bytes, times_bytes, definition_bytes}
use Rattle.body.proofs.Holds.{Holds, held, holds-cond, holds-got, holds-each, holds-both, holds_then}
use Rattle.body.proofs.Taken.{Along, along-at, name-holds}
use Rattle.body.proofs.Encoding.{Stands, stands-none, stands-then, Encoded, Passed, integer-stands, integer-encoded, width-encoded, PartHere, bytes-encoded, each-encoded}

-- a table with the name, the shape and the times that were read
pub record TableRead (body : List ℕ) (d : Definition) (t : Table) : Type 0 where
  pub name : name_of t ≡ span_in body d.name
  pub key_type : t.key_type ≡ d.key_type
  pub key_length : t.key_len ≡ d.key_length
  pub data_types : t.data_types ≡ d.data_types
  pub timed : t.timed ≡ d.times.timed
  pub expiry : t.expiry ≡ d.times.expiry
  pub periods : t.periods ≡ d.times.periods

-- ---- the parts of a definition
abbrev name_bytes : List ℕ → Named → List ℕ
name_bytes s n = encode_int n.id ++ (encode_int (length (span_in s n.name)) ++ span_in s n.name)

abbrev shape_bytes : Shape → List ℕ
shape_bytes h = encode_int h.key_type ++ (encode_int h.key_length ++ encode_int h.data_types)

abbrev times_of : ℕ → Times → List ℕ
times_of types x = cond (eqb x.timed 1) (encode_int x.expiry ++ each_bytes (period_bytes types) rate_types x.periods) []

-- a number that is 0 where the data type t isn't present
abbrev Absent : ℕ → ℕ → ℕ → Type 0
Absent types t v = present types t ≡ false → v ≡ 0

-- where a body has no times, it ends there, and expiry and periods are 0; so is the period of a rate type that isn't present
record TimesAt (types : ℕ) (s : List ℕ) (at : ℕ) (x : Times) (next : ℕ) : Type 0 where
  here : Stands s (times_of types x) at next
  ends : x.timed ≡ 0 → next ≡ length s
  none : x.timed ≡ 0 → (x.expiry ≡ 0) × (x.periods ≡ replicate 8 0)
  absent : (i : ℕ) → i < 8 → Absent types (get_or rate_types i 0) (get_or x.periods i 0)

module _ (s : List ℕ) (b : Bytes s) where
  named-encoded : (at : ℕ) → Holds (Encoded (name_bytes s) s at) (named_fields s at)
  unfolding named_fields
  named-encoded at =
      let Q : Named → ℕ → Type 0 = Encoded (name_bytes s) s at in
      holds_then (Encoded encode_int s at) Q (integer_of 32 s at) _ (width-encoded s b 32 at) λ id at₁ p.
      holds_then (Encoded encode_int s at₁) Q (integer (between 1 name_max) s at₁) _ (integer-encoded s b (between 1 name_max) at₁) λ len at₂ q.
      holds_then _ Q (name_field len s at₂) _ (name-holds (PartHere s len at₂) len s at₂ (bytes-encoded s len at₂)) λ name at₃ (r, plain).
      let l : Stands s (encode_int (length (span_in s name))) at₁ at₂ = rw r.size q in
      holds-got Q _ at₃ (stands-then s p (stands-then s l r.here))

  shape-encoded : (at : ℕ) → Holds (Encoded shape_bytes s at) (shape_fields s at)
  unfolding shape_fields
  shape-encoded at =
      let Q : Shape → ℕ → Type 0 = Encoded shape_bytes s at in
      holds_then (Encoded encode_int s at) Q (integer is_key_type s at) _ (integer-encoded s b is_key_type at) λ key_type at₁ p.
      holds_then (Encoded encode_int s at₁) Q (integer (key_length_ok key_type) s at₁) _ (integer-encoded s b (key_length_ok key_type) at₁) λ key_length at₂ q.
      holds_then (Encoded encode_int s at₂) Q (integer data_types_ok s at₂) _ (integer-encoded s b data_types_ok at₂) λ types at₃ r.
      holds-got Q _ at₃ (stands-then s p (stands-then s q r))

  pair-encoded : (t at : ℕ) → Holds (Encoded (λ period. encode_int t ++ encode_int period) s at) (pair_field t s at)
  unfolding pair_field
  pair-encoded t at =
      let Q : ℕ → ℕ → Type 0 = Encoded (λ period. encode_int t ++ encode_int period) s at in
      holds_then (Passed (λ n. eqb n t) s at) Q (integer (λ n. eqb n t) s at) _ (integer-stands s b (λ n. eqb n t) at) λ n at₁ p.
      holds-each _ Q (integer_of 32 s at₁) (width-encoded s b 32 at₁) λ period next q.
      let h : Stands s (encode_int t) at at₁ = rw (eqb-true n t p.passed) at p.here in
      stands-then s h q

  period-encoded : (types t at : ℕ) → Holds (Encoded (period_bytes types t) s at) (period_field types t s at)
  unfolding period_field
  period-encoded types t at =
      let Q : ℕ → ℕ → Type 0 = Encoded (period_bytes types t) s at in
      holds-cond Q (present types t) (pair_field t s at) (got 0 at)
      (λ e. holds-each _ Q (pair_field t s at) (pair-encoded t at) λ v next r. unfold period_bytes in rw (cond-true _ _ _ e) r)
      (λ e. holds-got Q 0 at (unfold period_bytes in rw (cond-false _ _ _ e) (stands-none s at)))

  period-absent : (types t at : ℕ) → Holds (λ v next. Absent types t v) (period_field types t s at)
  unfolding period_field
  period-absent types t at =
      let Q : ℕ → ℕ → Type 0 = λ v next. Absent types t v in
      holds-cond Q (present types t) (pair_field t s at) (got 0 at)
      (λ e. holds-each _ Q (pair_field t s at) (pair-encoded t at) λ v next r q. never e q)
      (λ e. holds-got Q 0 at (λ q. refl))

  periods-absent : (types : ℕ) (ts : List ℕ) (at : ℕ) → Holds (λ vs next. Along (Absent types) ts vs) (for_each (period_field types) ts s at)
  unfolding for_each Along
  periods-absent types [] at = holds-got (λ (vs : List ℕ) (next : ℕ). Along (Absent types) [] vs) [] at tt
  periods-absent types (t ∷ ts) at =
      let Q : List ℕ → ℕ → Type 0 = λ vs next. Along (Absent types) (t ∷ ts) vs in
      holds_then (λ v next. Absent types t v) Q (period_field types t s at) _ (period-absent types t at) λ v at₁ q.
      holds_then (λ vs next. Along (Absent types) ts vs) Q (for_each (period_field types) ts s at₁) _ (periods-absent types ts at₁) λ vs at₂ r.
      holds-got Q (v ∷ vs) at₂ (q, r)

  times-encoded : (types at : ℕ) → Holds (TimesAt types s at) (times_fields types s at)
  unfolding times_fields times_there
  times-encoded types at =
      let Q : Times → ℕ → Type 0 = TimesAt types s at in
      holds-cond Q (eqb at (length s)) (got no_times at) (times_there types s at)
      (λ e. holds-got Q no_times at (record { here = stands-none s at; ends = λ z. eqb-true at (length s) e; none = λ z. (refl, refl); absent = λ i l q. get_or-replicate {A = ℕ} 8 i 0 0 l }))
      (λ e.
      holds_then (Encoded encode_int s at) Q (integer_of 32 s at) _ (width-encoded s b 32 at) λ expiry at₁ p.
      holds_then (λ periods next. Encoded (each_bytes (period_bytes types) rate_types) s at₁ periods next × Along (Absent types) rate_types periods) Q
      (period_fields types s at₁) _
      (holds-both _ _ (period_fields types s at₁)
      (each-encoded (period_field types) (period_bytes types) s (period-encoded types) rate_types at₁)
      (periods-absent types rate_types at₁)) λ periods at₂ q.
      holds-got Q _ at₂
      (record {
        here = stands-then s p q.0;
        ends = λ z. absurd (omega (arith, z));
        none = λ z. absurd (omega (arith, z));
        absent = λ i l. along-at (Absent types) rate_types periods q.1 i (omega (arith, rate-count));
      }))

-- ---- the whole of it
-- a definition whose encoding stands where it was read
record DefinitionAt (s : List ℕ) (d : Definition) (next : ℕ) : Type 0 where
  here : (t : Table) → TableRead s d t → Stands s (definition_bytes d.id t) 0 next
  ends : d.times.timed ≡ 0 → next ≡ length s
  none : d.times.timed ≡ 0 → (d.times.expiry ≡ 0) × (d.times.periods ≡ replicate 8 0)
  absent : (i : ℕ) → i < 8 → Absent d.data_types (get_or rate_types i 0) (get_or d.times.periods i 0)

module _ (s : List ℕ) (named : Named) (shape : Shape) (times : Times) (t : Table) (r : TableRead s (defined named shape times) t) where
  times-are : times_bytes t ≡ times_of shape.data_types times
  unfolding times_bytes
  times-are = rw (r.timed, r.expiry, r.data_types, r.periods)

  definition-is : name_bytes s named ++ (shape_bytes shape ++ times_of shape.data_types times) ≡ definition_bytes named.id t
  unfolding definition_bytes
  definition-is = rw (times-are, r.name, r.key_type, r.key_length, r.data_types) (simp append_assoc)

module _ (s : List ℕ) (b : Bytes s) where
  definition-read : Holds (DefinitionAt s) (definition_fields s)
  unfolding definition_fields rest_fields
  definition-read =
      let Q : Definition → ℕ → Type 0 = DefinitionAt s in
      holds_then (Encoded (name_bytes s) s 0) Q (named_fields s 0) _ (named-encoded s b 0) λ named at₁ p.
      holds_then (Encoded shape_bytes s at₁) Q (shape_fields s at₁) _ (shape-encoded s b at₁) λ shape at₂ q.
      holds_then (TimesAt shape.data_types s at₂) Q (times_fields shape.data_types s at₂) _ (times-encoded s b shape.data_types at₂) λ times at₃ r.
      holds-got Q (defined named shape times) at₃
      (record {
        here = λ t h. rw (← definition-is s named shape times t h) (stands-then s p (stands-then s q r.here));
        ends = r.ends;
        none = r.none;
        absent = r.absent;
      })

  module _ (d : Definition) (next : ℕ) (q : definition_fields s ≡ got d next) where
    -- a definition's body is its encoding, and ignored bytes
    pub definition-encoded : (t : Table) → TableRead s d t → s ≡ definition_bytes d.id t ++ drop next s
    definition-encoded t r = ((held (DefinitionAt s) _ definition-read d next q).here t r).split

    -- none are, where it has no times
    pub definition-ends : d.times.timed ≡ 0 → drop next s ≡ []
    definition-ends z = ap (λ (n : ℕ). drop n s) ((held (DefinitionAt s) _ definition-read d next q).ends z) ∙ drop-length s

    -- then expiry and periods are 0
    pub definition-none : d.times.timed ≡ 0 → (d.times.expiry ≡ 0) × (d.times.periods ≡ replicate 8 0)
    definition-none z = (held (DefinitionAt s) _ definition-read d next q).none z

    -- so is the period of a rate type that isn't present
    pub definition-absent : (i : ℕ) → i < 8 → present d.data_types (get_or rate_types i 0) ≡ false → get_or d.times.periods i 0 ≡ 0
    definition-absent i l h = (held (DefinitionAt s) _ definition-read d next q).absent i l h
