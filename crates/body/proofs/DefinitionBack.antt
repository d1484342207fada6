-- A definition that is written reads back as its table's fields.
use Prim.Native.Nat.{ℕ, ◌+◌, ◌^◌, ◌≤◌, ◌<◌}
use native.Mathlib.Omega.{arith}
use mathlib.Core.Path.{◌≡◌, refl, sym, ap, ◌∙◌}
use mathlib.Core.List.{List, ◌++◌, append_assoc}
use mathlib.Core.Bool.{true, false, cond}
use lib.ListN.{length}
use lib.Dec.{eqb}
use borrow.Author.Tests.{eq-eqb, ne_eqb, eqb-true, eqb-false, lt-ltb}
use Rattle.lists.proofs.Cases.{lt-or-le, split, by-test, never, cond-true, cond-false}
use Rattle.wire.specs.Integer.{encode_int}
use Rattle.wire.proofs.Sizes.{int-some}
use Rattle.store.specs.declared.Table.{Table}
use Rattle.store.specs.Limits.{name_max, key_length_ok, data_types_ok, present, rate_types}
use Rattle.store.specs.Shape.{TableShape}
use Rattle.store.specs.Store.{name_of}
use Rattle.store.proofs.Rules.{rate-count, present-past}
use Rattle.store.proofs.Facts.{TableFacts, table-facts, name-size}
use Rattle.body.specs.Fields.{got, between, span_in}
use Rattle.body.specs.Bodies.{named, name_field, named_fields, is_key_type, shape_fields, pair_field, period_field, no_times, times_there, times_fields, rest_fields, definition_fields}
use Rattle.body.specs.Encodings.{each_bytes, name_bytes, shape_bytes, period_bytes, times_bytes, definition_bytes}
use Rattle.body.specs.ReadBack.{times_back, definition_back, DefinitionsReadBack}
use Rattle.body.proofs.FieldLaws.{inside}
use Rattle.body.proofs.Taken.{Along, along-from}
use Rattle.body.proofs.Placed.{Placed, placed-whole, placed-as, placed-none, placed_first, placed-rest, integer-placed, width-placed, bytes-placed, span-placed, each_placed}

-- ---- name, shape and times, one directly behind the other
pub definition-parts : (id : ℕ) (t : Table) → name_bytes id t ++ (shape_bytes t ++ times_bytes t) ≡ definition_bytes id t
unfolding definition_bytes
definition-parts id t = simp append_assoc

-- ---- one pair: the number of a type that is present is a byte, and a period has 32 bits
pub present-small : (types t : ℕ) → types < 2 ^ 32 → present types t ≡ true → t < 32
present-small types t l h = split (lt-or-le t 32) (λ k. k) (λ k. never h (sym (present-past types t l k)))

-- the periods of a table's rate types
pub periods-small : (t : Table) → TableShape t → Along (λ r v. v < 2 ^ 32) rate_types t.periods
periods-small t h = along-from (λ r v. v < 2 ^ 32) rate_types t.periods (h.periods.size ∙ sym rate-count) (λ i l. h.periods.small i)

module _ (s : List ℕ) where
  pair-placed : (r v at next : ℕ) → r < 32 → v < 2 ^ 32 → Placed s (encode_int r ++ encode_int v) at next → pair_field r s at ≡ got v next
  unfolding pair_field
  pair-placed r v at next l k p =
      rw (
        integer-placed (λ n. eqb n r) r (omega arith) (eq-eqb r r refl) (placed_first (encode_int r) (encode_int v) p),
        width-placed 32 v (omega arith) k (placed-rest (encode_int r) (encode_int v) p),
      )

  period-placed : (types : ℕ) → types < 2 ^ 32 → (r v at next : ℕ) → v < 2 ^ 32 → Placed s (period_bytes types r v) at next
      → period_field types r s at ≡ got (cond (present types r) v 0) next
  unfolding period_field period_bytes
  period-placed types l r v at next k p =
      by-test (present types r)
      (λ h. rw h (pair-placed r v at next (present-small types r l h) k (placed-as (cond-true _ _ _ h) p)))
      (λ h. rw h (ap (got 0) (sym (placed-none (placed-as (cond-false _ _ _ h) p)))))

  -- ---- the parts
  module _ (t : Table) (f : TableFacts t) (h : TableShape t) where
    named-placed : (id at next : ℕ) → id < 2 ^ 32 → Placed s (name_bytes id t) at next
        → named_fields s at ≡ got (named id (at + length (encode_int id) + length (encode_int (length (name_of t)))) (length (name_of t))) next
    unfolding named_fields name_field
    named-placed id at next l p =
        let name = name_of t in
        let n : length name ≡ t.name_len = name-size t f h in
        let q = placed-rest (encode_int id) (encode_int (length name) ++ name) p in
        let r = placed-rest (encode_int (length name)) name q in
        let small : length name < 2 ^ 64 = omega (arith, f.name_most) in
        let least : 1 ≤ length name = omega (arith, f.name_least) in
        let most : length name ≤ 32 = omega (arith, f.name_most) in
        rw (
          width-placed 32 id (omega arith) l (placed_first (encode_int id) (encode_int (length name) ++ name) p),
          integer-placed (between 1 name_max) (length name) small (inside 1 32 (length name) least most) (placed_first (encode_int (length name)) name q),
          bytes-placed name r,
          span-placed name r,
          f.plain,
        )

    shape-placed : (at next : ℕ) → Placed s (shape_bytes t) at next
        → shape_fields s at ≡ got (record { key_type = t.key_type; key_length = t.key_len; data_types = t.data_types }) next
    unfolding shape_fields is_key_type data_types_ok
    shape-placed at next p =
        let kind = t.key_type in
        let len = t.key_len in
        let types = t.data_types in
        let q = placed-rest (encode_int kind) (encode_int len ++ encode_int types) p in
        rw (
          integer-placed is_key_type kind (omega (arith, h.key_type)) f.known (placed_first (encode_int kind) (encode_int len ++ encode_int types) p),
          integer-placed (key_length_ok kind) len (omega (arith, h.key_length)) f.key_length (placed_first (encode_int len) (encode_int types) q),
          integer-placed data_types_ok types (omega (arith, h.data_types)) (lt-ltb types (2 ^ 19) f.data_types) (placed-rest (encode_int len) (encode_int types) q),
        )

    times-placed : (at next : ℕ) → next ≡ length s → Placed s (times_bytes t) at next → times_fields t.data_types s at ≡ got (times_back t) next
    unfolding times_fields times_there times_bytes times_back
    times-placed at next e p =
        let types = t.data_types in
        let xs = encode_int t.expiry in
        let ys = each_bytes (period_bytes types) rate_types t.periods in
        by-test (eqb t.timed 1)
        (λ y.
        let q : Placed s (xs ++ ys) at next = placed-as (cond-true _ _ _ y) p in
        let a = placed_first xs ys q in
        let ne : at ≡ length s → ⊥ = λ z. omega (arith, a.inside, int-some t.expiry) in
        rw (
          y,
          ne_eqb at (length s) ne,
          width-placed 32 t.expiry (omega (arith, h.expiry)) h.expiry a,
          each_placed (period_field types) (period_bytes types) types (λ r v. v < 2 ^ 32) s (period-placed types h.data_types) rate_types t.periods
              (periods-small t h) _ next (placed-rest xs ys q),
        ))
        (λ y.
        let z : next ≡ at = placed-none (placed-as (cond-false _ _ _ y) p) in
        rw (y, eq-eqb at (length s) (sym z ∙ e)) (ap (got no_times) (sym z)))

-- ---- the whole of it
module _ (id : ℕ) (t : Table) (l : id < 2 ^ 32) (h : TableShape t) (f : TableFacts t) where
  abbrev body : List ℕ
  body = definition_bytes id t

  parts : Placed body (name_bytes id t ++ (shape_bytes t ++ times_bytes t)) 0 (length body)
  parts = placed-as (sym (definition-parts id t)) (placed-whole body)

  rest : Placed body (shape_bytes t ++ times_bytes t) (0 + length (name_bytes id t)) (length body)
  rest = placed-rest (name_bytes id t) (shape_bytes t ++ times_bytes t) parts

  back : definition_fields body ≡ got (definition_back id t) (length body)
  unfolding definition_fields rest_fields
  back =
      let z : 0 + length (encode_int id) ≡ length (encode_int id) = omega arith in
      rw (
        named-placed body t f h id 0 _ l (placed_first (name_bytes id t) (shape_bytes t ++ times_bytes t) parts),
        shape-placed body t f h _ _ (placed_first (shape_bytes t) (times_bytes t) rest),
        times-placed body t f h _ (length body) refl (placed-rest (shape_bytes t) (times_bytes t) rest),
        z,
      )

  name_back : span_in body (definition_back id t).name ≡ name_of t
  name_back =
      let z : 0 + length (encode_int id) ≡ length (encode_int id) = omega arith in
      let p = placed_first (name_bytes id t) (shape_bytes t ++ times_bytes t) parts in
      rw (← z)
      (span-placed (name_of t)
      (placed-rest (encode_int (length (name_of t))) (name_of t) (placed-rest (encode_int id) (encode_int (length (name_of t)) ++ name_of t) p)))

untimed : (t : Table) → TableFacts t → eqb t.timed 1 ≡ false → t.timed ≡ 0
untimed t f z = let n = eqb-false t.timed 1 z in omega (arith, f.timed, n)

pub definitions-read-back : DefinitionsReadBack
unfolding times_back
definitions-read-back id t l h held sound =
    let f : TableFacts t = table-facts t sound held in
    record {
      fields = back id t l h f;
      name = name_back id t l h f;
      timed = by-test (eqb t.timed 1) (λ y. rw y (sym (eqb-true t.timed 1 y))) (λ y. rw y (sym (untimed t f y)));
      expiry = λ e. rw e;
      periods = λ e. rw e;
      none = λ e. rw e;
    }
