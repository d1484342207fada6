-- An update that is written reads back as its entry's fields.
use Prim.Native.Nat.{ℕ, suc, ◌+◌, ◌^◌, ◌≤◌, ◌<◌}
use native.Mathlib.Omega.{arith}
use mathlib.Core.Path.{◌≡◌, refl, sym, ap, ◌∙◌}
use mathlib.Core.List.{List, [], ◌∷◌, ◌++◌}
use mathlib.Core.Bool.{Bool, true, false, cond, ◌||◌}
use lib.ListN.{length, get_or}
use lib.Seq.{length-take-le}
use lib.IntN.{pos}
use lib.Dec.{ltb}
use borrow.Author.Tests.{ltb-true, leb-true, eqb-true}
use Rattle.lists.proofs.Cases.{by-test, and_first, and_second, unless-elim, cond-true, cond-false}
use Rattle.wire.specs.Integer.{encode_int}
use Rattle.store.specs.declared.Table.{Table}
use Rattle.store.specs.declared.Entry.{Entry}
use Rattle.store.specs.Limits.{key_kind, is_string, present, is_wide, width_of, slot_types}
use Rattle.store.specs.Shape.{EntryShape}
use Rattle.store.specs.Sound.{entry_key_length_ok, slot_ok, slots_ok, values_ok}
use Rattle.store.specs.Store.{key_of, no_table}
use Rattle.store.proofs.Rules.{slot-count}
use Rattle.store.proofs.Facts.{TableFacts, EntryFacts, key-most}
use Rattle.body.specs.declared.update.Form.{Form}
use Rattle.body.specs.Fields.{got, between, span_in}
use Rattle.body.specs.Bodies.{string_field, key_field, server_field, slot_field, data_fields, entry_fields, number_or, timed_fields, update_fields}
use Rattle.body.specs.Encodings.{each_bytes, key_bytes, server_bytes, value_bytes, data_bytes, entry_bytes, number_if, update_bytes, entry_start}
use Rattle.body.specs.ReadBack.{present_only, update_back, Sendable, UpdatesReadBack}
use Rattle.body.proofs.FieldLaws.{inside}
use Rattle.body.proofs.Taken.{Along}
use Rattle.body.proofs.UpdateEncoding.{if-length}
use Rattle.body.proofs.Placed.{Placed, placed-whole, placed-as, placed-none, placed_first, placed-rest, integer-placed, width-placed, number-placed, server-placed, bytes-placed, span-placed, each_placed}

-- ---- values within their width
pub record Valued (types t v : ℕ) : Type 0 where
  pub small : v < 2 ^ 64
  pub within : present types t ≡ true → v < 2 ^ width_of t

value-within : (types t v : ℕ) → v < 2 ^ 64 → slot_ok types t v ≡ true → Valued types t v
unfolding slot_ok width_of
value-within types t v l h = record {
  small = l;
  within = λ q.
      let r = unless-elim (present types t) (is_wide t || ltb v (2 ^ 32)) h q in
      by-test (is_wide t)
      (λ w. rw w l)
      (λ w. let k : ltb v (2 ^ 32) ≡ true = rw w at r in rw w (ltb-true v (2 ^ 32) k));
}

values-along : (types : ℕ) (ts vs : List ℕ) → length vs ≡ length ts → ((i : ℕ) → get_or vs i 0 < 2 ^ 64) → slots_ok types ts vs ≡ true
    → Along (Valued types) ts vs
unfolding slots_ok Along
values-along types [] [] n l h = tt
values-along types [] (v ∷ vs) n l h = absurd (omega (arith, n))
values-along types (t ∷ ts) [] n l h = absurd (omega (arith, n))
values-along types (t ∷ ts) (v ∷ vs) n l h = (
  value-within types t v (l 0) (and_first (slot_ok types t v) (slots_ok types ts vs) h),
  values-along types ts vs (omega (arith, n)) (λ i. l (suc i)) (and_second (slot_ok types t v) (slots_ok types ts vs) h),
)

pub values-valued : (t : Table) (e : Entry) → EntryShape e → values_ok t e ≡ true → Along (Valued t.data_types) slot_types e.values
unfolding values_ok
values-valued t e z h = values-along t.data_types slot_types e.values (z.values.size ∙ sym slot-count) z.values.small h

-- ---- the key's length
module _ (t : Table) (e : Entry) (z : Sendable t e) where
  pub key-long : length (key_of e) ≡ e.key_len
  unfolding key_of
  key-long = length-take-le e.key_len e.key (omega (arith, z.key_most, z.shape.key.size))

  string-within : is_string (key_kind t.key_type) ≡ true → length (key_of e) ≤ t.key_len
  unfolding entry_key_length_ok
  string-within q = omega (arith, key-long, leb-true e.key_len t.key_len (sym (cond-true _ _ _ q) ∙ z.key_length))

  key-exact : is_string (key_kind t.key_type) ≡ false → length (key_of e) ≡ t.key_len
  unfolding entry_key_length_ok
  key-exact q = key-long ∙ eqb-true e.key_len t.key_len (sym (cond-false _ _ _ q) ∙ z.key_length)

-- ---- the parts
module _ (s : List ℕ) where
  number-or-placed : (there : Bool) (known v at next : ℕ) → (there ≡ true → v < 2 ^ 32) → Placed s (number_if there v) at next
      → number_or there known s at ≡ got (cond there v known) next
  unfolding number_or number_if
  number-or-placed true known v at next l p = number-placed v (l refl) p
  number-or-placed false known v at next l p = ap (got known) (sym (placed-none p))

  slot_placed : (types t v at next : ℕ) → Valued types t v → Placed s (value_bytes types t v) at next
      → slot_field types t s at ≡ got (cond (present types t) v 0) next
  unfolding slot_field value_bytes
  slot_placed types t v at next q p =
      by-test (present types t)
      (λ h. rw h (width-placed (width_of t) v q.small (q.within h) (placed-as (cond-true _ _ _ h) p)))
      (λ h. rw h (ap (got 0) (sym (placed-none (placed-as (cond-false _ _ _ h) p)))))

  module _ (t : Table) (e : Entry) (z : Sendable t e) where
    abbrev types : ℕ
    types = t.data_types

    abbrev key : List ℕ
    key = key_of e

    -- where the key's own bytes start
    abbrev start : ℕ → ℕ
    start at = at + cond (is_string (key_kind t.key_type)) (length (encode_int (length key))) 0

    record KeyAt (at next : ℕ) : Type 0 where
      field : key_field t.key_type t.key_len s at ≡ got (record { start = start at; len = length key }) next
      bytes : span_in s (record { start = start at; len = length key }) ≡ key

    key-placed : (at next : ℕ) → Placed s (key_bytes t.key_type key) at next → KeyAt at next
    unfolding key_field key_bytes string_field
    key-placed at next p =
        by-test (is_string (key_kind t.key_type))
        (λ h.
        let q : Placed s (encode_int (length key) ++ key) at next = placed-as (cond-true _ _ _ h) p in
        let r = placed-rest (encode_int (length key)) key q in
        let small : length key < 2 ^ 64 = omega (arith, key-long t e z, z.key_most) in
        let low : 0 ≤ length key = omega arith in
        record {
          field = rw (
            h,
            integer-placed (between 0 t.key_len) (length key) small (inside 0 t.key_len (length key) low (string-within t e z h))
                (placed_first (encode_int (length key)) key q),
            bytes-placed key r,
          );
          bytes = rw h (span-placed key r);
        })
        (λ h.
        let q : Placed s key at next = placed-as (cond-false _ _ _ h) p in
        let n : at + 0 ≡ at = omega arith in
        record { field = rw (h, n, ← key-exact t e z h) (bytes-placed key q); bytes = rw (h, n) (span-placed key q) })

    server-field-placed : (at next : ℕ) → Placed s (server_bytes types e.server_id) at next
        → server_field types s at ≡ got (cond (present types 0) e.server_id (pos 0)) next
    unfolding server_field server_bytes
    server-field-placed at next p =
        by-test (present types 0)
        (λ h. rw h (server-placed e.server_id z.shape.server (placed-as (cond-true _ _ _ h) p)))
        (λ h. rw h (ap (got (pos 0)) (sym (placed-none (placed-as (cond-false _ _ _ h) p)))))

    data-placed : (at next : ℕ) → Placed s (data_bytes types e.server_id e.values) at next
        → data_fields types s at ≡ got (record { server = cond (present types 0) e.server_id (pos 0); values = present_only types slot_types e.values }) next
    unfolding data_fields data_bytes
    data-placed at next p =
        let xs = server_bytes types e.server_id in
        let ys = each_bytes (value_bytes types) slot_types e.values in
        rw (
          server-field-placed at _ (placed_first xs ys p),
          each_placed (slot_field types) (value_bytes types) types (Valued types) s (slot_placed types) slot_types e.values
              (values-valued t e z.shape z.values) _ next (placed-rest xs ys p),
        )

-- ---- the whole of it
module _ (form : Form) (t : Table) (following id : ℕ) (e : Entry) (l : id < 2 ^ 32) (same : form.explicit ≡ false → id ≡ following) (z : Sendable t e) where
  abbrev body : List ℕ
  body = update_bytes form t id e

  abbrev id_bytes : List ℕ
  id_bytes = number_if form.explicit id

  abbrev time_bytes : List ℕ
  time_bytes = number_if form.timed e.remaining

  parts : Placed body (id_bytes ++ (time_bytes ++ entry_bytes t e)) 0 (length body)
  unfolding update_bytes
  parts = placed-whole body

  rest : Placed body (time_bytes ++ entry_bytes t e) (0 + length id_bytes) (length body)
  rest = placed-rest id_bytes (time_bytes ++ entry_bytes t e) parts

  starts : 0 + length id_bytes + length time_bytes ≡ entry_start form
  unfolding entry_start
  starts = rw (if-length form.explicit id, if-length form.timed e.remaining) (omega arith)

  entry : Placed body (entry_bytes t e) (entry_start form) (length body)
  entry = rw (← starts) (placed-rest time_bytes (entry_bytes t e) rest)

  key_here : Placed body (key_bytes t.key_type (key_of e)) (entry_start form) (entry_start form + length (key_bytes t.key_type (key_of e)))
  unfolding entry_bytes
  key_here = placed_first (key_bytes t.key_type (key_of e)) (data_bytes t.data_types e.server_id e.values) entry

  data-here : Placed body (data_bytes t.data_types e.server_id e.values) (entry_start form + length (key_bytes t.key_type (key_of e))) (length body)
  unfolding entry_bytes
  data-here = placed-rest (key_bytes t.key_type (key_of e)) (data_bytes t.data_types e.server_id e.values) entry

  given : cond form.explicit id following ≡ id
  given = by-test form.explicit (λ h. rw h) (λ h. rw h (sym (same h)))

  back : update_fields form t following body ≡ got (update_back form t id e) (length body)
  unfolding update_fields timed_fields entry_fields
  back =
      rw (
        number-or-placed body form.explicit following id 0 _ (λ h. l) (placed_first id_bytes (time_bytes ++ entry_bytes t e) parts),
        number-or-placed body form.timed t.expiry e.remaining _ _ (λ h. z.shape.remaining) (placed_first time_bytes (entry_bytes t e) rest),
        starts,
        given,
        (key-placed body t e z _ _ key_here).field,
        data-placed body t e z _ _ data-here,
      )

pub updates-read-back : UpdatesReadBack
updates-read-back form t following id e l same z = record {
  fields = back form t following id e l same z;
  key = (key-placed (update_bytes form t id e) t e z _ _ (key_here form t following id e l same z)).bytes;
}

-- a held entry of a sound store can be sent
pub held-sendable : (tables : List Table) (e : Entry) → TableFacts (get_or tables e.table no_table) → EntryFacts tables e → EntryShape e
    → Sendable (get_or tables e.table no_table) e
held-sendable tables e f g z = record {
  shape = z;
  key_most = key-most (get_or tables e.table no_table) e f g.key_length;
  key_length = g.key_length;
  values = g.values;
}
