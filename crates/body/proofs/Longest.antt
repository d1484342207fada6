-- How many bytes a definition and an update have at most.
use Prim.Native.Nat.{ℕ, ◌+◌, ◌^◌, ◌≤◌, ◌<◌}
use native.Mathlib.Omega.{arith}
use mathlib.Core.Path.{◌≡◌, refl, sym, ◌∙◌}
use mathlib.Core.List.{List, [], ◌∷◌, map}
use mathlib.Core.Bool.{Bool, true, false, cond}
use lib.ListN.{length, length-append, length-take}
use lib.Dec.{eqb, lit<}
use Rattle.lists.specs.Lists.{among}
use Rattle.lists.proofs.Cases.{by-test}
use Rattle.wire.specs.Integer.{encode_int, smallest}
use Rattle.wire.specs.Server.{server_word}
use Rattle.wire.proofs.Sizes.{int-length, shorter}
use Rattle.store.specs.declared.Table.{Table}
use Rattle.store.specs.declared.Entry.{Entry}
use Rattle.store.specs.Counts.{sum}
use Rattle.store.specs.Limits.{key_kind, is_string, present, is_wide, width_of, integers_of, slots_for, slot_types, is_rate, rate_types}
use Rattle.store.specs.Shape.{TableShape, EntryShape}
use Rattle.store.specs.Store.{name_of, key_of}
use Rattle.store.proofs.Facts.{TableFacts, table-facts}
use Rattle.store.proofs.Rules.{slot-count, known_small, key-length-most}
use Rattle.body.specs.declared.update.Form.{Form}
use Rattle.body.specs.Encodings.{each_bytes, key_bytes, server_bytes, value_bytes, data_bytes, entry_bytes, update_bytes, number_if, period_bytes, times_bytes, definition_bytes}
use Rattle.body.specs.ReadBack.{DefinitionsFit, UpdatesFit, SoundDefinitionsFit, SoundUpdatesFit}
use Rattle.body.proofs.Taken.{Along, along-from}
use Rattle.body.proofs.UpdateEncoding.{if-length}
use Rattle.body.proofs.DefinitionBack.{present-small, periods-small}
use Rattle.body.proofs.UpdateBack.{Valued, values-valued}

-- ---- an integer: "Smallest value of each length"
one_byte : (v : ℕ) → v < 240 → length (encode_int v) ≤ 1
unfolding smallest
one_byte v l = shorter v 1 (lit< tt) l

four_bytes : (v : ℕ) → v < 33818864 → length (encode_int v) ≤ 4
unfolding smallest
four_bytes v l = shorter v 4 (lit< tt) l

five-bytes : (v : ℕ) → v < 2 ^ 32 → length (encode_int v) ≤ 5
unfolding smallest
five-bytes v l = shorter v 5 (lit< tt) (omega arith)

-- ---- a value for each of the types ts
module _ (encode : ℕ → ℕ → List ℕ) (most : ℕ → ℕ) (Q : ℕ → ℕ → Type 0) (one : (t v : ℕ) → Q t v → length (encode t v) ≤ most t) where
  each-most : (ts vs : List ℕ) → Along Q ts vs → length (each_bytes encode ts vs) ≤ sum (map most ts)
  unfolding each_bytes Along sum
  each-most [] [] a = omega arith
  each-most [] (v ∷ vs) a = absurd a
  each-most (t ∷ ts) [] a = absurd a
  each-most (t ∷ ts) (v ∷ vs) a = rw length-append (omega (arith, one t v a.0, each-most ts vs a.1))

-- ---- definition
period-most : (types : ℕ) → types < 2 ^ 32 → (r v : ℕ) → v < 2 ^ 32 → length (period_bytes types r v) ≤ 6
unfolding period_bytes
period-most types l r v k =
    by-test (present types r)
    (λ h.
    let small : r < 240 = omega (arith, present-small types r l h) in
    rw (h, length-append) (omega (arith, one_byte r small, five-bytes v k)))
    (λ h. rw h (omega arith))

rates-most : sum (map (λ r. 6) rate_types) ≡ 48
unfolding sum rate_types
rates-most = refl

module _ (id : ℕ) (t : Table) (l : id < 2 ^ 32) (h : TableShape t) where
  times-most : length (times_bytes t) ≤ 53
  unfolding times_bytes
  times-most =
      by-test (eqb t.timed 1)
      (λ y.
      rw (y, length-append)
      (omega (
        arith,
        five-bytes t.expiry h.expiry,
        rates-most,
        each-most (period_bytes t.data_types) (λ r. 6) (λ r v. v < 2 ^ 32) (period-most t.data_types h.data_types) rate_types t.periods (periods-small t h),
      )))
      (λ y. rw y (omega arith))

  name-most : length (name_of t) ≤ 32
  unfolding name_of
  name-most = omega (arith, length-take t.name_len t.name, h.name.size)

  definition-most : length (definition_bytes id t)
      ≤ 91 + (length (encode_int t.key_type) + (length (encode_int t.key_len) + length (encode_int t.data_types)))
  unfolding definition_bytes
  definition-most =
      let n : length (name_of t) < 240 = omega (arith, name-most) in
      simp length-append (omega (arith, five-bytes id l, one_byte (length (name_of t)) n, name-most, times-most))

pub definitions-fit : DefinitionsFit
definitions-fit id t l h =
    omega (
      arith,
      definition-most id t l h,
      five-bytes t.key_type h.key_type,
      five-bytes t.key_len h.key_length,
      five-bytes t.data_types h.data_types,
    )

pub sound-definitions-fit : SoundDefinitionsFit
sound-definitions-fit id t l h held sound =
    let f : TableFacts t = table-facts t sound held in
    let kind : t.key_type < 240 = omega (arith, known_small t.key_type f.known) in
    let len : t.key_len < 240 = omega (arith, key-length-most t.key_type t.key_len f.key_length) in
    let types : t.data_types < 33818864 = omega (arith, f.data_types) in
    omega (
      arith,
      definition-most id t l h,
      one_byte t.key_type kind,
      one_byte t.key_len len,
      four_bytes t.data_types types,
    )

-- ---- update
module _ (t : Table) (e : Entry) (z : EntryShape e) where
  abbrev types : ℕ
  types = t.data_types

  key-most : length (key_of e) ≤ 64
  unfolding key_of
  key-most = omega (arith, length-take e.key_len e.key, z.key.size)

  key-bytes-most : length (key_bytes t.key_type (key_of e)) ≤ 65
  unfolding key_bytes
  key-bytes-most =
      by-test (is_string (key_kind t.key_type))
      (λ h.
      let n : length (key_of e) < 240 = omega (arith, key-most) in
      rw (h, length-append) (omega (arith, one_byte (length (key_of e)) n, key-most)))
      (λ h. rw h (omega (arith, key-most)))

  server-most : length (server_bytes types e.server_id) ≤ 10
  unfolding server_bytes
  server-most =
      by-test (present types 0)
      (λ h. rw h (int-length (server_word e.server_id)))
      (λ h. rw h (omega arith))

  number-most : (form : Form) (id : ℕ) → length (number_if form.explicit id) + length (number_if form.timed e.remaining) ≤ 8
  number-most form id =
      rw (if-length form.explicit id, if-length form.timed e.remaining) (flags form.explicit form.timed)
    where
      flags : (a b : Bool) → cond a 4 0 + cond b 4 0 ≤ 8
      flags true true = omega arith
      flags true false = omega arith
      flags false true = omega arith
      flags false false = omega arith

  update-most : (form : Form) (id : ℕ) → length (update_bytes form t id e) ≤ 83 + length (each_bytes (value_bytes types) slot_types e.values)
  unfolding update_bytes entry_bytes data_bytes
  update-most form id = simp length-append (omega (arith, number-most form id, key-bytes-most, server-most))

-- a value of any number has at most ten bytes, one of 32 bits five
value-most : (types t v : ℕ) → length (value_bytes types t v) ≤ 10
unfolding value_bytes
value-most types t v = by-test (present types t) (λ h. rw h (int-length v)) (λ h. rw h (omega arith))

valued-most : (types t v : ℕ) → Valued types t v → length (value_bytes types t v) ≤ cond (is_wide t) 10 5
unfolding value_bytes width_of
valued-most types t v q =
    by-test (present types t)
    (λ h.
    by-test (is_wide t)
    (λ w. rw (h, w) (int-length v))
    (λ w. let k : v < 2 ^ 32 = rw w at (q.within h) in rw (h, w) (five-bytes v k)))
    (λ h. rw h (omega arith))

all_most : sum (map (λ t. 10) slot_types) ≡ 340
unfolding sum slot_types slots_for integers_of is_rate rate_types among
all_most = refl

wide-most : sum (map (λ t. cond (is_wide t) 10 5) slot_types) ≡ 180
unfolding sum slot_types slots_for integers_of is_rate rate_types is_wide among
wide-most = refl

pub updates-fit : UpdatesFit
updates-fit form t id e z =
    let types = t.data_types in
    let a : Along (λ t v. Unit {0}) slot_types e.values =
    along-from (λ t v. Unit {0}) slot_types e.values (z.values.size ∙ sym slot-count) (λ i l. tt) in
    omega (arith, update-most t e z form id, all_most, each-most (value_bytes types) (λ t. 10) (λ t v. Unit {0}) (λ t v q. value-most types t v) slot_types e.values a)

pub sound-updates-fit : SoundUpdatesFit
sound-updates-fit form t id e z =
    let types = t.data_types in
    let a = values-valued t e z.shape z.values in
    omega (arith, update-most t e z.shape form id, wide-most, each-most (value_bytes types) (λ t. cond (is_wide t) 10 5) (Valued types) (valued-most types) slot_types e.values a)
