-- What was read as an update is its encoding: the bytes of each field, one directly behind the other, and then the bytes that are ignored.
use Prim.Native.Nat.{ℕ, zero, suc, ◌+◌, ◌<◌}
use native.Mathlib.Omega.{arith}
use mathlib.Core.Path.{◌≡◌, refl, sym, ap, ◌∙◌}
use mathlib.Core.List.{List, [], ◌∷◌, ◌++◌, append_assoc}
use mathlib.Core.Bool.{Bool, true, false, cond}
use lib.ListN.{length, take, drop, get_or, length-append}
use lib.Seq.{drop-append_seam, take-append_seam}
use lib.IntN.{ℤ, pos}
use Rattle.lists.proofs.Cases.{cond-true, cond-false}
use Rattle.wire.specs.Integer.{encode_int}
use Rattle.wire.specs.Server.{server_word}
use Rattle.wire.specs.Value.{Bytes}
use Rattle.wire.proofs.Numbers.{number-length}
use Rattle.store.specs.declared.Table.{Table}
use Rattle.store.specs.declared.Entry.{Entry}
use Rattle.store.specs.Limits.{key_kind, is_string, present, width_of, slot_types}
use Rattle.store.specs.Store.{key_of}
use Rattle.store.proofs.Rules.{slot-count}
use Rattle.body.specs.Fields.{got, integer, between, integer_of, Span, span_in, bytes, number4, server_id}
use Rattle.body.specs.Bodies.{string_field, key_field, server_field, slot_field, value_fields, Data, data_fields, Time, Update, entry_fields, number_or, time_mark, timed_fields, update_fields}
use Rattle.body.specs.declared.update.Form.{Form}
use Rattle.body.specs.Encodings.{each_bytes, key_bytes, server_bytes, value_bytes, data_bytes, entry_bytes, number_if, update_bytes, entry_start, server_start, slot_start}
use Rattle.body.proofs.Holds.{Holds, held, holds-cond, holds-got, holds-each, holds_then}
use Rattle.body.proofs.Encoding.{Stands, stands-none, stands-then, Encoded, integer-encoded, width-encoded, number-encoded, server-encoded, PartHere, bytes-encoded, each-encoded}

-- ---- key and data
module _ (s : List ℕ) (b : Bytes s) where
  string-encoded : (n at : ℕ) → Holds (Encoded (λ key. encode_int (length (span_in s key)) ++ span_in s key) s at) (string_field n s at)
  unfolding string_field Holds
  string-encoded n at =
      let Q : Span → ℕ → Type 0 = Encoded (λ key. encode_int (length (span_in s key)) ++ span_in s key) s at in
      holds_then (Encoded encode_int s at) Q (integer (between 0 n) s at) _ (integer-encoded s b (between 0 n) at) λ len at₁ q.
      holds-each (PartHere s len at₁) Q (bytes len s at₁) (bytes-encoded s len at₁) λ key next r.
      let p : Stands s (encode_int (length (span_in s key))) at at₁ = rw r.size q in
      stands-then s p r.here

  key-encoded : (key_type n at : ℕ) → Holds (Encoded (λ key. key_bytes key_type (span_in s key)) s at) (key_field key_type n s at)
  unfolding key_field
  key-encoded key_type n at =
      let Q : Span → ℕ → Type 0 = Encoded (λ key. key_bytes key_type (span_in s key)) s at in
      holds-cond Q (is_string (key_kind key_type)) (string_field n s at) (bytes n s at)
      (λ e.
      holds-each _ Q (string_field n s at) (string-encoded n at) λ key next r.
      unfold key_bytes in rw (cond-true _ _ _ e) r)
      (λ e.
      holds-each _ Q (bytes n s at) (bytes-encoded s n at) λ key next r.
      unfold key_bytes in rw (cond-false _ _ _ e) r.here)

  server-field-encoded : (types at : ℕ) → Holds (Encoded (server_bytes types) s at) (server_field types s at)
  unfolding server_field
  server-field-encoded types at =
      let Q : ℤ → ℕ → Type 0 = Encoded (server_bytes types) s at in
      holds-cond Q (present types 0) (server_id s at) (got (pos 0) at)
      (λ e. holds-each _ Q (server_id s at) (server-encoded s b at) λ z next r. unfold server_bytes in rw (cond-true _ _ _ e) r)
      (λ e. holds-got Q (pos 0) at (unfold server_bytes in rw (cond-false _ _ _ e) (stands-none s at)))

  slot-encoded : (types t at : ℕ) → Holds (Encoded (value_bytes types t) s at) (slot_field types t s at)
  unfolding slot_field
  slot-encoded types t at =
      let Q : ℕ → ℕ → Type 0 = Encoded (value_bytes types t) s at in
      holds-cond Q (present types t) (integer_of (width_of t) s at) (got 0 at)
      (λ e. holds-each _ Q (integer_of (width_of t) s at) (width-encoded s b (width_of t) at) λ v next r. unfold value_bytes in rw (cond-true _ _ _ e) r)
      (λ e. holds-got Q 0 at (unfold value_bytes in rw (cond-false _ _ _ e) (stands-none s at)))

  data-encoded : (types at : ℕ) → Holds (Encoded (λ d. data_bytes types d.server d.values) s at) (data_fields types s at)
  unfolding data_fields data_bytes
  data-encoded types at =
      let Q : Data → ℕ → Type 0 = Encoded (λ d. data_bytes types d.server d.values) s at in
      holds_then (Encoded (server_bytes types) s at) Q (server_field types s at) _ (server-field-encoded types at) λ z at₁ q.
      holds_then (Encoded (each_bytes (value_bytes types) slot_types) s at₁) Q (value_fields types s at₁) _
      (each-encoded (slot_field types) (value_bytes types) s (slot-encoded types) slot_types at₁) λ values at₂ r.
      holds-got Q _ at₂ (stands-then s q r)

-- an entry with what was read: the remaining time, if the update has one, the key, the server ID and the values
pub record EntryRead (form : Form) (body : List ℕ) (u : Update) (e : Entry) : Type 0 where
  pub remaining : form.timed ≡ true → e.remaining ≡ u.time.remaining
  pub key : key_of e ≡ span_in body u.key
  pub server : e.server_id ≡ u.server
  pub values : e.values ≡ u.values

-- key and data of an update that was read with this ID and this remaining time
record KeyedAt (t : Table) (id : ℕ) (time : Time) (s : List ℕ) (at : ℕ) (u : Update) (next : ℕ) : Type 0 where
  same : u.id ≡ id
  same-time : u.time ≡ time
  here : Stands s (key_bytes t.key_type (span_in s u.key) ++ data_bytes t.data_types u.server u.values) at next

-- four bytes that were read are those of the number; none were where it isn't there
number-or-encoded : (s : List ℕ) → Bytes s → (there : Bool) (known at : ℕ) → Holds (Encoded (number_if there) s at) (number_or there known s at)
unfolding number_or
number-or-encoded s b there known at =
    let Q : ℕ → ℕ → Type 0 = Encoded (number_if there) s at in
    holds-cond Q there (number4 s at) (got known at)
    (λ e. holds-each _ Q (number4 s at) (number-encoded s b at) λ v next r. unfold number_if in rw (cond-true _ _ _ e) r)
    (λ e. holds-got Q known at (unfold number_if in rw (cond-false _ _ _ e) (stands-none s at)))

-- the entry's own remaining time stands there
number_same : (there : Bool) (v w : ℕ) → (there ≡ true → v ≡ w) → number_if there w ≡ number_if there v
unfolding number_if
number_same true v w h = rw (h refl)
number_same false v w h = refl

module _ (t : Table) (s : List ℕ) (b : Bytes s) where
  entry-encoded : (id : ℕ) (time : Time) (at : ℕ) → Holds (KeyedAt t id time s at) (entry_fields t id time s at)
  unfolding entry_fields
  entry-encoded id time at =
      let Q : Update → ℕ → Type 0 = KeyedAt t id time s at in
      holds_then _ Q (key_field t.key_type t.key_len s at) _ (key-encoded s b t.key_type t.key_len at) λ key at₁ q.
      holds_then _ Q (data_fields t.data_types s at₁) _ (data-encoded s b t.data_types at₁) λ d at₂ r.
      holds-got Q _ at₂ (record { same = refl; same-time = refl; here = stands-then s q r })

  -- an update's body is its encoding, and ignored bytes
  pub update-encoded : (form : Form) (following : ℕ) (u : Update) (next : ℕ) (e : Entry) → EntryRead form s u e
      → update_fields form t following s ≡ got u next → s ≡ update_bytes form t u.id e ++ drop next s
  unfolding update_fields timed_fields update_bytes entry_bytes
  update-encoded form following u next e r q =
      let Q : Update → ℕ → Type 0 =
      λ u next. (e : Entry) → EntryRead form s u e
      → Stands s (number_if form.explicit u.id ++ (number_if form.timed e.remaining ++ entry_bytes t e)) 0 next in
      (held Q _
      (holds_then (Encoded (number_if form.explicit) s 0) Q (number_or form.explicit following s 0) _
      (number-or-encoded s b form.explicit following 0) λ id at₁ p.
      holds_then (Encoded (number_if form.timed) s at₁) Q (number_or form.timed t.expiry s at₁) _
      (number-or-encoded s b form.timed t.expiry at₁) λ remaining at₂ w.
      let time : Time = record { timed = time_mark form t; remaining = remaining } in
      holds-each (KeyedAt t id time s at₂) Q (entry_fields t id time s at₂) (entry-encoded id time at₂) λ u next k e r.
      let h : Stands s (number_if form.explicit u.id) 0 at₁ = rw k.same p in
      let left : u.time.remaining ≡ remaining = ap (λ (x : Time). x.remaining) k.same-time in
      let v : number_if form.timed remaining ≡ number_if form.timed e.remaining =
      number_same form.timed e.remaining remaining (λ z. r.remaining z ∙ left) in
      let h₁ : Stands s (number_if form.timed e.remaining) at₁ at₂ = rw (← v) w in
      stands-then s h (stands-then s h₁ (rw (r.key, r.server, r.values) k.here)))
      u next q e r).split

-- the bytes of a number, where it is there, and those before key and data
pub if-length : (there : Bool) (n : ℕ) → length (number_if there n) ≡ cond there 4 0
unfolding number_if
if-length true n = number-length n
if-length false n = refl

pub entry-start : (form : Form) (id remaining : ℕ) → length (number_if form.explicit id ++ number_if form.timed remaining) ≡ entry_start form
unfolding entry_start
entry-start form id remaining =
    length-append (number_if form.explicit id) (number_if form.timed remaining)
    ∙ rw (if-length form.explicit id, if-length form.timed remaining)

-- ---- the integers of an update

-- the field of type number i stands between those before it and those behind it
each-split : (encode : ℕ → ℕ → List ℕ) (ts vs : List ℕ) (i : ℕ) → i < length ts → i < length vs
    → each_bytes encode ts vs
    ≡ each_bytes encode (take i ts) (take i vs) ++ (encode (get_or ts i 0) (get_or vs i 0) ++ each_bytes encode (drop (suc i) ts) (drop (suc i) vs))
unfolding each_bytes
each-split encode [] vs i l k = absurd (omega arith)
each-split encode (t ∷ ts) [] i l k = absurd (omega arith)
each-split encode (t ∷ ts) (v ∷ vs) zero l k = refl
each-split encode (t ∷ ts) (v ∷ vs) (suc i) l k =
    ap (λ (x : List ℕ). encode t v ++ x) (each-split encode ts vs i (omega arith) (omega arith))
    ∙ sym (append_assoc (encode t v) (each_bytes encode (take i ts) (take i vs)) _)

-- a slot whose data type is present: its integer starts at the slot's position
module _ (t : Table) (e : Entry) (i : ℕ) (l : i < 34) (size : length e.values ≡ 34) (h : present t.data_types (get_or slot_types i 0) ≡ true) where
  abbrev types : ℕ
  types = t.data_types

  abbrev key : List ℕ
  key = key_bytes t.key_type (key_of e)

  abbrev id : List ℕ
  id = server_bytes types e.server_id

  abbrev before : List ℕ
  before = each_bytes (value_bytes types) (take i slot_types) (take i e.values)

  abbrev behind : List ℕ
  behind = each_bytes (value_bytes types) (drop (suc i) slot_types) (drop (suc i) e.values)

  abbrev value : List ℕ
  value = encode_int (get_or e.values i 0)

  value_there : value_bytes types (get_or slot_types i 0) (get_or e.values i 0) ≡ value
  unfolding value_bytes
  value_there = cond-true _ _ _ h

  entry-split : (p rest : List ℕ) → p ++ (entry_bytes t e ++ rest) ≡ (p ++ (key ++ (id ++ before))) ++ (value ++ (behind ++ rest))
  unfolding entry_bytes data_bytes
  entry-split p rest =
      rw (each-split (value_bytes types) slot_types e.values i (omega (arith, slot-count)) (omega arith), value_there) (simp append_assoc)

  start_is : (p : List ℕ) → length (p ++ (key ++ (id ++ before))) ≡ length p + slot_start t e i
  unfolding slot_start
  start_is p = simp length-append

  pub slot-there : (p rest : List ℕ) → take (length value) (drop (length p + slot_start t e i) (p ++ (entry_bytes t e ++ rest))) ≡ value
  slot-there p rest =
      rw (entry-split p rest, ← start_is p, drop-append_seam (p ++ (key ++ (id ++ before))) (value ++ (behind ++ rest))) (take-append_seam value (behind ++ rest))

-- where data type 0 is present, the server ID starts behind the key
module _ (t : Table) (e : Entry) (h : present t.data_types 0 ≡ true) where
  abbrev word : List ℕ
  word = encode_int (server_word e.server_id)

  abbrev before-id : List ℕ
  before-id = key_bytes t.key_type (key_of e)

  abbrev behind-id : List ℕ
  behind-id = each_bytes (value_bytes t.data_types) slot_types e.values

  word-there : server_bytes t.data_types e.server_id ≡ word
  unfolding server_bytes
  word-there = cond-true _ _ _ h

  server-split : (p rest : List ℕ) → p ++ (entry_bytes t e ++ rest) ≡ (p ++ before-id) ++ (word ++ (behind-id ++ rest))
  unfolding entry_bytes data_bytes
  server-split p rest = rw word-there (simp append_assoc)

  server-start-is : (p : List ℕ) → length (p ++ before-id) ≡ length p + server_start t e
  unfolding server_start
  server-start-is p = simp length-append

  pub server-there : (p rest : List ℕ) → take (length word) (drop (length p + server_start t e) (p ++ (entry_bytes t e ++ rest))) ≡ word
  server-there p rest =
      rw (server-split p rest, ← server-start-is p, drop-append_seam (p ++ before-id) (word ++ (behind-id ++ rest))) (take-append_seam word (behind-id ++ rest))
