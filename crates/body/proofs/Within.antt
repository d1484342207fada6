-- What was read of a body is within the limits.
use Prim.Native.Nat.{ℕ, ◌+◌, ◌^◌, ◌≤◌, ◌<◌}
use native.Mathlib.Omega.{arith}
use mathlib.Core.Path.{◌≡◌, refl, ◌∙◌, ap}
use mathlib.Core.List.{List, [], ◌∷◌}
use mathlib.Core.Bool.{Bool, true, false, cond, ◌||◌}
use lib.ListN.{length, get_or, replicate, get_or-replicate, get_or-eq_default}
use lib.IntN.{ℤ, pos}
use lib.Signed.{mag}
use lib.Dec.{ltb, leb, eqb}
use borrow.Author.Tests.{lt-ltb, le-leb, ltb-true, eq-eqb}
use Rattle.lists.proofs.Cases.{lt-or-le, never, and_intro, unless-true, unless-false, cond-true, cond-false, split}
use Rattle.wire.specs.Value.{Bytes}
use Rattle.store.specs.declared.Table.{Table}
use Rattle.store.specs.Shape.{Cells}
use Rattle.store.specs.Limits.{name_max, plain_name, key_kind, is_known, is_string, key_length_ok, data_types_ok, present, is_wide, width_of, slot_types, rate_types}
use Rattle.store.specs.Sound.{slot_ok, slots_ok}
use Rattle.store.proofs.Rules.{slot-count, rate-count}
use Rattle.body.specs.declared.update.Form.{Form}
use Rattle.body.specs.Fields.{got, between, Span, span_in}
use Rattle.body.specs.Bodies.{Named, name_field, named_fields, is_key_type, Shape, shape_fields, pair_field, period_field, Times, no_times, times_there, times_fields, Definition, defined, rest_fields, definition_fields, switch_fields, string_field, key_field, server_field, slot_field, Data, data_fields, Time, Update, keyed, entry_fields, number_or, time_mark, timed_fields, update_fields}
use Rattle.body.proofs.Holds.{Holds, held, holds-cond, holds-each}
use Rattle.body.proofs.Taken.{Taken, taken-got, weaken, taken_then, Along, along-at, along-cells, each_holds, Tested, integer-holds, Width, width-holds, PartOf, bytes-holds, name-holds, number-holds, server-holds, between-low, between-high}

-- ---- a definition
record NamedWithin (s : List ℕ) (n : Named) : Type 0 where
  id : n.id < 2 ^ 32
  least : 1 ≤ n.name.len
  most : n.name.len ≤ name_max
  inside : n.name.start + n.name.len ≤ length s
  plain : plain_name (span_in s n.name) ≡ true

NamePart : ℕ → List ℕ → Span → Type 0
NamePart n s name = PartOf n s name × (plain_name (span_in s name) ≡ true)

name-part-holds : (n : ℕ) (s : List ℕ) (at : ℕ) → Holds (Taken (NamePart n s) s at) (name_field n s at)
unfolding NamePart
name-part-holds n s at =
    let P : Span → ℕ → Type 0 = Taken (PartOf n s) s at in
    holds-each (λ name next. P name next × (plain_name (span_in s name) ≡ true)) (Taken (NamePart n s) s at) (name_field n s at)
    (name-holds P n s at (bytes-holds n s at))
    (λ name next r. record { fact = (r.0.fact, r.1); on = r.0.on; end = r.0.end })

named-holds : (s : List ℕ) (at : ℕ) → Holds (Taken (NamedWithin s) s at) (named_fields s at)
unfolding named_fields Tested Width PartOf NamePart
named-holds s at =
    taken_then (Width 32) (NamedWithin s) s at _ _ (width-holds 32 s at) λ id at₁ h₁ l₁.
    taken_then (Tested (between 1 name_max)) (NamedWithin s) s at₁ _ _ (integer-holds (between 1 name_max) s at₁) λ len at₂ h₂ l₂.
    taken_then (NamePart len s) (NamedWithin s) s at₂ _ _ (name-part-holds len s at₂) λ name at₃ h₃ l₃.
    let low = between-low 1 name_max len h₂.0 in
    let high = between-high 1 name_max len h₂.0 in
    taken-got (NamedWithin s) s at₃ _
    (record { id = h₁.0; least = omega (arith, h₃.0.0); most = omega (arith, h₃.0.0); inside = h₃.0.1; plain = h₃.1 })
    l₃

record ShapeWithin (h : Shape) : Type 0 where
  key_type : is_known (key_kind h.key_type) ≡ true
  key_length : key_length_ok h.key_type h.key_length ≡ true
  types_ok : data_types_ok h.data_types ≡ true
  data_types : h.data_types < 2 ^ 19

pub types-small : (n : ℕ) → data_types_ok n ≡ true → n < 2 ^ 19
unfolding data_types_ok
types-small n h = ltb-true n (2 ^ 19) h

shape-holds : (s : List ℕ) (at : ℕ) → Holds (Taken ShapeWithin s at) (shape_fields s at)
unfolding shape_fields Tested is_key_type
shape-holds s at =
    taken_then (Tested is_key_type) ShapeWithin s at _ _ (integer-holds is_key_type s at) λ key_type at₁ h₁ l₁.
    taken_then (Tested (key_length_ok key_type)) ShapeWithin s at₁ _ _ (integer-holds (key_length_ok key_type) s at₁) λ key_length at₂ h₂ l₂.
    taken_then (Tested data_types_ok) ShapeWithin s at₂ _ _ (integer-holds data_types_ok s at₂) λ types at₃ h₃ l₃.
    taken-got ShapeWithin s at₃ _ (record { key_type = h₁.0; key_length = h₂.0; types_ok = h₃.0; data_types = types-small types h₃.0 }) l₃

pub shape-end : (s : List ℕ) (at : ℕ) (h : Shape) (next : ℕ) → shape_fields s at ≡ got h next → next ≤ length s
shape-end s at h next e = (held (Taken ShapeWithin s at) _ (shape-holds s at) h next e).end

Period : ℕ → ℕ → Type 0
Period t v = v < 2 ^ 32

period-holds : (types : ℕ) (s : List ℕ) (t at : ℕ) → at ≤ length s → Holds (Taken (Period t) s at) (period_field types t s at)
unfolding period_field pair_field Period Width
period-holds types s t at l =
    holds-cond (Taken (Period t) s at) (present types t) _ _
    (λ e.
    taken_then (Tested λ n. eqb n t) (Period t) s at _ _ (integer-holds (λ n. eqb n t) s at) λ n at₁ h l₁.
    weaken (Width 32) (Period t) (λ v h. h.0) s at₁ _ (width-holds 32 s at₁))
    (λ e. taken-got (Period t) s at 0 (omega arith) l)

record TimesWithin (t : Times) : Type 0 where
  timed : t.timed ≤ 1
  expiry : t.expiry < 2 ^ 32
  periods : Cells 8 32 t.periods

times-holds : (types : ℕ) (s : List ℕ) (at : ℕ) → at ≤ length s → Holds (Taken TimesWithin s at) (times_fields types s at)
unfolding times_fields times_there Width Period
times-holds types s at l =
    holds-cond (Taken TimesWithin s at) (eqb at (length s)) _ _
    (λ e.
    taken-got TimesWithin s at no_times
    (record { timed = omega arith; expiry = omega arith; periods = record { size = refl; small = λ i. zeros i } })
    l)
    (λ e.
    taken_then (Width 32) TimesWithin s at _ _ (width-holds 32 s at) λ expiry at₁ h₁ l₁.
    taken_then (Along Period rate_types) TimesWithin s at₁ _ _
    (each_holds Period (period_field types) s (period-holds types s) rate_types at₁ l₁) λ periods at₂ h₂ l₂.
    taken-got TimesWithin s at₂ _
    (record {
      timed = omega arith;
      expiry = h₁.0;
      periods = along-cells Period 8 32 rate_types periods rate-count (omega arith) (λ t v h. h) h₂;
    })
    l₂)
  where
    zeros : (i : ℕ) → get_or (replicate 8 0) i 0 < 2 ^ 32
    zeros i =
        split (lt-or-le i 8)
        (λ k. rw (get_or-replicate {A = ℕ} 8 i 0 0 k) (omega arith))
        (λ k. rw (get_or-eq_default {A = ℕ} (replicate 8 0) 0 k) (omega arith))

pub record DefinitionWithin (body : List ℕ) (d : Definition) : Type 0 where
  pub id : d.id < 2 ^ 32
  pub name_least : 1 ≤ d.name.len
  pub name_most : d.name.len ≤ name_max
  pub name_end : d.name.start + d.name.len ≤ length body
  pub plain : plain_name (span_in body d.name) ≡ true
  pub key_type : is_known (key_kind d.key_type) ≡ true
  pub key_length : key_length_ok d.key_type d.key_length ≡ true
  pub types_ok : data_types_ok d.data_types ≡ true
  pub data_types : d.data_types < 2 ^ 19
  pub timed : d.times.timed ≤ 1
  pub expiry : d.times.expiry < 2 ^ 32
  pub periods : Cells 8 32 d.times.periods

pub definition-holds : (body : List ℕ) → Holds (Taken (DefinitionWithin body) body 0) (definition_fields body)
unfolding definition_fields rest_fields
definition-holds body =
    taken_then (NamedWithin body) (DefinitionWithin body) body 0 _ _ (named-holds body 0) λ named at₁ n l₁.
    taken_then ShapeWithin (DefinitionWithin body) body at₁ _ _ (shape-holds body at₁) λ shape at₂ h l₂.
    taken_then TimesWithin (DefinitionWithin body) body at₂ _ _ (times-holds shape.data_types body at₂ l₂) λ times at₃ t l₃.
    taken-got (DefinitionWithin body) body at₃ (defined named shape times)
    (record {
      id = n.id;
      name_least = n.least;
      name_most = n.most;
      name_end = n.inside;
      plain = n.plain;
      key_type = h.key_type;
      key_length = h.key_length;
      types_ok = h.types_ok;
      data_types = h.data_types;
      timed = t.timed;
      expiry = t.expiry;
      periods = t.periods;
    })
    l₃

pub definition-within : (body : List ℕ) (d : Definition) (next : ℕ) → definition_fields body ≡ got d next
    → DefinitionWithin body d × (next ≤ length body)
definition-within body d next e =
    let h = held (Taken (DefinitionWithin body) body 0) _ (definition-holds body) d next e in
    (h.fact, h.end)

-- ---- switch and acknowledgement
pub switch-within : (body : List ℕ) (id next : ℕ) → switch_fields body ≡ got id next → (id < 2 ^ 32) × (next ≤ length body)
unfolding switch_fields Width
switch-within body id next e =
    let h = held (Taken (Width 32) body 0) _ (width-holds 32 body 0) id next e in
    (h.fact.0, h.end)

-- ---- an update
-- the key of a table with this key type and key length
record KeyWithin (key_type n : ℕ) (s : List ℕ) (key : Span) : Type 0 where
  len : cond (is_string (key_kind key_type)) (leb key.len n) (eqb key.len n) ≡ true
  inside : key.start + key.len ≤ length s

key-holds : (key_type n : ℕ) (s : List ℕ) (at : ℕ) → Holds (Taken (KeyWithin key_type n s) s at) (key_field key_type n s at)
unfolding key_field string_field Tested PartOf
key-holds key_type n s at =
    holds-cond (Taken (KeyWithin key_type n s) s at) (is_string (key_kind key_type)) _ _
    (λ e.
    taken_then (Tested (between 0 n)) (KeyWithin key_type n s) s at _ _ (integer-holds (between 0 n) s at) λ len at₁ h l₁.
    weaken (PartOf len s) (KeyWithin key_type n s)
    (λ key k.
    let m = between-high 0 n len h.0 in
    record { len = cond-true _ _ _ e ∙ le-leb key.len n (omega arith); inside = k.1 })
    s at₁ _ (bytes-holds len s at₁))
    (λ e.
    weaken (PartOf n s) (KeyWithin key_type n s)
    (λ key k. record { len = cond-false _ _ _ e ∙ eq-eqb key.len n k.0; inside = k.1 })
    s at _ (bytes-holds n s at))

record ServerWithin (types : ℕ) (z : ℤ) : Type 0 where
  small : mag z < 2 ^ 31
  none : present types 0 ≡ false → z ≡ pos 0

server-field-holds : (types : ℕ) (s : List ℕ) (at : ℕ) → at ≤ length s → Holds (Taken (ServerWithin types) s at) (server_field types s at)
unfolding server_field
server-field-holds types s at l =
    holds-cond (Taken (ServerWithin types) s at) (present types 0) _ _
    (λ e. weaken (λ z. mag z < 2 ^ 31) (ServerWithin types) (λ z h. record { small = h; none = λ q. never e q }) s at _ (server-holds s at))
    (λ e. taken-got (ServerWithin types) s at (pos 0) (record { small = omega arith; none = λ q. refl }) l)

record Slot (types t v : ℕ) : Type 0 where
  ok : slot_ok types t v ≡ true
  small : v < 2 ^ 64
  none : present types t ≡ false → v ≡ 0

by_width : (b : Bool) (v : ℕ) → v < 2 ^ cond b 64 32 → (b || ltb v (2 ^ 32)) ≡ true
by_width true v h = refl
by_width false v h = lt-ltb v (2 ^ 32) h

slot-passes : (types t v : ℕ) → present types t ≡ true → v < 2 ^ width_of t → slot_ok types t v ≡ true
unfolding slot_ok width_of
slot-passes types t v e h = unless-true _ _ e ∙ by_width (is_wide t) v h

slot-none : (types t v : ℕ) → present types t ≡ false → slot_ok types t v ≡ true
unfolding slot_ok
slot-none types t v e = unless-false _ _ e

slot-holds : (types : ℕ) (s : List ℕ) (t at : ℕ) → at ≤ length s → Holds (Taken (Slot types t) s at) (slot_field types t s at)
unfolding slot_field Width
slot-holds types s t at l =
    holds-cond (Taken (Slot types t) s at) (present types t) _ _
    (λ e.
    weaken (Width (width_of t)) (Slot types t)
    (λ v h. record { ok = slot-passes types t v e h.0; small = h.1; none = λ q. never e q })
    s at _ (width-holds (width_of t) s at))
    (λ e. taken-got (Slot types t) s at 0 (record { ok = slot-none types t 0 e; small = omega arith; none = λ q. refl }) l)

slots-ok : (types : ℕ) (ts vs : List ℕ) → Along (Slot types) ts vs → slots_ok types ts vs ≡ true
unfolding slots_ok Along
slots-ok types [] vs h = refl
slots-ok types (t ∷ ts) [] h = absurd h
slots-ok types (t ∷ ts) (v ∷ vs) h = and_intro (slot_ok types t v) (slots_ok types ts vs) h.0.ok (slots-ok types ts vs h.1)

record DataWithin (types : ℕ) (d : Data) : Type 0 where
  server : ServerWithin types d.server
  slots : Along (Slot types) slot_types d.values

data-holds : (types : ℕ) (s : List ℕ) (at : ℕ) → at ≤ length s → Holds (Taken (DataWithin types) s at) (data_fields types s at)
unfolding data_fields
data-holds types s at l =
    taken_then (ServerWithin types) (DataWithin types) s at _ _ (server-field-holds types s at l) λ z at₁ h l₁.
    taken_then (Along (Slot types) slot_types) (DataWithin types) s at₁ _ _
    (each_holds (Slot types) (slot_field types) s (slot-holds types s) slot_types at₁ l₁) λ vs at₂ k l₂.
    taken-got (DataWithin types) s at₂ _ (record { server = h; slots = k }) l₂

pub record UpdateWithin (t : Table) (body : List ℕ) (u : Update) : Type 0 where
  pub key_length : cond (is_string (key_kind t.key_type)) (leb u.key.len t.key_len) (eqb u.key.len t.key_len) ≡ true
  pub key_end : u.key.start + u.key.len ≤ length body
  pub server : mag u.server < 2 ^ 31
  pub no_server : present t.data_types 0 ≡ false → u.server ≡ pos 0
  pub values : Cells 34 64 u.values
  pub slots : slots_ok t.data_types slot_types u.values ≡ true
  pub absent : (i : ℕ) → i < 34 → present t.data_types (get_or slot_types i 0) ≡ false → get_or u.values i 0 ≡ 0

pub record EntryWithin (t : Table) (id : ℕ) (time : Time) (body : List ℕ) (u : Update) : Type 0 where
  pub same : u.id ≡ id
  pub same-time : u.time ≡ time
  pub within : UpdateWithin t body u

pub entry-holds : (t : Table) (id : ℕ) (time : Time) (body : List ℕ) (at : ℕ)
    → Holds (Taken (EntryWithin t id time body) body at) (entry_fields t id time body at)
unfolding entry_fields
entry-holds t id time body at =
    let types = t.data_types in
    taken_then (KeyWithin t.key_type t.key_len body) (EntryWithin t id time body) body at _ _
    (key-holds t.key_type t.key_len body at) λ key at₁ k l₁.
    taken_then (DataWithin types) (EntryWithin t id time body) body at₁ _ _ (data-holds types body at₁ l₁) λ d at₂ h l₂.
    taken-got (EntryWithin t id time body) body at₂ (keyed id time key d)
    (record {
      same = refl;
      same-time = refl;
      within = record {
        key_length = k.len;
        key_end = k.inside;
        server = h.server.small;
        no_server = h.server.none;
        values = along-cells (Slot types) 34 64 slot_types d.values slot-count (omega arith) (λ s v q. q.small) h.slots;
        slots = slots-ok types slot_types d.values h.slots;
        absent = λ i l e. (along-at (Slot types) slot_types d.values h.slots i (omega (arith, slot-count))).none e;
      };
    })
    l₂

-- a 4-byte number that was read, or the one that is known without it
record NumberWithin (there : Bool) (known : ℕ) (s : List ℕ) (v : ℕ) : Type 0 where
  small : Bytes s → known < 2 ^ 32 → v < 2 ^ 32
  same : there ≡ false → v ≡ known

number-or-holds : (there : Bool) (known : ℕ) (s : List ℕ) (at : ℕ) → at ≤ length s
    → Holds (Taken (NumberWithin there known s) s at) (number_or there known s at)
unfolding number_or
number-or-holds there known s at l =
    holds-cond (Taken (NumberWithin there known s) s at) there _ _
    (λ e. weaken (λ v. Bytes s → v < 2 ^ 32) (NumberWithin there known s) (λ v h. record { small = λ b k. h b; same = λ q. never e q }) s at _ (number-holds s at))
    (λ e. taken-got (NumberWithin there known s) s at known (record { small = λ b k. k; same = λ q. refl }) l)

-- an update that was read: its ID and remaining time, each read or known without the body, and the rest
pub record UpdateRead (form : Form) (t : Table) (following : ℕ) (body : List ℕ) (u : Update) : Type 0 where
  pub id-small : Bytes body → following < 2 ^ 32 → u.id < 2 ^ 32
  pub id-known : form.explicit ≡ false → u.id ≡ following
  pub mark : u.time.timed ≡ time_mark form t
  pub time-small : Bytes body → t.expiry < 2 ^ 32 → u.time.remaining < 2 ^ 32
  pub time-known : form.timed ≡ false → u.time.remaining ≡ t.expiry
  pub within : UpdateWithin t body u

update-holds : (form : Form) (t : Table) (following : ℕ) (body : List ℕ)
    → Holds (Taken (UpdateRead form t following body) body 0) (update_fields form t following body)
unfolding update_fields timed_fields
update-holds form t following body =
    let P = UpdateRead form t following body in
    taken_then (NumberWithin form.explicit following body) P body 0 _ _ (number-or-holds form.explicit following body 0 (omega arith)) λ id at₁ i l₁.
    taken_then (NumberWithin form.timed t.expiry body) P body at₁ _ _ (number-or-holds form.timed t.expiry body at₁ l₁) λ remaining at₂ r l₂.
    let time : Time = record { timed = time_mark form t; remaining = remaining } in
    weaken (EntryWithin t id time body) P
    (λ u k.
    let left : u.time.remaining ≡ remaining = ap (λ (x : Time). x.remaining) k.same-time in
    record {
      id-small = λ b l. rw k.same (i.small b l);
      id-known = λ e. k.same ∙ i.same e;
      mark = ap (λ (x : Time). x.timed) k.same-time;
      time-small = λ b l. rw left (r.small b l);
      time-known = λ e. left ∙ r.same e;
      within = k.within;
    })
    body at₂ _ (entry-holds t id time body at₂)

pub update-within : (form : Form) (t : Table) (following : ℕ) (body : List ℕ) (u : Update) (next : ℕ) → update_fields form t following body ≡ got u next
    → UpdateRead form t following body u × (next ≤ length body)
update-within form t following body u next e =
    let h = held (Taken (UpdateRead form t following body) body 0) _ (update-holds form t following body) u next e in
    (h.fact, h.end)
