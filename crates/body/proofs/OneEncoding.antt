-- Bytes stand for one update or definition only: where the encodings of two, each with bytes behind it, are equal, so are their fields.
use Prim.Native.Nat.{ℕ, ◌+◌, ◌^◌, ◌<◌, min, ◌≤◌}
use native.Mathlib.Omega.{arith}
use mathlib.Core.Path.{◌≡◌, refl, sym, ap, ◌∙◌}
use mathlib.Core.List.{List, [], ◌∷◌, ◌++◌, append_assoc}
use mathlib.Core.Bool.{Bool, true, false, true≢false}
use lib.ListN.{length, take, drop, get_or, length-take, replicate}
use lib.Seq.{drop-append_seam, take-append_seam}
use lib.IntN.{ℤ, pos}
use lib.Signed.{mag}
use lib.Dec.{eqb}
use borrow.Author.Tests.{eqb-true, eqb-false}
use mir.Val.{SFits}
use mir.Syntax.{w32}
use Rattle.lists.proofs.Cases.{by-test, cond-false}
use Rattle.wire.specs.Integer.{encode_int, read_int}
use Rattle.wire.specs.Number.{encode_number, read_number}
use Rattle.wire.specs.Server.{server_word, server_id_of}
use Rattle.wire.proofs.Advance.{advance}
use Rattle.wire.proofs.RoundTrip.{round_trip}
use Rattle.wire.proofs.Numbers.{number-trip}
use Rattle.wire.proofs.values.Server.{word_small, id-of-word}
use Rattle.store.specs.declared.Table.{Table}
use Rattle.store.specs.declared.Entry.{Entry}
use Rattle.store.specs.Limits.{key_kind, is_string, present, slot_types, rate_types}
use Rattle.store.specs.Shape.{Cells, TableShape}
use Rattle.store.specs.Sound.{entry_key_length_ok}
use Rattle.store.specs.Store.{key_of, name_of}
use Rattle.store.proofs.Rules.{slot-count, rate-count}
use Rattle.body.specs.declared.update.Form.{Form}
use Rattle.body.specs.Encodings.{message_bytes, each_bytes, key_bytes, server_bytes, value_bytes, data_bytes, entry_bytes, number_if, update_bytes, period_bytes, times_bytes, definition_bytes}
use Rattle.body.proofs.Taken.{Along, along-from}
use Rattle.body.proofs.Holds.{same_value}

-- ---- bytes before others

rest-once : (xs p q : List ℕ) → xs ++ p ≡ xs ++ q → p ≡ q
rest-once xs p q e = sym (drop-append_seam xs p) ∙ (ap (λ (l : List ℕ). drop (length xs) l) e ∙ drop-append_seam xs q)

part-once : (k l p q : List ℕ) → length k ≡ length l → k ++ p ≡ l ++ q → (k ≡ l) × (p ≡ q)
part-once k l p q n e =
    let same : k ≡ l = sym (take-append_seam k p) ∙ (ap (λ (x : List ℕ). take (length k) x) e ∙ (ap (λ (i : ℕ). take i (l ++ q)) n ∙ take-append_seam l q)) in
    (same, rest-once k p q (e ∙ ap (λ (x : List ℕ). x ++ q) (sym same)))

-- ---- numbers

integer-once : (v w : ℕ) (p q : List ℕ) → v < 2 ^ 64 → w < 2 ^ 64 → encode_int v ++ p ≡ encode_int w ++ q → (v ≡ w) × (p ≡ q)
integer-once v w p q l k e =
    let r = sym (round_trip [] p v l) ∙ (ap (λ (x : List ℕ). read_int x 0) e ∙ round_trip [] q w k) in
    let same : v ≡ w = same_value v w _ _ r in
    (same, rest-once (encode_int v) p q (e ∙ ap (λ (n : ℕ). encode_int n ++ q) (sym same)))

number-once : (v w : ℕ) (p q : List ℕ) → v < 2 ^ 32 → w < 2 ^ 32 → encode_number v ++ p ≡ encode_number w ++ q → (v ≡ w) × (p ≡ q)
number-once v w p q l k e =
    let r = sym (number-trip [] p v l) ∙ (ap (λ (x : List ℕ). read_number x 0) e ∙ number-trip [] q w k) in
    let pair : ◌≡◌ {A = ℕ × ℕ} (v, length {A = ℕ} [] + 4) (w, length {A = ℕ} [] + 4) = cc in
    let same : v ≡ w = ap (λ (x : ℕ × ℕ). x.0) pair in
    (same, rest-once (encode_number v) p q (e ∙ ap (λ (n : ℕ). encode_number n ++ q) (sym same)))

number-if-once : (there : Bool) (v w : ℕ) (p q : List ℕ) → v < 2 ^ 32 → w < 2 ^ 32 → number_if there v ++ p ≡ number_if there w ++ q
    → (there ≡ true → v ≡ w) × (p ≡ q)
unfolding number_if
number-if-once true v w p q l k e = let r = number-once v w p q l k e in ((λ h. r.0), r.1)
number-if-once false v w p q l k e = ((λ h. absurd (true≢false (sym h))), e)

word-once : (y z : ℤ) → mag y < 2 ^ 31 → mag z < 2 ^ 31 → server_word y ≡ server_word z → y ≡ z
word-once y z l k e =
    let f : SFits w32 y = record { sfits = l } in
    let g : SFits w32 z = record { sfits = k } in
    let r = sym (id-of-word y f) ∙ (ap server_id_of e ∙ id-of-word z g) in
    cc

-- ---- the fields of an entry

-- a key of a string table has its length before it; others have the table's
key-once : (key_type : ℕ) (k l p q : List ℕ) → length k < 2 ^ 64 → length l < 2 ^ 64 → (is_string (key_kind key_type) ≡ false → length k ≡ length l)
    → key_bytes key_type k ++ p ≡ key_bytes key_type l ++ q → (k ≡ l) × (p ≡ q)
unfolding key_bytes
key-once key_type k l p q m n size e =
    by-test (is_string (key_kind key_type))
    (λ h.
    let f : (encode_int (length k) ++ k) ++ p ≡ (encode_int (length l) ++ l) ++ q = rw (h) at e in
    let g : encode_int (length k) ++ (k ++ p) ≡ encode_int (length l) ++ (l ++ q) =
    sym (append_assoc (encode_int (length k)) k p) ∙ (f ∙ append_assoc (encode_int (length l)) l q) in
    let r = integer-once (length k) (length l) (k ++ p) (l ++ q) m n g in
    part-once k l p q r.0 r.1)
    (λ h. let f : k ++ p ≡ l ++ q = rw (h) at e in part-once k l p q (size h) f)

server-once : (types : ℕ) (y z : ℤ) (p q : List ℕ) → mag y < 2 ^ 31 → mag z < 2 ^ 31 → (present types 0 ≡ false → y ≡ pos 0)
    → (present types 0 ≡ false → z ≡ pos 0) → server_bytes types y ++ p ≡ server_bytes types z ++ q → (y ≡ z) × (p ≡ q)
unfolding server_bytes
server-once types y z p q l k a b e =
    by-test (present types 0)
    (λ h.
    let f : encode_int (server_word y) ++ p ≡ encode_int (server_word z) ++ q = rw (h) at e in
    let r = integer-once (server_word y) (server_word z) p q (word_small y (record { sfits = l })) (word_small z (record { sfits = k })) f in
    (word-once y z l k r.0, r.1))
    (λ h. let f : p ≡ q = rw (h) at e in (a h ∙ sym (b h), f))

-- a number of at most 64 bits, 0 where its data type isn't present
record IfPresent (types t v : ℕ) : Type 0 where
  small : v < 2 ^ 64
  none : present types t ≡ false → v ≡ 0

value-once : (types t v w : ℕ) (p q : List ℕ) → IfPresent types t v → IfPresent types t w → value_bytes types t v ++ p ≡ value_bytes types t w ++ q → (v ≡ w) × (p ≡ q)
unfolding value_bytes
value-once types t v w p q a b e =
    by-test (present types t)
    (λ h. let f : encode_int v ++ p ≡ encode_int w ++ q = rw (h) at e in integer-once v w p q a.small b.small f)
    (λ h. let f : p ≡ q = rw (h) at e in (a.none h ∙ sym (b.none h), f))

-- so of a value for each of the types ts, where it is so of each
each-once : (encode : ℕ → ℕ → List ℕ) (Q : ℕ → ℕ → Type 0)
    → ((t v w : ℕ) (p q : List ℕ) → Q t v → Q t w → encode t v ++ p ≡ encode t w ++ q → (v ≡ w) × (p ≡ q))
    → (ts vs ws p q : List ℕ) → Along Q ts vs → Along Q ts ws → each_bytes encode ts vs ++ p ≡ each_bytes encode ts ws ++ q → (vs ≡ ws) × (p ≡ q)
unfolding each_bytes Along
each-once encode Q one [] [] [] p q a b e = (refl, e)
each-once encode Q one [] [] (w ∷ ws) p q a b e = absurd b
each-once encode Q one [] (v ∷ vs) ws p q a b e = absurd a
each-once encode Q one (t ∷ ts) [] ws p q a b e = absurd a
each-once encode Q one (t ∷ ts) (v ∷ vs) [] p q a b e = absurd b
each-once encode Q one (t ∷ ts) (v ∷ vs) (w ∷ ws) p q a b e =
    let xs = each_bytes encode ts vs in
    let ys = each_bytes encode ts ws in
    let f : encode t v ++ (xs ++ p) ≡ encode t w ++ (ys ++ q) = sym (append_assoc (encode t v) xs p) ∙ (e ∙ append_assoc (encode t w) ys q) in
    let r = one t v w (xs ++ p) (ys ++ q) a.0 b.0 f in
    let k = each-once encode Q one ts vs ws p q a.1 b.1 r.1 in
    (ap (λ (n : ℕ). n ∷ vs) r.0 ∙ ap (λ (l : List ℕ). w ∷ l) k.0, k.1)

-- ---- an entry

-- what an entry's bytes need to stand for it alone, in a table of this key type, key length and data types
pub record Fitting (t : Table) (e : Entry) : Type 0 where
  pub key_length : entry_key_length_ok t e ≡ true
  pub key_size : length e.key ≡ 64
  pub server : mag e.server_id < 2 ^ 31
  pub no_server : present t.data_types 0 ≡ false → e.server_id ≡ pos 0
  pub values : Cells 34 64 e.values
  pub absent : (i : ℕ) → i < 34 → present t.data_types (get_or slot_types i 0) ≡ false → get_or e.values i 0 ≡ 0

pub record SameFields (e f : Entry) : Type 0 where
  pub key : key_of e ≡ key_of f
  pub server : e.server_id ≡ f.server_id
  pub values : e.values ≡ f.values

module _ (t : Table) where
  abbrev types : ℕ
  types = t.data_types

  key-length : (e : Entry) → Fitting t e → length (key_of e) ≡ min e.key_len 64
  unfolding key_of
  key-length e h = length-take e.key_len e.key ∙ ap (λ (n : ℕ). min e.key_len n) h.key_size

  key-fixed : (e : Entry) → Fitting t e → is_string (key_kind t.key_type) ≡ false → e.key_len ≡ t.key_len
  unfolding entry_key_length_ok
  key-fixed e h q = eqb-true e.key_len t.key_len (sym (cond-false _ _ _ q) ∙ h.key_length)

  numbers : (e : Entry) → Fitting t e → Along (IfPresent types) slot_types e.values
  numbers e h =
      along-from (IfPresent types) slot_types e.values (h.values.size ∙ sym slot-count)
      (λ i l. record { small = h.values.small i; none = h.absent i (omega (arith, slot-count)) })

  module _ (e f : Entry) (h : Fitting t e) (k : Fitting t f) where
    key-small : (g : Entry) → Fitting t g → length (key_of g) < 2 ^ 64
    key-small g w = omega (arith, key-length g w)

    lengths-same : is_string (key_kind t.key_type) ≡ false → length (key_of e) ≡ length (key_of f)
    lengths-same q =
        key-length e h ∙ (ap (λ (n : ℕ). min n 64) (key-fixed e h q ∙ sym (key-fixed f k q)) ∙ sym (key-length f k))

    pub entry-once : (p q : List ℕ) → entry_bytes t e ++ p ≡ entry_bytes t f ++ q → SameFields e f
    unfolding entry_bytes data_bytes
    entry-once p q z =
        let xk = key_bytes t.key_type (key_of e) in
        let yk = key_bytes t.key_type (key_of f) in
        let xs = server_bytes types e.server_id in
        let ys = server_bytes types f.server_id in
        let xv = each_bytes (value_bytes types) slot_types e.values in
        let yv = each_bytes (value_bytes types) slot_types f.values in
        let a : (xk ++ (xs ++ xv)) ++ p ≡ xk ++ (xs ++ (xv ++ p)) = simp append_assoc in
        let b : (yk ++ (ys ++ yv)) ++ q ≡ yk ++ (ys ++ (yv ++ q)) = simp append_assoc in
        let r₁ = key-once t.key_type (key_of e) (key_of f) (xs ++ (xv ++ p)) (ys ++ (yv ++ q)) (key-small e h) (key-small f k) lengths-same (sym a ∙ (z ∙ b)) in
        let r₂ = server-once types e.server_id f.server_id (xv ++ p) (yv ++ q) h.server k.server h.no_server k.no_server r₁.1 in
        let r₃ = each-once (value_bytes types) (IfPresent types) (value-once types) slot_types e.values f.values p q (numbers e h) (numbers f k) r₂.1 in
        record { key = r₁.0; server = r₂.0; values = r₃.0 }

    joined : (x y z w : List ℕ) → x ++ (y ++ (z ++ w)) ≡ (x ++ (y ++ z)) ++ w
    joined x y z w = simp append_assoc

    -- two updates of one form: the ID and the remaining time, where it has them, and the rest
    pub update-once : (form : Form) (i j : ℕ) (p q : List ℕ) → i < 2 ^ 32 → j < 2 ^ 32 → e.remaining < 2 ^ 32 → f.remaining < 2 ^ 32
        → update_bytes form t i e ++ p ≡ update_bytes form t j f ++ q
        → (form.explicit ≡ true → i ≡ j) × (form.timed ≡ true → e.remaining ≡ f.remaining) × SameFields e f
    unfolding update_bytes
    update-once form i j p q l m d g z =
        let xt = number_if form.timed e.remaining in
        let yt = number_if form.timed f.remaining in
        let a : number_if form.explicit i ++ (xt ++ (entry_bytes t e ++ p)) ≡ number_if form.explicit j ++ (yt ++ (entry_bytes t f ++ q)) =
        joined (number_if form.explicit i) xt (entry_bytes t e) p ∙ (z ∙ sym (joined (number_if form.explicit j) yt (entry_bytes t f) q)) in
        let r₁ = number-if-once form.explicit i j (xt ++ (entry_bytes t e ++ p)) (yt ++ (entry_bytes t f ++ q)) l m a in
        let r₂ = number-if-once form.timed e.remaining f.remaining (entry_bytes t e ++ p) (entry_bytes t f ++ q) d g r₁.1 in
        (r₁.0, r₂.0, entry-once p q r₂.1)

-- ---- a table

period-once : (types t v w : ℕ) (p q : List ℕ) → IfPresent types t v → IfPresent types t w → period_bytes types t v ++ p ≡ period_bytes types t w ++ q → (v ≡ w) × (p ≡ q)
unfolding period_bytes
period-once types t v w p q a b e =
    by-test (present types t)
    (λ h.
    let f : (encode_int t ++ encode_int v) ++ p ≡ (encode_int t ++ encode_int w) ++ q = rw (h) at e in
    let g : encode_int t ++ (encode_int v ++ p) ≡ encode_int t ++ (encode_int w ++ q) =
    sym (append_assoc (encode_int t) (encode_int v) p) ∙ (f ∙ append_assoc (encode_int t) (encode_int w) q) in
    integer-once v w p q a.small b.small (rest-once (encode_int t) (encode_int v ++ p) (encode_int w ++ q) g))
    (λ h. let f : p ≡ q = rw (h) at e in (a.none h ∙ sym (b.none h), f))

-- an integer has a byte
some_byte : (v : ℕ) (p : List ℕ) → v < 2 ^ 64 → encode_int v ++ p ≡ [] → ⊥
some_byte v p l e =
    let a = advance [] 0 v _ (sym (ap (λ (x : List ℕ). read_int x 0) e) ∙ round_trip [] p v l) in
    omega (arith, a.0, a.1)

-- what a definition's bytes need to stand for it alone, where `ignored` are the bytes behind it
pub record FittingTable (id : ℕ) (t : Table) (ignored : List ℕ) : Type 0 where
  pub small : id < 2 ^ 32
  pub shape : TableShape t
  pub timed : t.timed ≤ 1
  pub untimed : t.timed ≡ 0 → ignored ≡ []
  pub none : t.timed ≡ 0 → (t.expiry ≡ 0) × (t.periods ≡ replicate 8 0)
  pub absent : (i : ℕ) → i < 8 → present t.data_types (get_or rate_types i 0) ≡ false → get_or t.periods i 0 ≡ 0

pub record SameTimes (t u : Table) : Type 0 where
  pub timed : t.timed ≡ u.timed
  pub expiry : t.expiry ≡ u.expiry
  pub periods : t.periods ≡ u.periods

pub record SameTable (t u : Table) : Type 0 where
  pub name : name_of t ≡ name_of u
  pub key_type : t.key_type ≡ u.key_type
  pub key_length : t.key_len ≡ u.key_len
  pub data_types : t.data_types ≡ u.data_types
  pub times : SameTimes t u

module _ (id : ℕ) (t : Table) (p : List ℕ) (h : FittingTable id t p) where
  name-small : length (name_of t) < 2 ^ 64
  unfolding name_of
  name-small = omega (arith, length-take t.name_len t.name, h.shape.name.size)

  untimed-is : eqb t.timed 1 ≡ false → t.timed ≡ 0
  untimed-is z = let n = eqb-false t.timed 1 z in omega (arith, h.timed, n)

  periods-are : (types : ℕ) → t.data_types ≡ types → Along (IfPresent types) rate_types t.periods
  periods-are types e =
      along-from (IfPresent types) rate_types t.periods (h.shape.periods.size ∙ sym rate-count)
      (λ i l.
      record {
        small = let k = h.shape.periods.small i in omega arith;
        none = λ z. h.absent i (omega (arith, rate-count)) (ap (λ (n : ℕ). present n (get_or rate_types i 0)) e ∙ z);
      })

  times-there : eqb t.timed 1 ≡ true
      → times_bytes t ++ p ≡ encode_int t.expiry ++ (each_bytes (period_bytes t.data_types) rate_types t.periods ++ p)
  unfolding times_bytes
  times-there z = rw z (append_assoc (encode_int t.expiry) _ p)

  times_none : eqb t.timed 1 ≡ false → times_bytes t ++ p ≡ []
  unfolding times_bytes
  times_none z = rw z (h.untimed (untimed-is z))

  expiry-small : t.expiry < 2 ^ 64
  expiry-small = let k = h.shape.expiry in omega arith

  some-times : eqb t.timed 1 ≡ true → times_bytes t ++ p ≡ [] → ⊥
  some-times z e = some_byte t.expiry _ expiry-small (sym (times-there z) ∙ e)

module _ (i : ℕ) (t : Table) (p : List ℕ) (h : FittingTable i t p) (j : ℕ) (u : Table) (q : List ℕ) (k : FittingTable j u q) where
  times-once : t.data_types ≡ u.data_types → times_bytes t ++ p ≡ times_bytes u ++ q → SameTimes t u
  times-once d e =
      by-test (eqb t.timed 1)
      (λ a.
      by-test (eqb u.timed 1)
      (λ b.
      let types = u.data_types in
      let x = each_bytes (period_bytes t.data_types) rate_types t.periods in
      let y = each_bytes (period_bytes types) rate_types u.periods in
      let r = integer-once t.expiry u.expiry (x ++ p) (y ++ q) (expiry-small i t p h) (expiry-small j u q k)
      (sym (times-there i t p h a) ∙ (e ∙ times-there j u q k b)) in
      let f : each_bytes (period_bytes types) rate_types t.periods ++ p ≡ y ++ q =
      ap (λ (n : ℕ). each_bytes (period_bytes n) rate_types t.periods ++ p) (sym d) ∙ r.1 in
      let w = each-once (period_bytes types) (IfPresent types) (period-once types) rate_types t.periods u.periods p q
      (periods-are i t p h types d) (periods-are j u q k types refl) f in
      record { timed = eqb-true t.timed 1 a ∙ sym (eqb-true u.timed 1 b); expiry = r.0; periods = w.0 })
      (λ b. absurd (some-times i t p h a (e ∙ times_none j u q k b))))
      (λ a.
      by-test (eqb u.timed 1)
      (λ b. absurd (some-times j u q k b (sym e ∙ times_none i t p h a)))
      (λ b.
      let y = untimed-is i t p h a in
      let z = untimed-is j u q k b in
      record { timed = y ∙ sym z; expiry = (h.none y).0 ∙ sym (k.none z).0; periods = (h.none y).1 ∙ sym (k.none z).1 }))

  pub definition-once : definition_bytes i t ++ p ≡ definition_bytes j u ++ q → (i ≡ j) × SameTable t u
  unfolding definition_bytes
  definition-once e =
      let a : definition_bytes i t ++ p
      ≡ encode_int i ++ (encode_int (length (name_of t)) ++ (name_of t ++ (encode_int t.key_type ++ (encode_int t.key_len ++ (encode_int t.data_types ++ (times_bytes t ++ p)))))) =
      simp append_assoc in
      let b : definition_bytes j u ++ q
      ≡ encode_int j ++ (encode_int (length (name_of u)) ++ (name_of u ++ (encode_int u.key_type ++ (encode_int u.key_len ++ (encode_int u.data_types ++ (times_bytes u ++ q)))))) =
      simp append_assoc in
      let x = h.shape in
      let y = k.shape in
      let r₁ = integer-once i j _ _ (omega (arith, h.small)) (omega (arith, k.small)) (sym a ∙ (e ∙ b)) in
      let r₂ = integer-once (length (name_of t)) (length (name_of u)) _ _ (name-small i t p h) (name-small j u q k) r₁.1 in
      let r₃ = part-once (name_of t) (name_of u) _ _ r₂.0 r₂.1 in
      let r₄ = integer-once t.key_type u.key_type _ _ (omega (arith, x.key_type)) (omega (arith, y.key_type)) r₃.1 in
      let r₅ = integer-once t.key_len u.key_len _ _ (omega (arith, x.key_length)) (omega (arith, y.key_length)) r₄.1 in
      let r₆ = integer-once t.data_types u.data_types _ _ (omega (arith, x.data_types)) (omega (arith, y.data_types)) r₅.1 in
      (r₁.0, record { name = r₃.0; key_type = r₄.0; key_length = r₅.0; data_types = r₆.0; times = times-once r₆.0 r₆.1 })

-- ---- a message

module _ (k l : ℕ) (x y : List ℕ) (m : length x < 2 ^ 64) (n : length y < 2 ^ 64) (e : message_bytes k x ≡ message_bytes l y) where
  pub type-once : k ≡ l
  unfolding message_bytes
  type-once = ap (λ (u : List ℕ). get_or u 1 0) e

  pub body-once : x ≡ y
  unfolding message_bytes
  body-once = (integer-once (length x) (length y) x y m n (ap (λ (u : List ℕ). drop 2 u) e)).1
