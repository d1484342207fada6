-- Where a body broke, of every message that has fields.
use Rattle.std.specs.Prelude.{Ok}
use Prim.Native.Nat.{ℕ, ◌+◌, ◌≤◌, ◌<◌}
use native.Mathlib.Omega.{arith}
use mathlib.Core.Path.{◌≡◌, refl, sym, ap, subst, ◌∙◌}
use mathlib.Core.Logic.{◌⊎◌, inl, inr}
use mathlib.Core.List.{List, ◌++◌}
use mathlib.Core.Bool.{Bool, true, false, cond}
use lib.ListN.{length, take, length-append, length-take}
use borrow.Author.Tests.{le-leb, lt-leb, eq-eqb, ne_eqb}
use Rattle.lists.proofs.Cases.{lt-or-le, eq-or-ne, split, by-test}
use Rattle.wire.specs.Integer.{read_int}
use Rattle.wire.proofs.Advance.{advance}
use Rattle.wire.proofs.Numbers.{number_short, number-value}
use Rattle.store.specs.declared.Table.{Table}
use Rattle.store.specs.Limits.{name_max, plain_name, key_kind, is_string}
use Rattle.body.specs.declared.Fault.{Fault}
use Rattle.body.specs.Fields.{Read, got, failed, short, unplain, Reader, and_then, integer, between, integer_of, Span, span_in, bytes, number_read, number4}
use Rattle.body.specs.Bodies.{Named, name_field, named_fields, Shape, shape_fields, no_times, times_there, times_fields, Definition, defined, rest_fields, definition_fields, switch_fields, Acknowledged, acknowledgement_fields, string_field, key_field, data_fields, Time, keyed, entry_fields, number_or, time_mark, timed_fields, update_fields}
use Rattle.body.specs.declared.update.Form.{Form}
use Rattle.body.specs.Encodings.{entry_start}
use Rattle.body.specs.Breaks.{Reached, NotBefore, Sized, none_sized, definition_sized, acknowledgement_sized, key_sized, update_sized, cut_sized, Breaks, BodiesBreak}
use Rattle.body.proofs.Taken.{integer-value}
use Rattle.body.proofs.Breaking.{BrokeAt, BreaksAt, Regular, Ordinary, why-too, then-breaks, next-regular, next-breaks, got-regular, cond-regular}
use Rattle.body.proofs.BreakingFields.{like-value, as_long, width-regular, bytes-regular, number-regular, named-regular, shape-regular, times-regular, data-regular, string-regular, integer-starts, width-starts, bytes-starts, number-starts, name-starts}
use Rattle.body.proofs.Holds.{same_value, same_next, then-got}

-- ---- a definition: where its body ends behind the data types, nothing is missing
module _ (sized : Sized) (named : Named) (shape : Shape) where
  abbrev timed : Reader Definition
  timed s at = and_then (times_fields shape.data_types s at) λ times n. got (defined named shape times) n

  abbrev there : Reader Definition
  there s at = and_then (times_there shape.data_types s at) λ times n. got (defined named shape times) n

  there-regular : Ordinary sized there
  there-regular s at l =
      next-regular sized (times_there shape.data_types) _ at s l (times-regular sized shape.data_types) λ t times n k e. got-regular sized _ t n k

  ended : (s : List ℕ) (at : ℕ) → at ≡ length s → timed s at ≡ got (defined named shape no_times) at
  unfolding times_fields
  ended s at e = rw (eq-eqb at (length s) e)

  going_on : (s : List ℕ) (at : ℕ) → (at ≡ length s → ⊥) → timed s at ≡ there s at
  unfolding times_fields
  going_on s at n = rw (ne_eqb at (length s) n)

  reached-end : (start at : ℕ) → at ≡ start → (x : Read Definition) → x ≡ got (defined named shape no_times) at → Reached start x
  unfolding Reached
  reached-end start at e x q = rw q e

  module _ (s : List ℕ) (at : ℕ) (l : at ≤ length s) (more-there : at ≡ length s → ⊥) (x : Fault) (h : BrokeAt there s at sized x) where
    before-times : Reached x.start (timed (take x.start s) at)
    before-times =
        let size : length (take x.start s) ≡ x.start = rw length-take (omega (arith, h.inside)) in
        split (eq-or-ne at (length (take x.start s)))
        (λ e. reached-end x.start at (e ∙ size) _ (ended (take x.start s) at e))
        (λ n. subst (Reached x.start) (sym (going_on (take x.start s) at n)) h.before)

    timed-broke : BrokeAt timed s at sized x
    timed-broke = record {
      from = h.from;
      inside = h.inside;
      before = before-times;
      why =
          why-too (λ b. there b at) (λ b. timed b at) sized s x
          (λ c. record {
            ends = c.ends;
            longer = λ more.
                let n : at ≡ length (s ++ more) → ⊥ = λ e. more-there (omega (arith, l, e, length-append s more)) in
                subst (NotBefore x.start) (sym (going_on (s ++ more) at n)) (c.longer more);
          })
          (λ d. record {
            end = d.end;
            some = d.some;
            inside = d.inside;
            field = d.field;
            alike = λ other q.
                let n : at ≡ length other → ⊥ = λ e. omega (arith, e, h.from, d.some, as_long s other d.end d.inside q) in
                going_on other at n ∙ d.alike other q;
          })
          x.failure h.why;
    }

  timed-breaks : (s : List ℕ) (at : ℕ) → at ≤ length s → BreaksAt timed s at sized
  timed-breaks s at l x e =
      split (eq-or-ne at (length s))
      (λ q. absurd (let p : got (defined named shape no_times) at ≡ failed x = sym (ended s at q) ∙ e in let w : ◌≡◌ {A = ℕ} 0 1 = cc in omega (arith, w)))
      (λ n. timed-broke s at l n x ((there-regular s at l).breaks x (sym (going_on s at n) ∙ e)))

rest-breaks : (sized : Sized) (named : Named) (s : List ℕ) (at : ℕ) → at ≤ length s → BreaksAt (rest_fields named) s at sized
unfolding rest_fields
rest-breaks sized named s at l =
    next-breaks sized shape_fields _ at s l (shape-regular sized) λ t shape n k e. timed-breaks sized named shape t n k

-- ---- what was read before a field that fails
module _ {A B : Type 0} where
  -- the first of two fields fails, or the second
  then-failed : (x : Read A) (f : A → ℕ → Read B) (y : Fault) → and_then x f ≡ failed y
      → (x ≡ failed y) ⊎ ((a : A) × ((n : ℕ) × ((x ≡ got a n) × (f a n ≡ failed y))))
  then-failed (got a n) f y e = inr (a, (n, (refl, e)))
  then-failed (failed z) f y e = inl (let q : z ≡ y = cc in ap failed q)

not-failed : {A : Type 0} (a : A) (n : ℕ) (x : Fault) → ◌≡◌ {A = Read A} (got a n) (failed x) → ⊥
not-failed a n x e = let w : ◌≡◌ {A = ℕ} 0 1 = cc in omega (arith, w)

-- an integer is read once
value-once : (s : List ℕ) (at v w n m : ℕ) → read_int s at ≡ Ok (v, n) → read_int s at ≡ Ok (w, m) → (v ≡ w) × (n ≡ m)
value-once s at v w n m e q = let p = sym e ∙ q in (same_value v w n m p, same_next v w n m p)

width-value : (k : ℕ) (s : List ℕ) (at v next : ℕ) → integer_of k s at ≡ got v next → read_int s at ≡ Ok (v, next)
unfolding integer_of
width-value k s at v next e = integer-value _ s at v next e

-- n bytes and a name end n bytes on
bytes_next : (n : ℕ) (s : List ℕ) (at : ℕ) (span : Span) (next : ℕ) → bytes n s at ≡ got span next → next ≡ at + n
unfolding bytes
bytes_next n s at span next e =
    split (lt-or-le (length s) (at + n))
    (λ l. absurd (let q : short at ≡ got span next = rw (lt-leb (at + n) (length s) l) at e in let w : ◌≡◌ {A = ℕ} 0 1 = cc in omega (arith, w)))
    (λ l. let q : got (record { start = at; len = n }) (at + n) ≡ got span next = rw (le-leb (at + n) (length s) l) at e in sym (same_next _ span (at + n) next q))

name-next : (n : ℕ) (s : List ℕ) (at : ℕ) (span : Span) (next : ℕ) → name_field n s at ≡ got span next → next ≡ at + n
unfolding name_field
name-next n s at span next e =
    let a = then-got (bytes n s at) _ span next e in
    by-test (plain_name (span_in s a.0))
    (λ t. let q : got a.0 a.1 ≡ got span next = rw t at a.3 in sym (same_next a.0 span a.1 next q) ∙ bytes_next n s at a.0 a.1 a.2)
    (λ t. absurd (let q : unplain at ≡ got span next = rw t at a.3 in let w : ◌≡◌ {A = ℕ} 0 1 = cc in omega (arith, w)))

-- ---- a definition's name is read before any field behind it
module _ (body : List ℕ) (id k n at : ℕ) (first : read_int body 0 ≡ Ok (id, k)) (second : read_int body k ≡ Ok (n, at)) where
  named_end : (m : Named) (next : ℕ) → named_fields body 0 ≡ got m next → next ≡ at + n
  unfolding named_fields
  named_end m next e =
      let a = then-got (integer_of 32 body 0) _ m next e in
      let p = (value-once body 0 a.0 id a.1 k (width-value 32 body 0 a.0 a.1 a.2) first).1 in
      let b = then-got (integer (between 1 name_max) body a.1) _ m next a.3 in
      let v = integer-value (between 1 name_max) body a.1 b.0 b.1 b.2 in
      let q = value-once body k b.0 n b.1 at (subst (λ (j : ℕ). read_int body j ≡ Ok (b.0, b.1)) p v) second in
      let c = then-got (name_field b.0 body b.1) _ m next b.3 in
      let o = name-next b.0 body b.1 c.0 c.1 c.2 in
      let z : c.1 ≡ next = same_next _ m c.1 next c.3 in
      omega (arith, o, z, q.0, q.1)

  named-apart : (x : Fault) → named_fields body 0 ≡ failed x → at < x.start → ⊥
  unfolding named_fields
  named-apart x e l =
      split (then-failed (integer_of 32 body 0) _ x e)
      (λ f. omega (arith, width-starts 32 body 0 x f))
      (λ a.
      let p = (value-once body 0 a.0 id a.1.0 k (width-value 32 body 0 a.0 a.1.0 a.1.1.0) first).1 in
      split (then-failed (integer (between 1 name_max) body a.1.0) _ x a.1.1.1)
      (λ f. omega (arith, integer-starts (between 1 name_max) body a.1.0 x f, p, (advance body k n at second).0))
      (λ b.
      let v = integer-value (between 1 name_max) body a.1.0 b.0 b.1.0 b.1.1.0 in
      let q = value-once body k b.0 n b.1.0 at (subst (λ (j : ℕ). read_int body j ≡ Ok (b.0, b.1.0)) p v) second in
      split (then-failed (name_field b.0 body b.1.0) _ x b.1.1.1)
      (λ f. omega (arith, name-starts b.0 body b.1.0 x f, q.1))
      (λ c. not-failed _ _ x c.1.1.1)))

definition-at : (body : List ℕ) → BreaksAt (λ s at. and_then (named_fields s at) λ named n. rest_fields named s n) body 0 definition_sized
definition-at body =
    then-breaks definition_sized named_fields (λ named t n. rest_fields named t n) 0 body (λ t k b. named-regular t)
    (λ t named n k b q. rest-breaks definition_sized named t n k) body (omega arith) refl

definition-apart : (body : List ℕ) (x : Fault) → definition_fields body ≡ failed x → (at n : ℕ) → definition_sized body at n → at < x.start → at + n ≤ x.start
unfolding definition_fields
definition-apart body x e at n d l =
    split (then-failed (named_fields body 0) _ x e)
    (λ f. absurd (named-apart body d.0 d.1.0 n at d.1.1.0 d.1.1.1 x f l))
    (λ a.
    let w = (named-regular body).values a.0 a.1.0 a.1.1.0 in
    let o = (rest-breaks definition_sized a.0 body a.1.0 w.end x a.1.1.1).from in
    omega (arith, o, named_end body d.0 d.1.0 n at d.1.1.0 d.1.1.1 a.0 a.1.0 a.1.1.0))

definition-breaks : Breaks definition_fields definition_sized
unfolding definition_fields
definition-breaks body x e =
    let b = definition-at body x e in
    record { inside = b.inside; before = b.before; why = b.why; apart = unfold definition_fields in definition-apart body x e }

-- ---- a switch and an acknowledgement
switch-breaks : Breaks switch_fields none_sized
unfolding switch_fields
switch-breaks body x e =
    let b = (width-regular none_sized 32 body 0 (omega arith)).breaks x e in
    record { inside = b.inside; before = b.before; why = b.why; apart = λ at n h. absurd h }

acknowledgement-apart : (body : List ℕ) (x : Fault) → acknowledgement_fields body ≡ failed x → (at n : ℕ) → acknowledgement_sized body at n → at < x.start
    → at + n ≤ x.start
unfolding acknowledgement_fields
acknowledgement-apart body x e at n d l =
    split (then-failed (integer_of 32 body 0) _ x e)
    (λ f. absurd (omega (arith, width-starts 32 body 0 x f)))
    (λ a.
    let p = (value-once body 0 a.0 d.0.0 a.1.0 at (width-value 32 body 0 a.0 a.1.0 a.1.1.0) d.0.1).1 in
    split (then-failed (number4 body a.1.0) _ x a.1.1.1)
    (λ f. absurd (omega (arith, number-starts body a.1.0 x f, p)))
    (λ b. absurd (not-failed _ _ x b.1.1.1)))

acknowledgement-at : (body : List ℕ)
    → BreaksAt {A = Acknowledged}
    (λ s at. and_then (integer_of 32 s at) λ id n. and_then (number4 s n) λ update m. got (record { id = id; update = update }) m) body 0 acknowledgement_sized
acknowledgement-at body =
    next-breaks acknowledgement_sized (integer_of 32) _ 0 body (omega arith) (width-regular acknowledgement_sized 32)
    (λ t id n k q.
    then-breaks acknowledgement_sized number4 _ n t
    (λ u i b. number-regular acknowledgement_sized u n i ((id, like-value t u 0 id n (width-value 32 t 0 id n q) b), refl))
    (λ u update m i b w. (got-regular acknowledgement_sized _ u m i).breaks) t k refl)

acknowledgement-breaks : Breaks acknowledgement_fields acknowledgement_sized
unfolding acknowledgement_fields
acknowledgement-breaks body x e =
    let b = acknowledgement-at body x e in
    record { inside = b.inside; before = b.before; why = b.why; apart = unfold acknowledgement_fields in acknowledgement-apart body x e }

-- ---- a key that fails, and a key that was read, by where its bytes start and how many they are
module _ (t : Table) (s : List ℕ) (at start n : ℕ) where
  key-fails : (x : Fault) → key_field t.key_type t.key_len s at ≡ failed x → key_sized t at s start n → start < x.start → ⊥
  unfolding key_field string_field
  key-fails x f d l =
      split d
      (λ h.
      let g : string_field t.key_len s at ≡ failed x = rw h.0 at f in
      split (then-failed (integer (between 0 t.key_len) s at) _ x g)
      (λ e. omega (arith, integer-starts (between 0 t.key_len) s at x e, (advance s at n start h.1).0))
      (λ a.
      let v = integer-value (between 0 t.key_len) s at a.0 a.1.0 a.1.1.0 in
      let q = value-once s at a.0 n a.1.0 start v h.1 in
      omega (arith, bytes-starts a.0 s a.1.0 x a.1.1.1, q.1)))
      (λ h.
      let g : bytes t.key_len s at ≡ failed x = rw h.0 at f in
      omega (arith, bytes-starts t.key_len s at x g, h.1.0))

  key-end : (key : Span) (next : ℕ) → key_field t.key_type t.key_len s at ≡ got key next → key_sized t at s start n → next ≡ start + n
  unfolding key_field string_field
  key-end key next f d =
      split d
      (λ h.
      let g : string_field t.key_len s at ≡ got key next = rw h.0 at f in
      let a = then-got (integer (between 0 t.key_len) s at) _ key next g in
      let v = integer-value (between 0 t.key_len) s at a.0 a.1 a.2 in
      let q = value-once s at a.0 n a.1 start v h.1 in
      omega (arith, bytes_next a.0 s a.1 key next a.3, q.0, q.1))
      (λ h.
      let g : bytes t.key_len s at ≡ got key next = rw h.0 at f in
      omega (arith, bytes_next t.key_len s at key next g, h.1.0, h.1.1))

-- ---- key and data from `at` on
module _ (sized : Sized) (t : Table) (at : ℕ)
    (string : is_string (key_kind t.key_type) ≡ true → (u : List ℕ) (start n : ℕ) → read_int u at ≡ Ok (n, start) → sized u start n)
    (other : is_string (key_kind t.key_type) ≡ false → (u : List ℕ) → sized u at t.key_len) where
  key-regular : (u : List ℕ) → at ≤ length u → Regular (key_field t.key_type t.key_len) u at sized
  unfolding key_field
  key-regular u k =
      cond-regular sized (is_string (key_kind t.key_type)) (string_field t.key_len) (bytes t.key_len) u at
      (λ p. string-regular sized t.key_len at (string p) u k)
      (λ p. bytes-regular sized t.key_len u at k (λ z. cut_sized t.key_len (other p u) z))

  data-then : (id : ℕ) (time : Time) (key : Span) (u : List ℕ) (n : ℕ) → n ≤ length u
      → BreaksAt (λ v k. and_then (data_fields t.data_types v k) λ d m. got (keyed id time key d) m) u n sized
  data-then id time key u n k =
      (next-regular sized (data_fields t.data_types) _ n u k (data-regular sized t.data_types) (λ v d m i q. got-regular sized _ v m i)).breaks

  entry-breaks : (id : ℕ) (time : Time) (s : List ℕ) → at ≤ length s → BreaksAt (entry_fields t id time) s at sized
  unfolding entry_fields
  entry-breaks id time s l =
      then-breaks sized (key_field t.key_type t.key_len) _ at s (λ u k b. key-regular u k) (λ u key n k b e. data-then id time key u n k) s l refl

  -- the key is read before any field behind it
  entry-apart : (id : ℕ) (time : Time) (s : List ℕ) → at ≤ length s → (x : Fault) → entry_fields t id time s at ≡ failed x → (start n : ℕ)
      → key_sized t at s start n → start < x.start → start + n ≤ x.start
  unfolding entry_fields
  entry-apart id time s l x e start n d b =
      split (then-failed (key_field t.key_type t.key_len s at) _ x e)
      (λ f. absurd (key-fails t s at start n x f d b))
      (λ a.
      let w = (key-regular s l).values a.0 a.1.0 a.1.1.0 in
      let o = (data-then id time a.0 s a.1.0 w.end x a.1.1.1).from in
      omega (arith, o, key-end t s at start n a.0 a.1.0 a.1.1.0 d))

-- ---- an update: its ID and its remaining time take four bytes each, where it has them
number-end : (s : List ℕ) (at v next : ℕ) → number4 s at ≡ got v next → next ≡ at + 4
unfolding number4 number_read
number-end s at v next e =
    split (lt-or-le (length s) (at + 4))
    (λ l. absurd (let q : short at ≡ got v next = rw (number_short s at l) at e in let w : ◌≡◌ {A = ℕ} 0 1 = cc in omega (arith, w)))
    (λ l. sym (same_next _ v (at + 4) next (rw (number-value s at l) at e)))

number-or-end : (there : Bool) (known : ℕ) (s : List ℕ) (at v next : ℕ) → number_or there known s at ≡ got v next → next ≡ at + cond there 4 0
unfolding number_or
number-or-end true known s at v next e = number-end s at v next e
number-or-end false known s at v next e = omega (arith, same_next known v at next e)

number-or-starts : (there : Bool) (known : ℕ) (s : List ℕ) (at : ℕ) (x : Fault) → number_or there known s at ≡ failed x → x.start ≡ at
unfolding number_or
number-or-starts true known s at x e = number-starts s at x e
number-or-starts false known s at x e = absurd (not-failed _ _ x e)

number-or-regular : (sized : Sized) (there : Bool) (known : ℕ) (s : List ℕ) (at : ℕ) → at ≤ length s → (there ≡ true → sized s at 4)
    → Regular (number_or there known) s at sized
unfolding number_or
number-or-regular sized there known s at l h =
    cond-regular sized there number4 (λ b n. got known n) s at (λ p. number-regular sized s at l (h p)) (λ p. got-regular sized known s at l)

module _ (form : Form) (t : Table) where
  abbrev sized : Sized
  sized = update_sized form t

  -- where the remaining time stands
  abbrev id_end : ℕ
  id_end = cond form.explicit 4 0

  id-end : (following : ℕ) (s : List ℕ) (v next : ℕ) → number_or form.explicit following s 0 ≡ got v next → next ≡ id_end
  id-end following s v next e = omega (arith, number-or-end form.explicit following s 0 v next e)

  -- the ID takes all bytes before the remaining time, which takes those before the key
  id-four : form.explicit ≡ true → id_end ≡ 4
  id-four p = rw p

  time-four : form.timed ≡ true → entry_start form ≡ id_end + 4
  unfolding entry_start
  time-four p = rw p

  id-first : id_end ≤ entry_start form
  unfolding entry_start
  id-first = omega arith

  key-last : (s : List ℕ) (start n : ℕ) → key_sized t (entry_start form) s start n → entry_start form ≤ start
  key-last s start n d = split d (λ h. omega (arith, (advance s (entry_start form) n start h.1).0)) (λ h. omega (arith, h.1.0))

  time-sized : (s : List ℕ) → form.timed ≡ true → sized s id_end 4
  unfolding entry_start
  time-sized s p = inr (inl (p, (rw p, refl)))

  -- and key and data behind it
  time-end : (s : List ℕ) (v next : ℕ) → number_or form.timed t.expiry s id_end ≡ got v next → next ≡ entry_start form
  unfolding entry_start
  time-end s v next e = number-or-end form.timed t.expiry s id_end v next e

  behind-time : (id : ℕ) (time : Time) (s : List ℕ) → entry_start form ≤ length s → BreaksAt (entry_fields t id time) s (entry_start form) sized
  behind-time =
      entry-breaks sized t (entry_start form) (λ p u start n e. inr (inr (inl (p, e)))) (λ p u. inr (inr (inr (p, (refl, refl)))))

  behind-id : (id : ℕ) (s : List ℕ) → id_end ≤ length s → BreaksAt (timed_fields form t id) s id_end sized
  unfolding timed_fields
  behind-id id s l =
      then-breaks sized (number_or form.timed t.expiry) _ id_end s
      (λ u k b. number-or-regular sized form.timed t.expiry u id_end k (time-sized u))
      (λ u remaining n k b q.
      let z = time-end u remaining n q in
      let time : Time = record { timed = time_mark form t; remaining = remaining } in
      subst (λ (j : ℕ). BreaksAt (entry_fields t id time) u j sized) (sym z) (behind-time id time u (omega (arith, k, z))))
      s l refl

  update-at : (following : ℕ) (body : List ℕ)
      → BreaksAt (λ s at. and_then (number_or form.explicit following s at) λ id n. timed_fields form t id s n) body 0 sized
  update-at following body =
      then-breaks sized (number_or form.explicit following) (λ id u n. timed_fields form t id u n) 0 body
      (λ u k b. number-or-regular sized form.explicit following u 0 k (λ p. inl (p, (refl, refl))))
      (λ u id n k b q.
      let z : n ≡ id_end = id-end following u id n q in
      subst (λ (j : ℕ). BreaksAt (timed_fields form t id) u j sized) (sym z) (behind-id id u (omega (arith, k, z))))
      body (omega arith) refl

  timed-apart : (id : ℕ) (s : List ℕ) → id_end ≤ length s → (x : Fault) → timed_fields form t id s id_end ≡ failed x
      → (at n : ℕ) → sized s at n → at < x.start → at + n ≤ x.start
  unfolding timed_fields
  timed-apart id s l x e at n d b =
      split (then-failed (number_or form.timed t.expiry s id_end) _ x e)
      (λ f.
      let w = number-or-starts form.timed t.expiry s id_end x f in
      split d
      (λ h. omega (arith, id-four h.0, h.1.0, h.1.1, w))
      (λ r.
      split r
      (λ h. absurd (omega (arith, time-four h.0, h.1.0, w)))
      (λ h. absurd (omega (arith, key-last s at n h, id-first, w)))))
      (λ a.
      let z = time-end s a.0 a.1.0 a.1.1.0 in
      let w = (number-or-regular sized form.timed t.expiry s id_end l (time-sized s)).values a.0 a.1.0 a.1.1.0 in
      let k : entry_start form ≤ length s = omega (arith, w.end, z) in
      let time : Time = record { timed = time_mark form t; remaining = a.0 } in
      let g = subst (λ (j : ℕ). entry_fields t id time s j ≡ failed x) z a.1.1.1 in
      let o = (behind-time id time s k x g).from in
      split d
      (λ h. omega (arith, id-four h.0, h.1.0, h.1.1, id-first, o))
      (λ r.
      split r
      (λ h. omega (arith, h.1.0, h.1.1, o))
      (λ h.
      entry-apart sized t (entry_start form) (λ p u start m q. inr (inr (inl (p, q)))) (λ p u. inr (inr (inr (p, (refl, refl)))))
      id time s k x g at n h b)))

  update_apart : (following : ℕ) (body : List ℕ) (x : Fault) → update_fields form t following body ≡ failed x → (at n : ℕ) → sized body at n
      → at < x.start → at + n ≤ x.start
  unfolding update_fields
  update_apart following body x e at n d l =
      split (then-failed (number_or form.explicit following body 0) _ x e)
      (λ f. absurd (omega (arith, number-or-starts form.explicit following body 0 x f)))
      (λ a.
      let z : a.1.0 ≡ id_end = id-end following body a.0 a.1.0 a.1.1.0 in
      let w = (number-or-regular sized form.explicit following body 0 (omega arith) (λ p. inl (p, (refl, refl)))).values a.0 a.1.0 a.1.1.0 in
      let k : id_end ≤ length body = omega (arith, w.end, z) in
      timed-apart a.0 body k x (subst (λ (j : ℕ). timed_fields form t a.0 body j ≡ failed x) z a.1.1.1) at n d l)

  update-breaks : (following : ℕ) → Breaks (update_fields form t following) sized
  unfolding update_fields
  update-breaks following body x e =
      let b = update-at following body x e in
      record { inside = b.inside; before = b.before; why = b.why; apart = unfold update_fields in update_apart following body x e }

pub bodies-break : BodiesBreak
bodies-break = record {
  definition = definition-breaks;
  switch = switch-breaks;
  acknowledgement = acknowledgement-breaks;
  update = update-breaks;
}
