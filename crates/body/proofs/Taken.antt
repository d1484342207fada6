-- What holds of a value that was read, and that it ends within the body: of fields one after another and of each field.
use Rattle.std.specs.Prelude.{Err, Ok, Result, ℤ}
use Prim.Native.Nat.{ℕ, zero, suc, ◌+◌, ◌^◌, ◌≤◌, ◌<◌}
use native.Mathlib.Omega.{arith}
use mathlib.Core.Path.{◌≡◌, refl, ap, ◌∙◌}
use mathlib.Core.List.{List, [], ◌∷◌}
use mathlib.Core.Bool.{Bool, true, false, cond}
use lib.ListN.{length, get_or, get_or-eq_default}
use lib.Signed.{mag}
use lib.Dec.{ltb, leb}
use borrow.Author.Tests.{le-leb, lt-leb, ltb-true, leb-true}
use Rattle.lists.proofs.Cases.{lt-or-le, and_first, and_second, split}
use Rattle.wire.specs.declared.IntError.{IntError}
use Rattle.wire.specs.declared.values.FieldError.{FieldError}
use Rattle.wire.specs.declared.IntError.TheVariants as int
use Rattle.wire.specs.declared.values.FieldError.TheVariants as server
use Rattle.wire.specs.Integer.{read_int}
use Rattle.wire.specs.Server.{read_server_id}
use Rattle.wire.specs.Value.{Bytes}
use Rattle.wire.proofs.Advance.{advance, value-small}
use Rattle.wire.proofs.Numbers.{number_short, number-value, number-own}
use Rattle.wire.proofs.values.Server.{server-own, server-advance}
use Rattle.store.specs.Shape.{Cells}
use Rattle.store.specs.Limits.{plain_name}
use Rattle.body.specs.declared.Failure.TheVariants as failure
use Rattle.body.proofs.Holds.{Holds, held, holds-got, holds-failed, holds-cond, holds-each, holds_then}
use Rattle.body.specs.Fields.{Read, got, fault, outside, Reader, and_then, for_each, tested, integer, between, integer_of, Span, span_in, bytes, field_read, number_read, number4, server_id}
use Rattle.body.specs.Bodies.{name_field}

-- ---- a value with P, read from `at` up to `next` within the body s
module _ {A : Type 0} where
  pub record Taken (P : A → Type 0) (s : List ℕ) (at : ℕ) (a : A) (next : ℕ) : Type 0 where
    pub fact : P a
    pub on : at ≤ next
    pub end : next ≤ length s

  pub taken-got : (P : A → Type 0) (s : List ℕ) (at : ℕ) (a : A) → P a → at ≤ length s → Holds (Taken P s at) (got a at)
  taken-got P s at a h l = holds-got (Taken P s at) a at (record { fact = h; on = omega arith; end = l })

  further : (P : A → Type 0) (s : List ℕ) (at n : ℕ) (x : Read A) → at ≤ n → Holds (Taken P s n) x → Holds (Taken P s at) x
  further P s at n x l h = holds-each (Taken P s n) (Taken P s at) x h (λ a next r. record { fact = r.fact; on = omega (arith, r.on); end = r.end })

  pub weaken : (P Q : A → Type 0) → ((a : A) → P a → Q a) → (s : List ℕ) (at : ℕ) (x : Read A) → Holds (Taken P s at) x → Holds (Taken Q s at) x
  weaken P Q f s at x h = holds-each (Taken P s at) (Taken Q s at) x h (λ a next r. record { fact = f a r.fact; on = r.on; end = r.end })

-- fields one after another
module _ {A B : Type 0} (P : A → Type 0) (Q : B → Type 0) (s : List ℕ) where
  pub taken_then : (at : ℕ) (x : Read A) (f : A → ℕ → Read B) → Holds (Taken P s at) x
      → ((a : A) (n : ℕ) → P a → n ≤ length s → Holds (Taken Q s n) (f a n)) → Holds (Taken Q s at) (and_then x f)
  taken_then at x f h k =
      holds_then (Taken P s at) (Taken Q s at) x f h (λ a n r. further Q s at n (f a n) r.on (k a n r.fact r.end))

-- ---- values for types, one each, with Q between type and value
unfoldable pub Along : (ℕ → ℕ → Type 0) → List ℕ → List ℕ → Type 0
Along Q [] [] = Unit {0}
Along Q [] (v ∷ vs) = ⊥
Along Q (t ∷ ts) [] = ⊥
Along Q (t ∷ ts) (v ∷ vs) = Q t v × Along Q ts vs

module _ (Q : ℕ → ℕ → Type 0) where
  along-length : (ts vs : List ℕ) → Along Q ts vs → length vs ≡ length ts
  unfolding Along
  along-length [] [] h = refl
  along-length [] (v ∷ vs) h = absurd h
  along-length (t ∷ ts) [] h = absurd h
  along-length (t ∷ ts) (v ∷ vs) h = ap suc (along-length ts vs h.1)

  pub along-at : (ts vs : List ℕ) → Along Q ts vs → (i : ℕ) → i < length ts → Q (get_or ts i 0) (get_or vs i 0)
  unfolding Along
  along-at [] [] h i l = absurd (omega arith)
  along-at [] (v ∷ vs) h i l = absurd h
  along-at (t ∷ ts) [] h i l = absurd h
  along-at (t ∷ ts) (v ∷ vs) h zero l = h.0
  along-at (t ∷ ts) (v ∷ vs) h (suc i) l = along-at ts vs h.1 i (omega arith)

  pub along-from : (ts vs : List ℕ) → length vs ≡ length ts → ((i : ℕ) → i < length ts → Q (get_or ts i 0) (get_or vs i 0)) → Along Q ts vs
  unfolding Along
  along-from [] [] n h = tt
  along-from [] (v ∷ vs) n h = absurd (omega (arith, n))
  along-from (t ∷ ts) [] n h = absurd (omega (arith, n))
  along-from (t ∷ ts) (v ∷ vs) n h = (h 0 (omega arith), along-from ts vs (omega (arith, n)) (λ i l. h (suc i) (omega arith)))

  pub along-cells : (n bits : ℕ) (ts vs : List ℕ) → length ts ≡ n → 0 < 2 ^ bits → ((t v : ℕ) → Q t v → v < 2 ^ bits) → Along Q ts vs → Cells n bits vs
  along-cells n bits ts vs e z f h = record {
    size = along-length ts vs h ∙ e;
    small = λ i.
        split (lt-or-le i (length ts))
        (λ l. f (get_or ts i 0) (get_or vs i 0) (along-at ts vs h i l))
        (λ l.
        let k : length vs ≤ i = omega (arith, along-length ts vs h) in
        rw (get_or-eq_default vs 0 k) z);
  }

  pub each_holds : (field : ℕ → Reader ℕ) (s : List ℕ)
      → ((t at : ℕ) → at ≤ length s → Holds (Taken (Q t) s at) (field t s at))
      → (ts : List ℕ) (at : ℕ) → at ≤ length s → Holds (Taken (Along Q ts) s at) (for_each field ts s at)
  unfolding for_each Along
  each_holds field s h [] at l = taken-got (Along Q []) s at [] tt l
  each_holds field s h (t ∷ ts) at l =
      taken_then (Q t) (Along Q (t ∷ ts)) s at (field t s at) _ (h t at l) λ v at₁ q l₁.
      taken_then (Along Q ts) (Along Q (t ∷ ts)) s at₁ (for_each field ts s at₁) _ (each_holds field s h ts at₁ l₁) λ vs at₂ r l₂.
      taken-got (Along Q (t ∷ ts)) s at₂ (v ∷ vs) (q, r) l₂

-- ---- one field
unfoldable pub Tested : (ℕ → Bool) → ℕ → Type 0
Tested ok v = (ok v ≡ true) × (v < 2 ^ 64)

tested-cond : (ok : ℕ → Bool) (s : List ℕ) (at v next : ℕ) (b : Bool) → ok v ≡ b → read_int s at ≡ Ok (v, next)
    → Holds (Taken (Tested ok) s at) (cond b (got v next) (outside at))
unfolding Holds Tested
tested-cond ok s at v next true e q =
    let a = advance s at v next q in
    record { fact = (e, value-small s at v next q); on = omega arith; end = omega arith }
tested-cond ok s at v next false e q = tt

tested-int : (ok : ℕ → Bool) (s : List ℕ) (at : ℕ) (i : (Result (ℕ × ℕ) IntError)) → read_int s at ≡ i → Holds (Taken (Tested ok) s at) (tested ok at i)
unfolding Holds tested
tested-int ok s at (Ok (v, next)) q = tested-cond ok s at v next (ok v) refl q
tested-int ok s at (Err (int.Short k)) q = tt
tested-int ok s at (Err (int.Overflow k)) q = tt

pub integer-holds : (ok : ℕ → Bool) (s : List ℕ) (at : ℕ) → Holds (Taken (Tested ok) s at) (integer ok s at)
unfolding integer
integer-holds ok s at = tested-int ok s at (read_int s at) refl

unfoldable pub Width : ℕ → ℕ → Type 0
Width k v = (v < 2 ^ k) × (v < 2 ^ 64)

pub width-holds : (k : ℕ) (s : List ℕ) (at : ℕ) → Holds (Taken (Width k) s at) (integer_of k s at)
unfolding integer_of Tested Width
width-holds k s at =
    weaken (Tested λ v. ltb v (2 ^ k)) (Width k) (λ v h. (ltb-true v (2 ^ k) h.0, h.1)) s at _ (integer-holds (λ v. ltb v (2 ^ k)) s at)

unfoldable pub PartOf : ℕ → List ℕ → Span → Type 0
PartOf n s span = (span.len ≡ n) × (span.start + span.len ≤ length s)

pub bytes-holds : (n : ℕ) (s : List ℕ) (at : ℕ) → Holds (Taken (PartOf n s) s at) (bytes n s at)
unfolding Holds bytes PartOf
bytes-holds n s at =
    split (lt-or-le (length s) (at + n))
    (λ l. rw (lt-leb (at + n) (length s) l) tt)
    (λ l. rw (le-leb (at + n) (length s) l) (record { fact = (refl, l); on = omega arith; end = l }))

-- a part ends where the field behind it begins
pub record Ends (s : List ℕ) (span : Span) (next : ℕ) : Type 0 where
  pub behind : next ≡ span.start + span.len
  pub inside : next ≤ length s

pub bytes-end : (n : ℕ) (s : List ℕ) (at : ℕ) → Holds (Ends s) (bytes n s at)
unfolding Holds bytes
bytes-end n s at =
    split (lt-or-le (length s) (at + n))
    (λ l. rw (lt-leb (at + n) (length s) l) tt)
    (λ l. rw (le-leb (at + n) (length s) l) (record { behind = refl; inside = l }))

-- a name is bytes that are plain
module _ (P : Span → ℕ → Type 0) (n : ℕ) (s : List ℕ) (at : ℕ) where
  pub name-holds : Holds P (bytes n s at) → Holds (λ name next. P name next × (plain_name (span_in s name) ≡ true)) (name_field n s at)
  unfolding name_field
  name-holds h =
      let Q : Span → ℕ → Type 0 = λ name next. P name next × (plain_name (span_in s name) ≡ true) in
      holds_then P Q (bytes n s at) _ h λ name next p.
      holds-cond Q (plain_name (span_in s name)) _ _ (λ e. holds-got Q name next (p, e)) (λ e. holds-failed Q (fault failure.NotPlain at))

pub number-holds : (s : List ℕ) (at : ℕ) → Holds (Taken (λ v. Bytes s → v < 2 ^ 32) s at) (number4 s at)
unfolding Holds number4 number_read
number-holds s at =
    split (lt-or-le (length s) (at + 4))
    (λ l. rw (number_short s at l) tt)
    (λ l.
    rw (number-value s at l)
    (record { fact = λ b. (number-own s at _ _ b (number-value s at l)).0; on = omega arith; end = l }))

server-id : (s : List ℕ) (at : ℕ) (r : (Result (ℤ × ℕ) FieldError)) → read_server_id s at ≡ r → Holds (Taken (λ z. mag z < 2 ^ 31) s at) (field_read at r)
unfolding Holds field_read
server-id s at (Ok (z, next)) q =
    let a = server-advance s at z next q in
    record { fact = (server-own s at z next q).0.sfits; on = omega arith; end = omega arith }
server-id s at (Err server.Short) q = tt
server-id s at (Err server.OutOfRange) q = tt

pub server-holds : (s : List ℕ) (at : ℕ) → Holds (Taken (λ z. mag z < 2 ^ 31) s at) (server_id s at)
unfolding server_id
server-holds s at = server-id s at (read_server_id s at) refl

-- an integer that was read stands there
value-stands : (ok : ℕ → Bool) (s : List ℕ) (at : ℕ) (i : (Result (ℕ × ℕ) IntError)) → read_int s at ≡ i → Holds (λ v next. read_int s at ≡ Ok (v, next)) (tested ok at i)
unfolding tested
value-stands ok s at (Ok (v, next)) q =
    let P : ℕ → ℕ → Type 0 = λ w end. read_int s at ≡ Ok (w, end) in
    holds-cond P (ok v) _ _ (λ t. holds-got P v next q) (λ t. holds-failed P _)
value-stands ok s at (Err (int.Short k)) q = holds-failed (λ w end. read_int s at ≡ Ok (w, end)) _
value-stands ok s at (Err (int.Overflow k)) q = holds-failed (λ w end. read_int s at ≡ Ok (w, end)) _

pub integer-value : (ok : ℕ → Bool) (s : List ℕ) (at v next : ℕ) → integer ok s at ≡ got v next → read_int s at ≡ Ok (v, next)
unfolding integer
integer-value ok s at v next e = held (λ w end. read_int s at ≡ Ok (w, end)) _ (value-stands ok s at (read_int s at) refl) v next e

-- an integer that was read passes its test
pub integer-passed : (ok : ℕ → Bool) (s : List ℕ) (at v next : ℕ) → integer ok s at ≡ got v next → ok v ≡ true
unfolding Tested
integer-passed ok s at v next e = (held (Taken (Tested ok) s at) (integer ok s at) (integer-holds ok s at) v next e).fact.0

pub between-low : (low high n : ℕ) → between low high n ≡ true → low ≤ n
unfolding between
between-low low high n h = leb-true low n (and_first (leb low n) (leb n high) h)

pub between-high : (low high n : ℕ) → between low high n ≡ true → n ≤ high
unfolding between
between-high low high n h = leb-true n high (and_second (leb low n) (leb n high) h)
