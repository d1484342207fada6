-- The bytes of a field at a position of a longer body read as that field: of integers over the test, of bytes, and of a field for each type.
use Rattle.std.specs.Prelude.{Ok, Some}
use Prim.Native.Nat.{ℕ, ◌+◌, ◌^◌, ◌≤◌, ◌<◌}
use native.Mathlib.Omega.{arith}
use mathlib.Core.Path.{◌≡◌, refl, sym, ap, ◌∙◌}
use mathlib.Core.List.{List, [], ◌∷◌, ◌++◌, append_assoc, append-nil}
use mathlib.Core.Bool.{Bool, true, cond}
use lib.ListN.{length, take, drop, length-append, take-append-drop}
use lib.IntN.{ℤ}
use lib.Signed.{mag}
use lib.Seq.{drop-drop, drop-length, drop-append_seam, take-append_seam, length-take-le}
use borrow.Author.Tests.{le-leb, lt-ltb}
use Rattle.wire.specs.Integer.{encode_int, read_int}
use Rattle.wire.specs.Number.{encode_number, read_number}
use Rattle.wire.specs.Server.{server_word, read_server_id}
use Rattle.wire.proofs.RoundTrip.{round_trip}
use Rattle.wire.proofs.Numbers.{number-trip, number-length}
use Rattle.wire.proofs.values.Server.{server-trip}
use Rattle.store.specs.Limits.{present}
use Rattle.body.specs.Fields.{got, Reader, for_each, tested, integer, integer_of, span_in, bytes, field_read, number_read, number4, server_id}
use Rattle.body.specs.Encodings.{each_bytes}
use Rattle.body.specs.ReadBack.{present_only}
use Rattle.body.proofs.Taken.{Along}

-- ---- the bytes bs stand in s from `at` up to `next`
pub record Placed (s bs : List ℕ) (at next : ℕ) : Type 0 where
  pub here : drop at s ≡ bs ++ drop next s
  pub end : next ≡ at + length bs
  pub inside : next ≤ length s

pub placed-whole : (s : List ℕ) → Placed s s 0 (length s)
placed-whole s = record { here = sym (ap (λ (l : List ℕ). s ++ l) (drop-length s) ∙ append-nil s); end = omega arith; inside = omega arith }

-- the same bytes, told otherwise
pub placed-as : {s xs ys : List ℕ} {at next : ℕ} → xs ≡ ys → Placed s xs at next → Placed s ys at next
placed-as {s} {xs} {ys} {at} {next} e p = record {
  here = p.here ∙ ap (λ (l : List ℕ). l ++ drop next s) e;
  end = p.end ∙ ap (λ (l : List ℕ). at + length l) e;
  inside = p.inside;
}

-- no bytes stand between a position and itself
pub placed-none : {s : List ℕ} {at next : ℕ} → Placed s [] at next → next ≡ at
placed-none p = p.end ∙ omega arith

module _ {s : List ℕ} (xs ys : List ℕ) {at next : ℕ} (p : Placed s (xs ++ ys) at next) where
  behind : drop (at + length xs) s ≡ ys ++ drop next s
  behind =
      sym (drop-drop (length xs) at s)
      ∙ (ap (λ (l : List ℕ). drop (length xs) l) (p.here ∙ append_assoc xs ys (drop next s)) ∙ drop-append_seam xs (ys ++ drop next s))

  pub placed_first : Placed s xs at (at + length xs)
  placed_first = record {
    here = p.here ∙ (append_assoc xs ys (drop next s) ∙ ap (λ (l : List ℕ). xs ++ l) (sym behind));
    end = refl;
    inside = omega (arith, p.end, p.inside, length-append xs ys);
  }

  pub placed-rest : Placed s ys (at + length xs) next
  placed-rest = record { here = behind; end = omega (arith, p.end, length-append xs ys); inside = p.inside }

-- what reads bs behind any bytes and before any reads them here
module _ {A : Type 0} (f : List ℕ → ℕ → A) (g : ℕ → A) (bs : List ℕ) (trip : (p t : List ℕ) → f (p ++ (bs ++ t)) (length p) ≡ g (length p + length bs)) where
  pub placed-trip : {s : List ℕ} {at next : ℕ} → Placed s bs at next → f s at ≡ g next
  placed-trip {s} {at} {next} p =
      let l : length (take at s) ≡ at = length-take-le at s (omega (arith, p.end, p.inside)) in
      let e : s ≡ take at s ++ (bs ++ drop next s) = sym (take-append-drop at s) ∙ ap (λ (x : List ℕ). take at s ++ x) p.here in
      ap (λ (x : List ℕ). f x at) e
      ∙ (ap (λ (n : ℕ). f (take at s ++ (bs ++ drop next s)) n) (sym l)
      ∙ (trip (take at s) (drop next s) ∙ ap g (ap (λ (n : ℕ). n + length bs) l ∙ sym p.end)))

-- ---- one field
module _ {s : List ℕ} {at next : ℕ} where
  pub integer-placed : (ok : ℕ → Bool) (v : ℕ) → v < 2 ^ 64 → ok v ≡ true → Placed s (encode_int v) at next → integer ok s at ≡ got v next
  unfolding integer tested
  integer-placed ok v l h p = rw (placed-trip read_int (λ (n : ℕ). Ok (v, n)) (encode_int v) (λ q t. round_trip q t v l) p, h)

  pub width-placed : (k v : ℕ) → v < 2 ^ 64 → v < 2 ^ k → Placed s (encode_int v) at next → integer_of k s at ≡ got v next
  unfolding integer_of
  width-placed k v l h p = integer-placed _ v l (lt-ltb v (2 ^ k) h) p

  pub number-placed : (v : ℕ) → v < 2 ^ 32 → Placed s (encode_number v) at next → number4 s at ≡ got v next
  unfolding number4 number_read
  number-placed v l p =
      rw (placed-trip read_number (λ (n : ℕ). Some (v, n)) (encode_number v)
      (λ q t. number-trip q t v l ∙ ap (λ (n : ℕ). Some (v, (length q + n))) (sym (number-length v))) p)

  pub server-placed : (z : ℤ) → mag z < 2 ^ 31 → Placed s (encode_int (server_word z)) at next → server_id s at ≡ got z next
  unfolding server_id field_read
  server-placed z l p =
      rw (placed-trip read_server_id (λ (n : ℕ). Ok (z, n)) (encode_int (server_word z)) (λ q t. server-trip q t z (record { sfits = l })) p)

  pub bytes-placed : (bs : List ℕ) → Placed s bs at next → bytes (length bs) s at ≡ got (record { start = at; len = length bs }) next
  unfolding bytes
  bytes-placed bs p =
      let l : at + length bs ≤ length s = omega (arith, p.end, p.inside) in
      rw (le-leb (at + length bs) (length s) l, ← p.end)

  pub span-placed : (bs : List ℕ) → Placed s bs at next → span_in s (record { start = at; len = length bs }) ≡ bs
  unfolding span_in
  span-placed bs p = ap (λ (x : List ℕ). take (length bs) x) p.here ∙ take-append_seam bs (drop next s)

-- ---- a field for each of the types ts, of which those present are read
module _ (field : ℕ → Reader ℕ) (encode : ℕ → ℕ → List ℕ) (types : ℕ) (Q : ℕ → ℕ → Type 0) (s : List ℕ)
    (one : (t v at next : ℕ) → Q t v → Placed s (encode t v) at next → field t s at ≡ got (cond (present types t) v 0) next) where
  pub each_placed : (ts vs : List ℕ) → Along Q ts vs → (at next : ℕ) → Placed s (each_bytes encode ts vs) at next
      → for_each field ts s at ≡ got (present_only types ts vs) next
  unfolding for_each each_bytes present_only Along
  each_placed [] [] a at next p = ap (got []) (sym (placed-none p))
  each_placed [] (v ∷ vs) a at next p = absurd a
  each_placed (t ∷ ts) [] a at next p = absurd a
  each_placed (t ∷ ts) (v ∷ vs) a at next p =
      rw (
        one t v at _ a.0 (placed_first (encode t v) (each_bytes encode ts vs) p),
        each_placed ts vs a.1 _ next (placed-rest (encode t v) (each_bytes encode ts vs) p),
      )
