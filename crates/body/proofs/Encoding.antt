-- What was read as a field is that field's encoding: its bytes stand where it was read.
use Rattle.std.specs.Prelude.{Err, None, Ok, Option, Result, Some, ℤ}
use Prim.Native.Nat.{ℕ, ◌+◌, ◌≤◌}
use mathlib.Core.Path.{◌≡◌, refl, sym, ap, ◌∙◌}
use mathlib.Core.List.{List, [], ◌∷◌, ◌++◌, append_assoc}
use mathlib.Core.Bool.{Bool, true}
use lib.ListN.{length, take, drop, take-append-drop}
use lib.Seq.{drop-drop}
use borrow.Author.Tests.{le-leb, lt-leb}
use Rattle.lists.proofs.Cases.{lt-or-le, split}
use Rattle.wire.specs.declared.IntError.{IntError}
use Rattle.wire.specs.declared.values.FieldError.{FieldError}
use Rattle.wire.specs.declared.IntError.TheVariants as int
use Rattle.wire.specs.declared.values.FieldError.TheVariants as server
use Rattle.wire.specs.Integer.{encode_int, read_int}
use Rattle.wire.specs.Number.{encode_number, read_number}
use Rattle.wire.specs.Server.{server_word, read_server_id}
use Rattle.wire.specs.Value.{Bytes}
use Rattle.wire.proofs.RoundTrip.{one-encoding}
use Rattle.wire.proofs.Numbers.{number-own, number-length}
use Rattle.wire.proofs.values.Server.{server-own}
use Rattle.body.specs.Fields.{got, outside, Reader, for_each, tested, integer, integer_of, Span, span_in, bytes, field_read, number_read, number4, server_id}
use Rattle.body.specs.Encodings.{each_bytes}
use Rattle.body.proofs.Holds.{Holds, holds-cond, holds-got, holds-each, holds_then}
use Rattle.body.proofs.Spans.{span-length}

-- ---- bytes in a body s: those from `at` on are bs, and then those from `next` on
pub record Stands (s bs : List ℕ) (at next : ℕ) : Type 0 where
  pub split : drop at s ≡ bs ++ drop next s

module _ (s : List ℕ) where
  pub stands-none : (at : ℕ) → Stands s [] at at
  stands-none at = record { split = refl }

  pub stands-then : {xs ys : List ℕ} {at n next : ℕ} → Stands s xs at n → Stands s ys n next → Stands s (xs ++ ys) at next
  stands-then {xs} {ys} {at} {n} {next} p q = record {
    split = p.split ∙ (ap (λ (l : List ℕ). xs ++ l) q.split ∙ sym (append_assoc xs ys (drop next s)));
  }

  pub stands-part : (bs : List ℕ) (at next : ℕ) → next ≡ at + length bs → take (length bs) (drop at s) ≡ bs → Stands s bs at next
  stands-part bs at next e q = record {
    split =
        sym (take-append-drop (length bs) (drop at s))
        ∙ (ap (λ (l : List ℕ). l ++ drop (length bs) (drop at s)) q
        ∙ ap (λ (l : List ℕ). bs ++ l) (drop-drop (length bs) at s ∙ ap (λ (n : ℕ). drop n s) (sym e)));
  }

module _ {A : Type 0} where
  -- a value whose encoding stands where it was read
  abbrev pub Encoded : (A → List ℕ) → List ℕ → ℕ → A → ℕ → Type 0
  Encoded encode s at a next = Stands s (encode a) at next

-- ---- one field
pub record Passed (ok : ℕ → Bool) (s : List ℕ) (at v next : ℕ) : Type 0 where
  pub passed : ok v ≡ true
  pub here : Stands s (encode_int v) at next

module _ (s : List ℕ) (b : Bytes s) where
  integer-read : (ok : ℕ → Bool) (at : ℕ) (i : (Result (ℕ × ℕ) IntError)) → read_int s at ≡ i → Holds (Passed ok s at) (tested ok at i)
  unfolding tested Holds
  integer-read ok at (Ok (v, next)) q =
      let o = one-encoding s at v next b q in
      holds-cond (Passed ok s at) (ok v) (got v next) (outside at)
      (λ h. holds-got (Passed ok s at) v next (record { passed = h; here = stands-part s (encode_int v) at next o.0 o.1 }))
      (λ h. tt)
  integer-read ok at (Err (int.Short k)) q = tt
  integer-read ok at (Err (int.Overflow k)) q = tt

  pub integer-stands : (ok : ℕ → Bool) (at : ℕ) → Holds (Passed ok s at) (integer ok s at)
  unfolding integer
  integer-stands ok at = integer-read ok at (read_int s at) refl

  pub integer-encoded : (ok : ℕ → Bool) (at : ℕ) → Holds (Encoded encode_int s at) (integer ok s at)
  integer-encoded ok at = holds-each _ _ (integer ok s at) (integer-stands ok at) λ v next r. r.here

  pub width-encoded : (k at : ℕ) → Holds (Encoded encode_int s at) (integer_of k s at)
  unfolding integer_of
  width-encoded k at = integer-encoded _ at

  number-read_encoded : (at : ℕ) (i : (Option (ℕ × ℕ))) → read_number s at ≡ i → Holds (Encoded encode_number s at) (number_read at i)
  unfolding number_read Holds
  number-read_encoded at (Some (v, next)) q =
      let o = number-own s at v next b q in
      stands-part s (encode_number v) at next (o.1 ∙ ap (λ (n : ℕ). at + n) (sym (number-length v)))
      (ap (λ (n : ℕ). take n (drop at s)) (number-length v) ∙ o.3)
  number-read_encoded at None q = tt

  pub number-encoded : (at : ℕ) → Holds (Encoded encode_number s at) (number4 s at)
  unfolding number4
  number-encoded at = number-read_encoded at (read_number s at) refl

  server-read : (at : ℕ) (i : (Result (ℤ × ℕ) FieldError)) → read_server_id s at ≡ i → Holds (Encoded (λ z. encode_int (server_word z)) s at) (field_read at i)
  unfolding field_read Holds
  server-read at (Ok (z, next)) q =
      let o = one-encoding s at (server_word z) next b (server-own s at z next q).1 in
      stands-part s (encode_int (server_word z)) at next o.0 o.1
  server-read at (Err server.Short) q = tt
  server-read at (Err server.OutOfRange) q = tt

  pub server-encoded : (at : ℕ) → Holds (Encoded (λ z. encode_int (server_word z)) s at) (server_id s at)
  unfolding server_id
  server-encoded at = server-read at (read_server_id s at) refl

-- a part of n bytes
pub record PartHere (s : List ℕ) (n at : ℕ) (span : Span) (next : ℕ) : Type 0 where
  pub size : length (span_in s span) ≡ n
  pub here : Stands s (span_in s span) at next

module _ (s : List ℕ) (n at : ℕ) where
  abbrev part : Span
  part = record { start = at; len = n }

  module _ (l : at + n ≤ length s) where
    part-size : length (span_in s part) ≡ n
    part-size = span-length s part l

    part_bytes : take n (drop at s) ≡ span_in s part
    unfolding span_in
    part_bytes = refl

    part-here : PartHere s n at part (at + n)
    part-here = record {
      size = part-size;
      here =
          stands-part s (span_in s part) at (at + n) (ap (λ (k : ℕ). at + k) (sym part-size))
          (ap (λ (k : ℕ). take k (drop at s)) part-size ∙ part_bytes);
    }

  pub bytes-encoded : Holds (PartHere s n at) (bytes n s at)
  unfolding Holds bytes
  bytes-encoded =
      split (lt-or-le (length s) (at + n))
      (λ l. rw (lt-leb (at + n) (length s) l) tt)
      (λ l. rw (le-leb (at + n) (length s) l) (part-here l))

-- ---- a field for each of the types ts
pub each-encoded : (field : ℕ → Reader ℕ) (encode : ℕ → ℕ → List ℕ) (s : List ℕ) → ((t at : ℕ) → Holds (Encoded (encode t) s at) (field t s at))
    → (ts : List ℕ) (at : ℕ) → Holds (Encoded (each_bytes encode ts) s at) (for_each field ts s at)
unfolding for_each each_bytes
each-encoded field encode s h [] at = holds-got (Encoded (each_bytes encode []) s at) [] at (stands-none s at)
each-encoded field encode s h (t ∷ ts) at =
    let Q : List ℕ → ℕ → Type 0 = Encoded (each_bytes encode (t ∷ ts)) s at in
    holds_then (Encoded (encode t) s at) Q (field t s at) _ (h t at) λ v at₁ q.
    holds_then (Encoded (each_bytes encode ts) s at₁) Q (for_each field ts s at₁) _ (each-encoded field encode s h ts at₁) λ vs at₂ r.
    holds-got Q (v ∷ vs) at₂ (stands-then s q r)
