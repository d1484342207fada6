-- The 4-byte number: a law for each way through `read_number` and `write_number`, and the round trip both ways.
use Rattle.std.specs.Prelude.{None, Option, Some}
use Prim.Native.Nat.{ℕ, suc, ◌+◌, ◌*◌, ◌-◌, ◌/◌, ◌%◌, ◌^◌, ◌≤◌, ◌<◌}
use native.Mathlib.Omega.{arith}
use mathlib.Core.Path.{◌≡◌, refl, sym, ap, subst, ◌∙◌}
use mathlib.Core.List.{List, [], ◌∷◌, ◌++◌}
use lib.ListN.{length, get_or, take, drop, length-append, length-drop}
use lib.Seq.{get_or-append-add, drop-cons, take_all}
use borrow.Author.Rules.{rules}
use borrow.Author.Tests.{le-leb, lt-leb}
use Rattle.wire.specs.Number.{number_of, read_number, encode_number}
use Rattle.wire.specs.Value.{Bytes}
use Rattle.lists.proofs.Cases.{lt-or-le, split}

module _ (s : List ℕ) (at : ℕ) where
  pub number_short : length s < at + 4 → read_number s at ≡ None
  unfolding read_number
  number_short h = rw (lt-leb (at + 4) (length s) h)

  pub number-value : at + 4 ≤ length s → read_number s at ≡ Some ((number_of (get_or s at 0) (get_or s (at + 1) 0) (get_or s (at + 2) 0) (get_or s (at + 3) 0)), (at + 4))
  unfolding read_number
  number-value h = rw (le-leb (at + 4) (length s) h)

pub past : (s : List ℕ) (at : ℕ) → length s < at → None ≡ read_number s at
past s at h = sym (number_short s at (omega arith))

pub few : (s part : List ℕ) (at : ℕ) → length part + at ≡ length s → length part < 4 → None ≡ read_number s at
few s part at e h = sym (number_short s at (omega arith))

pub ruleset numbers = (rules, past, few)

pub number-length : (v : ℕ) → length (encode_number v) ≡ 4
unfolding encode_number
number-length v = refl

-- ---- there and back
decode-encode : (v : ℕ) → v < 2 ^ 32 → number_of (v / 2 ^ 24 % 256) (v / 2 ^ 16 % 256) (v / 2 ^ 8 % 256) (v % 256) ≡ v
unfolding number_of
decode-encode v h =
    let e₁ : v / 2 ^ 16 ≡ v / 2 ^ 8 / 2 ^ 8 = omega arith in
    let e₂ : v / 2 ^ 24 ≡ v / 2 ^ 16 / 2 ^ 8 = omega arith in
    let e₃ : v / 2 ^ 24 % 256 ≡ v / 2 ^ 24 = omega arith in
    omega arith

-- Reading what was written gives the number and the position after it, whatever stands before and behind.
pub number-trip : (p t : List ℕ) (v : ℕ) → v < 2 ^ 32 → read_number (p ++ (encode_number v ++ t)) (length p) ≡ Some (v, (length p + 4))
unfolding encode_number
number-trip p t v h =
    let q : List ℕ = encode_number v ++ t in
    let l : length p + 4 ≤ length (p ++ q) = rw length-append (omega arith) in
    let z : length p + 0 ≡ length p = omega arith in
    let e : get_or (p ++ q) (length p) 0 ≡ v / 2 ^ 24 % 256 = rw z at (get_or-append-add p q 0 0) in
    number-value (p ++ q) (length p) l
    ∙ rw (e, get_or-append-add p q 1 0, get_or-append-add p q 2 0, get_or-append-add p q 3 0) (rw (decode-encode v h))

-- ---- back and there
encode-decode : (a b c d : ℕ) → a < 256 → b < 256 → c < 256 → d < 256 → encode_number (number_of a b c d) ≡ a ∷ b ∷ c ∷ d ∷ []
unfolding encode_number number_of
encode-decode a b c d ha hb hc hd =
    let n : ℕ = a * 2 ^ 24 + b * 2 ^ 16 + c * 2 ^ 8 + d in
    let ea : n / 2 ^ 24 % 256 ≡ a = omega arith in
    let eb : n / 2 ^ 16 % 256 ≡ b = omega arith in
    let ec : n / 2 ^ 8 % 256 ≡ c = omega arith in
    let ed : n % 256 ≡ d = omega arith in
    rw (ea, eb, ec, ed)

small : (a b c d : ℕ) → a < 256 → b < 256 → c < 256 → d < 256 → number_of a b c d < 2 ^ 32
unfolding number_of
small a b c d ha hb hc hd = omega arith

four-taken : (s : List ℕ) (at : ℕ) → at + 4 ≤ length s
    → take 4 (drop at s) ≡ get_or s at 0 ∷ get_or s (at + 1) 0 ∷ get_or s (at + 2) 0 ∷ get_or s (at + 3) 0 ∷ []
four-taken s at h =
    let e₁ : at + 1 ≡ suc at = omega arith in
    let e₂ : at + 2 ≡ suc (suc at) = omega arith in
    let e₃ : at + 3 ≡ suc (suc (suc at)) = omega arith in
    rw (e₁, e₂, e₃, drop-cons s at 0 (omega arith), drop-cons s (suc at) 0 (omega arith), drop-cons s (suc (suc at)) 0 (omega arith), drop-cons s (suc (suc (suc at))) 0 (omega arith))

-- what `read_number` returns, of the first four bytes of those from `at` on
pub four : (s part bytes : List ℕ) (at r : ℕ) → at ≤ length s → part ≡ take (length s - at) (drop at s) → 4 ≤ length part → bytes ≡ take 4 part
    → r ≡ get_or bytes 0 0 * 0x1000000 + get_or bytes 1 0 * 0x10000 + get_or bytes 2 0 * 0x100 + get_or bytes 3 0 → Some (r, (at + 4)) ≡ read_number s at
unfolding number_of
four s part bytes at r h p l b e =
    let q : part ≡ drop at s = p ∙ take_all (length s - at) (drop at s) (omega (arith, length-drop at s)) in
    let k : at + 4 ≤ length s = omega (arith, ap length q, length-drop at s) in
    let z = b ∙ ap (take 4) q ∙ four-taken s at k in
    sym (number-value s at k ∙ rw (e, z))

Own : ℕ → List ℕ → Option (ℕ × ℕ) → Type 0
Own at s (Some (v, next)) = (v < 2 ^ 32) × (next ≡ at + 4) × (next ≤ length s) × (take 4 (drop at s) ≡ encode_number v)
Own at s None = Unit {0}

own : (s : List ℕ) (at : ℕ) → Bytes s → Own at s (read_number s at)
unfolding Own
own s at h =
    split (lt-or-le (length s) (at + 4))
    (λ l. rw (number_short s at l) tt)
    (λ l.
    rw (number-value s at l) (
      small _ _ _ _ (h.byte at) (h.byte (at + 1)) (h.byte (at + 2)) (h.byte (at + 3)),
      refl,
      l,
      four-taken s at l ∙ sym (encode-decode _ _ _ _ (h.byte at) (h.byte (at + 1)) (h.byte (at + 2)) (h.byte (at + 3))),
    ))

-- Bytes that read as v are exactly the four bytes of v.
pub number-own : (s : List ℕ) (at v next : ℕ) → Bytes s → read_number s at ≡ Some (v, next)
    → (v < 2 ^ 32) × (next ≡ at + 4) × (next ≤ length s) × (take 4 (drop at s) ≡ encode_number v)
unfolding Own
number-own s at v next h e = subst (Own at s) e (own s at h)
