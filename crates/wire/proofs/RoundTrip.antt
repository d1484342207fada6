-- Reading what was written gives the value back, and only a value's encoding reads as it.
use Rattle.std.specs.Prelude.{Err, Ok, Result}
use Prim.Native.Nat.{ℕ, zero, suc, ◌+◌, ◌*◌, ◌-◌, ◌/◌, ◌%◌, ◌^◌, ◌≤◌, ◌<◌}
use native.Mathlib.Omega.{arith}
use native.Mathlib.Nat.{pow-suc}
use mathlib.Core.Path.{◌≡◌, refl, sym, ap, subst, ◌∙◌}
use mathlib.Core.List.{List, [], ◌∷◌, ◌++◌}
use lib.ListN.{length, take, drop}
use lib.Seq.{drop-append_seam}
use borrow.Author.Tests.{lt-ltb, le-ltb}
use Rattle.wire.specs.declared.IntError.{IntError}
use Rattle.wire.specs.declared.IntError.TheVariants.{Short, Overflow}
use Rattle.wire.specs.Integer.{encode_rest, encode_int, Later, ended, cut, endless, before, later_bytes, weighted, with_later, read_first, read_int}
use Rattle.wire.specs.Value.{Bytes}
use Rattle.lists.proofs.Cases.{lt-or-le, split}
use Rattle.wire.proofs.Read.{fitting-value, fitting-over}
use Rattle.wire.proofs.Sizes.{tail-bytes, drop-bytes}
use Rattle.wire.proofs.Write.{rest-last, rest_more, int_alone, int-more, shrinks}

-- ---- there and back
-- y, as its first later byte and the rest
digit : (y : ℕ) → 128 ≤ y → 128 + y % 128 + 128 * ((y - 128) / 128) ≡ y
digit y h = omega arith

weighted-step : (k b y : ℕ) → 16 * 128 ^ k * b + 16 * 128 ^ suc k * y ≡ 16 * 128 ^ k * (b + 128 * y)
weighted-step k b y = rw (pow-suc) (omega arith)

rest-weighted : (m k y : ℕ) → y < 128 ^ suc m → weighted k (encode_rest (suc m) y) ≡ 16 * 128 ^ k * y
unfolding weighted
rest-weighted zero k y h = let l : y < 128 = omega arith in rw (rest-last 1 0 y refl l) (omega arith)
rest-weighted (suc m) k y h =
    split (lt-or-le y 128)
    (λ l. rw (rest-last (suc (suc m)) (suc m) y refl l) (omega arith))
    (λ l.
    rw (rest_more (suc (suc m)) (suc m) y refl l, rest-weighted m (suc k) ((y - 128) / 128) (shrinks (suc (suc m)) (suc m) y refl h))
    (weighted-step k (128 + y % 128) ((y - 128) / 128) ∙ ap (λ (x : ℕ). 16 * 128 ^ k * x) (digit y l)))

rest_ended : (m y : ℕ) (t : List ℕ) → y < 128 ^ suc m → later_bytes (suc m) (encode_rest (suc m) y ++ t) ≡ ended (encode_rest (suc m) y)
unfolding later_bytes before
rest_ended zero y t h =
    let l : y < 128 = omega arith in
    rw (rest-last 1 0 y refl l, lt-ltb y 128 l)
rest_ended (suc m) y t h =
    split (lt-or-le y 128)
    (λ l. rw (rest-last (suc (suc m)) (suc m) y refl l, lt-ltb y 128 l))
    (λ l.
    let b≥ : 128 ≤ 128 + y % 128 = omega arith in
    rw (rest_more (suc (suc m)) (suc m) y refl l, le-ltb (128 + y % 128) 128 b≥, rest_ended m ((y - 128) / 128) t (shrinks (suc (suc m)) (suc m) y refl h)))

first-trip : (v at : ℕ) (t : List ℕ) → v < 2 ^ 64 → read_first at (encode_int v ++ t) ≡ Ok (v, (at + length (encode_int v)))
unfolding read_first with_later
first-trip v at t h =
    split (lt-or-le v 240)
    (λ l. rw (int_alone v l, lt-ltb v 240 l))
    (λ l.
    let b≥ : 240 ≤ 240 + v % 16 = omega arith in
    let y< : (v - 240) / 16 < 128 ^ 9 = omega arith in
    let e : 240 + v % 16 + 16 * 128 ^ 0 * ((v - 240) / 16) ≡ v = omega arith in
    let k : at + 1 + length (encode_rest 9 ((v - 240) / 16)) ≡ at + suc (length (encode_rest 9 ((v - 240) / 16))) = omega arith in
    rw (int-more v l, le-ltb (240 + v % 16) 240 b≥, rest_ended 8 ((v - 240) / 16) t y<, rest-weighted 8 0 ((v - 240) / 16) y<) (rw (e, k) (fitting-value _ _ _ h)))

-- Reading what was written gives the value and the position after it, whatever stands before and behind.
pub round_trip : (p t : List ℕ) (v : ℕ) → v < 2 ^ 64 → read_int (p ++ (encode_int v ++ t)) (length p) ≡ Ok (v, (length p + length (encode_int v)))
unfolding read_int
round_trip p t v h = rw (drop-append_seam p (encode_int v ++ t)) (first-trip v (length p) t h)

-- ---- back and there
-- later bytes that end: the first ones of s, the encoding of some y, at any weight
pub record Digits (n : ℕ) (s bs : List ℕ) : Type 0 where
  pub y : ℕ
  pub taken : take (length bs) s ≡ bs
  pub digits : bs ≡ encode_rest n y
  pub worth : (k : ℕ) → weighted k bs ≡ 16 * 128 ^ k * y

Kept : ℕ → List ℕ → Later → Type 0
Kept n s (ended bs) = Digits n s bs
Kept n s (cut k) = Unit {0}
Kept n s endless = Unit {0}

kept-before : (n b : ℕ) (s : List ℕ) (l : Later) → 128 ≤ b → b < 256 → Kept n s l → Kept (suc n) (b ∷ s) (before b l)
unfolding Kept before weighted
kept-before n b s (ended bs) l h d =
    let y : ℕ = d.y in
    let l' : 128 ≤ b + 128 * y = omega arith in
    let e₁ : 128 + (b + 128 * y) % 128 ≡ b = omega arith in
    let e₂ : (b + 128 * y - 128) / 128 ≡ y = omega arith in
    record {
      y = b + 128 * y;
      taken = ap (λ (x : List ℕ). b ∷ x) d.taken;
      digits = rw (rest_more (suc n) n (b + 128 * y) refl l', e₁, e₂, ← d.digits);
      worth = λ k. rw (d.worth (suc k)) (weighted-step k b y);
    }
kept-before n b s (cut k) l h q = tt
kept-before n b s endless l h q = tt

later-kept : (n : ℕ) (s : List ℕ) → Bytes s → Kept n s (later_bytes n s)
unfolding Kept later_bytes weighted
later-kept zero s h = tt
later-kept (suc n) [] h = tt
later-kept (suc n) (b ∷ s) h =
    split (lt-or-le b 128)
    (λ l. rw (lt-ltb b 128 l) (record { y = b; taken = refl; digits = sym (rest-last (suc n) n b refl l); worth = λ k. omega arith }))
    (λ l. rw (le-ltb b 128 l) (kept-before n b s (later_bytes n s) l (h.byte 0) (later-kept n s (tail-bytes h))))

-- the same of the integer at position at, where s is what stands there
Own : ℕ → List ℕ → Result (ℕ × ℕ) IntError → Type 0
Own at s (Ok (v, next)) = (next ≡ at + length (encode_int v)) × (take (length (encode_int v)) s ≡ encode_int v)
Own at s (Err (Short k)) = Unit {0}
Own at s (Err (Overflow k)) = Unit {0}

own-later : (at b : ℕ) (s : List ℕ) (l : Later) → 240 ≤ b → b < 256 → Kept 9 s l → Own at (b ∷ s) (with_later at b l)
unfolding Kept Own with_later
own-later at b s (ended bs) l h d =
    split (lt-or-le (b + weighted 0 bs) (2 ^ 64))
    (λ f.
    let y : ℕ = d.y in
    let w : weighted 0 bs ≡ 16 * y = d.worth 0 ∙ omega arith in
    let l' : 240 ≤ b + weighted 0 bs = omega arith in
    let e₁ : 240 + (b + weighted 0 bs) % 16 ≡ b = omega arith in
    let e₂ : (b + weighted 0 bs - 240) / 16 ≡ y = omega arith in
    let e : encode_int (b + weighted 0 bs) ≡ b ∷ bs = rw (int-more (b + weighted 0 bs) l', e₁, e₂, ← d.digits) in
    let k : at + 1 + length bs ≡ at + suc (length bs) = omega arith in
    rw (fitting-value (b + weighted 0 bs) (1 + length bs) (at + 1 + length bs) f, e) (k, rw d.taken))
    (λ f. rw (fitting-over (b + weighted 0 bs) (1 + length bs) (at + 1 + length bs) f) tt)
own-later at b s (cut k) l h q = tt
own-later at b s endless l h q = tt

first-own : (at : ℕ) (s : List ℕ) → Bytes s → Own at s (read_first at s)
unfolding Own read_first
first-own at [] h = tt
first-own at (b ∷ s) h =
    split (lt-or-le b 240)
    (λ l. rw (lt-ltb b 240 l, int_alone b l) (refl, refl))
    (λ l. rw (le-ltb b 240 l) (own-later at b s (later_bytes 9 s) l (h.byte 0) (later-kept 9 s (tail-bytes h))))

-- Bytes that read as v are exactly the encoding of v: every 64-bit number has one encoding.
pub one-encoding : (s : List ℕ) (at v next : ℕ) → Bytes s → read_int s at ≡ Ok (v, next)
    → (next ≡ at + length (encode_int v)) × (take (length (encode_int v)) (drop at s) ≡ encode_int v)
unfolding read_int Own
one-encoding s at v next h e = subst (Own at (drop at s)) e (first-own at (drop at s) (drop-bytes at h))
