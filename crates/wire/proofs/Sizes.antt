-- The size of an encoding: 1 to 10 bytes, by the table of smallest values; each is a byte.
use Prim.Native.Nat.{ℕ, zero, suc, ◌+◌, ◌*◌, ◌-◌, ◌/◌, ◌^◌, ◌≤◌, ◌<◌}
use native.Mathlib.Omega.{arith}
use mathlib.Core.Path.{◌≡◌, refl, ap, ◌∙◌}
use mathlib.Core.List.{List, [], ◌∷◌}
use lib.ListN.{length, get_or, drop}
use lib.Seq.{get_or-drop}
use Rattle.wire.specs.Integer.{encode_rest, encode_int, smallest}
use Rattle.wire.specs.Value.{Bytes}
use Rattle.lists.proofs.Cases.{lt-or-le, split}
use Rattle.wire.proofs.Write.{rest-last, rest_more, int_alone, int-more}

-- ---- at most ten bytes, and one at least
rest-length : (n y : ℕ) → length (encode_rest n y) ≤ n
unfolding encode_rest
rest-length zero y = omega arith
rest-length (suc n) y =
    split (lt-or-le y 128)
    (λ l. rw (rest-last (suc n) n y refl l) (omega arith))
    (λ l. rw (rest_more (suc n) n y refl l) (omega (arith, rest-length n ((y - 128) / 128))))

pub int-length : (v : ℕ) → length (encode_int v) ≤ 10
int-length v =
    split (lt-or-le v 240)
    (λ l. rw (int_alone v l) (omega arith))
    (λ l. rw (int-more v l) (omega (arith, rest-length 9 ((v - 240) / 16))))

pub int-some : (v : ℕ) → 1 ≤ length (encode_int v)
int-some v = split (lt-or-le v 240) (λ l. rw (int_alone v l) (omega arith)) (λ l. rw (int-more v l) (omega arith))

-- ---- they are bytes
pub none-bytes : Bytes []
none-bytes = record { byte = λ i. omega arith }

cons-byte : (b : ℕ) (s : List ℕ) → b < 256 → Bytes s → (i : ℕ) → get_or (b ∷ s) i 0 < 256
cons-byte b s h hs zero = h
cons-byte b s h hs (suc i) = hs.byte i

pub cons-bytes : {b : ℕ} {s : List ℕ} → b < 256 → Bytes s → Bytes (b ∷ s)
cons-bytes h hs = record { byte = cons-byte _ _ h hs }

pub tail-bytes : {b : ℕ} {s : List ℕ} → Bytes (b ∷ s) → Bytes s
tail-bytes h = record { byte = λ i. h.byte (suc i) }

pub drop-bytes : (n : ℕ) {s : List ℕ} → Bytes s → Bytes (drop n s)
drop-bytes n {s} h = record { byte = λ i. rw get_or-drop (h.byte (n + i)) }

-- ---- the table
-- the smallest y that takes more than n bytes
least : ℕ → ℕ
least zero = 0
least (suc n) = 128 + 128 * least n

rest-longer : (m n y : ℕ) → n < m → least n ≤ y → n < length (encode_rest m y)
unfolding least
rest-longer zero n y h l = omega arith
rest-longer (suc m) zero y h l =
    split (lt-or-le y 128) (λ k. rw (rest-last (suc m) m y refl k) (omega arith)) (λ k. rw (rest_more (suc m) m y refl k) (omega arith))
rest-longer (suc m) (suc n) y h l =
    let k : 128 ≤ y = omega arith in
    rw (rest_more (suc m) m y refl k) (omega (arith, rest-longer m n ((y - 128) / 128) (omega arith) (omega arith)))

rest-shorter : (m n y : ℕ) → y < least n → length (encode_rest m y) ≤ n
unfolding least
rest-shorter m zero y l = omega arith
rest-shorter zero (suc n) y l = omega (arith, rest-length zero y)
rest-shorter (suc m) (suc n) y l =
    split (lt-or-le y 128)
    (λ k. rw (rest-last (suc m) m y refl k) (omega arith))
    (λ k. rw (rest_more (suc m) m y refl k) (omega (arith, rest-shorter m n ((y - 128) / 128) (omega arith))))

-- m rows of the table after the first, from row n + 1 on
rows : ℕ → ℕ → List ℕ
rows zero n = []
rows (suc m) n = (240 + 16 * least n) ∷ rows m (suc n)

rows_at : (m n i d : ℕ) → i < m → get_or (rows m n) i d ≡ 240 + 16 * least (n + i)
unfolding rows
rows_at zero n i d h = omega arith
rows_at (suc m) n zero d h = let e : n ≡ n + 0 = omega arith in ap (λ (x : ℕ). 240 + 16 * least x) e
rows_at (suc m) n (suc i) d h =
    let e : suc n + i ≡ n + suc i = omega arith in
    rows_at m (suc n) i d (omega arith) ∙ ap (λ (x : ℕ). 240 + 16 * least x) e

row : (n d : ℕ) → n < 9 → get_or smallest (suc n) d ≡ 240 + 16 * least n
unfolding smallest rows least
row n d h = let e : 0 + n ≡ n = omega arith in rows_at 9 0 n d h ∙ ap (λ (x : ℕ). 240 + 16 * least x) e

-- from row n on an encoding has more than n bytes
pub longer : (v n : ℕ) → n < 10 → get_or smallest n 0 ≤ v → n < length (encode_int v)
longer v zero h l = omega (arith, int-some v)
longer v (suc n) h l =
    let k : 240 ≤ v = omega (arith, row n 0 (omega arith)) in
    rw (int-more v k) (omega (arith, rest-longer 9 n ((v - 240) / 16) (omega arith) (omega (arith, row n 0 (omega arith)))))

-- below row n it has at most n
pub shorter : (v n : ℕ) → n < 10 → v < get_or smallest n 0 → length (encode_int v) ≤ n
unfolding smallest
shorter v zero h l = omega arith
shorter v (suc n) h l =
    split (lt-or-le v 240)
    (λ k. rw (int_alone v k) (omega arith))
    (λ k. rw (int-more v k) (omega (arith, rest-shorter 9 n ((v - 240) / 16) (omega (arith, row n 0 (omega arith))))))

-- The table: a value from row n up to the next row, or up to 2^64 from the last, has n + 1 bytes.
pub length-by-table : (v n : ℕ) → n < 10 → get_or smallest n 0 ≤ v → v < get_or smallest (suc n) (2 ^ 64) → length (encode_int v) ≡ suc n
length-by-table v n h l u =
    split (lt-or-le n 9)
    (λ k.
    let below : v < get_or smallest (suc n) 0 = omega (arith, row n 0 k, row n (2 ^ 64) k) in
    omega (arith, longer v n h l, shorter v (suc n) (omega arith) below))
    (λ k. omega (arith, int-length v, longer v n h l))
