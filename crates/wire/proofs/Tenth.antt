-- An overflow shows at the tenth byte.
use Rattle.std.specs.Prelude.{Err, Ok, Result}
use Prim.Native.Nat.{ℕ, zero, suc, ◌+◌, ◌*◌, ◌^◌, ◌≤◌, ◌<◌}
use native.Mathlib.Omega.{arith}
use native.Mathlib.Nat.{pow-suc, mul-le-mul_left}
use mathlib.Core.Path.{◌≡◌, refl, subst}
use mathlib.Core.List.{List, [], ◌∷◌}
use lib.ListN.{length, drop}
use borrow.Author.Tests.{lt-ltb, le-ltb}
use Rattle.wire.specs.declared.IntError.{IntError}
use Rattle.wire.specs.declared.IntError.TheVariants.{Short, Overflow}
use Rattle.wire.specs.Integer.{Later, ended, cut, endless, before, later_bytes, weighted, with_later, read_first, read_int}
use Rattle.wire.specs.Value.{Bytes}
use Rattle.lists.proofs.Cases.{lt-or-le, split}
use Rattle.wire.proofs.Advance.{overflow-inside}
use Rattle.wire.proofs.Read.{fitting-value, fitting-over}
use Rattle.wire.proofs.Sizes.{none-bytes, cons-bytes, tail-bytes, drop-bytes}

-- what n later bytes add at most, in units of the first one's weight
most : ℕ → ℕ
most zero = 0
most (suc n) = 255 + 128 * most n

most-le : (m n : ℕ) → m ≤ n → most m ≤ most n
unfolding most
most-le zero n h = omega arith
most-le (suc m) zero h = omega arith
most-le (suc m) (suc n) h = omega (arith, most-le m n (omega arith))

weighted-le : (k : ℕ) (bs : List ℕ) → Bytes bs → weighted k bs ≤ 16 * 128 ^ k * most (length bs)
unfolding weighted most
weighted-le k [] h = omega arith
weighted-le k (b ∷ bs) h =
    let u : b ≤ 255 = omega (arith, h.byte 0) in
    let l : weighted (suc k) bs ≤ 16 * (128 ^ k * 128) * most (length bs) = rw pow-suc at (weighted-le (suc k) bs (tail-bytes h)) in
    omega (arith, mul-le-mul_left (16 * 128 ^ k) u)

nine-fit : (b : ℕ) (bs : List ℕ) → b < 256 → Bytes bs → length bs ≤ 8 → b + weighted 0 bs < 2 ^ 64
unfolding most
nine-fit b bs h hs l = omega (arith, weighted-le 0 bs hs, most-le (length bs) 8 l)

-- of at most n later bytes
Known : ℕ → Later → Type 0
Known n (ended bs) = Bytes bs × (length bs ≤ n)
Known n (cut k) = Unit {0}
Known n endless = Unit {0}

known-before : (n b : ℕ) (l : Later) → b < 256 → Known n l → Known (suc n) (before b l)
unfolding Known before
known-before n b (ended bs) h q = let k : suc (length bs) ≤ suc n = omega arith in (cons-bytes h q.0, k)
known-before n b (cut k) h q = tt
known-before n b endless h q = tt

later-known : (n : ℕ) (s : List ℕ) → Bytes s → Known n (later_bytes n s)
unfolding Known later_bytes
later-known zero s h = tt
later-known (suc n) [] h = tt
later-known (suc n) (b ∷ s) h =
    split (lt-or-le b 128)
    (λ l. let k : 1 ≤ suc n = omega arith in rw (lt-ltb b 128 l) (cons-bytes (h.byte 0) none-bytes, k))
    (λ l. rw (le-ltb b 128 l) (known-before n b (later_bytes n s) (h.byte 0) (later-known n s (tail-bytes h))))

Told : Result (ℕ × ℕ) IntError → Type 0
Told (Ok (v, next)) = Unit {0}
Told (Err (Short k)) = Unit {0}
Told (Err (Overflow k)) = k ≡ 10

told-later : (at b : ℕ) (l : Later) → b < 256 → Known 9 l → Told (with_later at b l)
unfolding Known Told with_later
told-later at b (ended bs) h q =
    split (lt-or-le (length bs) 9)
    (λ l. rw (fitting-value (b + weighted 0 bs) (1 + length bs) (at + 1 + length bs) (nine-fit b bs h q.0 (omega arith))) tt)
    (λ l.
    split (lt-or-le (b + weighted 0 bs) (2 ^ 64))
    (λ f. rw (fitting-value (b + weighted 0 bs) (1 + length bs) (at + 1 + length bs) f) tt)
    (λ f. rw (fitting-over (b + weighted 0 bs) (1 + length bs) (at + 1 + length bs) f) (omega (arith, q.1))))
told-later at b (cut k) h q = tt
told-later at b endless h q = refl

first-told : (at : ℕ) (s : List ℕ) → Bytes s → Told (read_first at s)
unfolding Told read_first
first-told at [] h = tt
first-told at (b ∷ s) h =
    split (lt-or-le b 240)
    (λ l. rw (lt-ltb b 240 l) tt)
    (λ l. rw (le-ltb b 240 l) (told-later at b (later_bytes 9 s) (h.byte 0) (later-known 9 s (tail-bytes h))))

-- An overflow shows at the tenth byte.
pub overflow-looked : (s : List ℕ) (at k : ℕ) → Bytes s → read_int s at ≡ Err (Overflow k) → (k ≡ 10) × (at + 10 ≤ length s)
unfolding read_int Told
overflow-looked s at k h e =
    let t : k ≡ 10 = subst Told e (first-told at (drop at s) (drop-bytes at h)) in
    omega (arith, overflow-inside s at k e)
