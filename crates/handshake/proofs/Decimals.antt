-- The decimal digits of a number: how many there are, that they are digits, and that they read back.
use Prim.Native.Nat.{ℕ, zero, suc, ◌+◌, ◌*◌, ◌-◌, ◌/◌, ◌%◌, ◌^◌, ◌≤◌, ◌<◌}
use native.Mathlib.Omega.{arith}
use native.Mathlib.Nat.{pow-suc}
use mathlib.Core.Logic.{⊎_elim}
use mathlib.Core.Path.{◌≡◌, refl}
use mathlib.Core.List.{List, [], ◌∷◌, ◌++◌}
use mathlib.Core.Bool.{true}
use lib.ListN.{length, length-append}
use borrow.Author.Tests.{lt-ltb, le-ltb, le-leb}
use Rattle.handshake.proofs.NameBytes.{within-head, within-tail}
use Rattle.handshake.specs.Bytes.{within, decimal_in, decimal, read_digits}
use Rattle.lists.proofs.Cases.{lt-or-le}

-- ---- the rule, case by case
pub decimal-last : (f g n : ℕ) → f ≡ suc g → n < 10 → decimal_in f n ≡ (48 + n) ∷ []
unfolding decimal_in
decimal-last f g n e h = rw (e, lt-ltb n 10 h)

pub decimal-more : (f g n : ℕ) → f ≡ suc g → 10 ≤ n → decimal_in f n ≡ decimal_in g (n / 10) ++ ((48 + n % 10) ∷ [])
unfolding decimal_in
decimal-more f g n e h = rw (e, le-ltb n 10 h)

-- a number of g + 1 digits without its last one
pub shrinks : (f g n : ℕ) → f ≡ suc g → n < 10 ^ f → n / 10 < 10 ^ g
shrinks f g n e h = omega (arith, rw (e, pow-suc) at h)

-- ---- how many digits there are
some_in : (f n : ℕ) → 1 ≤ length (decimal_in (suc f) n)
some_in f n =
    ⊎_elim
    (λ l. rw (decimal-last (suc f) f n refl l) (omega arith))
    (λ l. rw (decimal-more (suc f) f n refl l, length-append) (omega arith))
    (lt-or-le n 10)

few-in : (f k n : ℕ) → n < 10 ^ suc k → length (decimal_in f n) ≤ suc k
unfolding decimal_in
few-in zero k n h = omega arith
few-in (suc f) zero n h =
    let l : n < 10 = omega arith in
    rw (lt-ltb n 10 l) (omega arith)
few-in (suc f) (suc k) n h =
    ⊎_elim
    (λ l. rw (lt-ltb n 10 l) (omega arith))
    (λ l. rw (le-ltb n 10 l, length-append) (omega (arith, few-in f k (n / 10) (shrinks (suc (suc k)) (suc k) n refl h))))
    (lt-or-le n 10)

pub decimal-some : (n : ℕ) → 1 ≤ length (decimal n)
unfolding decimal
decimal-some n = some_in 19 n

-- a number below 10 ^ (k + 1) has k + 1 digits at most
pub decimal-few : (k n : ℕ) → n < 10 ^ suc k → length (decimal n) ≤ suc k
unfolding decimal
decimal-few k n h = few-in 20 k n h

-- ---- they are digits
pub within-append : (lo hi : ℕ) (s t : List ℕ) → within lo hi s ≡ true → within lo hi t ≡ true → within lo hi (s ++ t) ≡ true
unfolding within
within-append lo hi [] t p q = q
within-append lo hi (b ∷ s) t p q =
    let h = within-head lo hi b s p in
    rw (le-leb lo b h.0, le-leb b hi h.1) (within-append lo hi s t (within-tail lo hi b s p) q)

digit-in : (d : ℕ) → d < 10 → within 48 57 ((48 + d) ∷ []) ≡ true
unfolding within
digit-in d h =
    let a : 48 ≤ 48 + d = omega arith in
    let b : 48 + d ≤ 57 = omega arith in
    rw (le-leb 48 (48 + d) a, le-leb (48 + d) 57 b)

digits_in : (f n : ℕ) → within 48 57 (decimal_in f n) ≡ true
unfolding decimal_in within
digits_in zero n = refl
digits_in (suc f) n =
    ⊎_elim
    (λ l. rw (lt-ltb n 10 l) (digit-in n l))
    (λ l.
    let m : n % 10 < 10 = omega arith in
    rw (le-ltb n 10 l) (within-append 48 57 (decimal_in f (n / 10)) ((48 + n % 10) ∷ []) (digits_in f (n / 10)) (digit-in (n % 10) m)))
    (lt-or-le n 10)

pub decimal-within : (n : ℕ) → within 48 57 (decimal n) ≡ true
unfolding decimal
decimal-within n = digits_in 20 n

-- ---- reading them gives the number
read-snoc : (a : ℕ) (s : List ℕ) (d : ℕ) → read_digits a (s ++ (d ∷ [])) ≡ read_digits a s * 10 + (d - 48)
unfolding read_digits
read-snoc a [] d = refl
read-snoc a (b ∷ s) d = read-snoc (a * 10 + (b - 48)) s d

read-last : (n : ℕ) → read_digits 0 ((48 + n) ∷ []) ≡ n
unfolding read_digits
read-last n = omega arith

reads_in : (f n : ℕ) → n < 10 ^ suc f → read_digits 0 (decimal_in (suc f) n) ≡ n
reads_in zero n h =
    let l : n < 10 = omega arith in
    rw (decimal-last 1 0 n refl l) (read-last n)
reads_in (suc f) n h =
    ⊎_elim
    (λ l. rw (decimal-last (suc (suc f)) (suc f) n refl l) (read-last n))
    (λ l.
    let e : n / 10 * 10 + (48 + n % 10 - 48) ≡ n = omega arith in
    rw
    (decimal-more (suc (suc f)) (suc f) n refl l, read-snoc 0 (decimal_in (suc f) (n / 10)) (48 + n % 10), reads_in f (n / 10) (shrinks (suc (suc f)) (suc f) n refl h))
    e)
    (lt-or-le n 10)

pub decimal-reads : (n : ℕ) → n < 2 ^ 64 → read_digits 0 (decimal n) ≡ n
unfolding decimal
decimal-reads n h = let k : n < 10 ^ 20 = omega arith in reads_in 19 n k
