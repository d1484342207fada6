-- The lines of a hello written one after the other, and how long it is.
use Rattle.std.specs.Prelude.{None, Some}
use Prim.Native.Nat.{ℕ, ◌+◌, ◌-◌, ◌^◌, ◌≤◌, ◌<◌}
use native.Mathlib.Omega.{arith}
use mathlib.Core.Path.{◌≡◌, ◌∙◌}
use mathlib.Core.List.{List, [], ◌∷◌, ◌++◌, append_assoc}
use mathlib.Core.Logic.{⊎_elim}
use lib.ListN.{length, length-append}
use borrow.Author.Rules.{rules}
use borrow.Author.Tests.{le-leb, lt-leb}
use Rattle.lists.specs.Lists.{front}
use Rattle.lists.proofs.Cases.{lt-or-le}
use Rattle.wire.specs.declared.writer.Writer.{Writer}
use Rattle.wire.specs.Writing.{Writes}
use Rattle.wire.proofs.Writing.{writes-joined, writes-as}
use Rattle.handshake.specs.Bytes.{ascii, decimal, room_with, written_to}
use Rattle.handshake.specs.Handshake.{greeting, version21, space, lf, spaced, sender_line, ended, hello_bytes}
use Rattle.handshake.proofs.Decimals.{decimal-few}

-- ---- `HAProxyS 2.1` is the hello's first line
abbrev pub first-line : List ℕ
first-line = ascii "HAProxyS 2.1"

hello-joined : (r l : List ℕ) (p q : ℕ) → ended first-line ++ (ended r ++ (l ++ (spaced p ++ (spaced q ++ (10 ∷ []))))) ≡ hello_bytes r l p q
unfolding hello_bytes greeting version21 sender_line ended lf
hello-joined r l p q = simp append_assoc

module _ {u v w : Writer} where
  pub line_written : {s : List ℕ} → Writes s u v → Writes (10 ∷ []) v w → Writes (ended s) u w
  unfolding ended lf
  line_written p q = writes-joined p q

  pub spaced_written : (n : ℕ) {d : List ℕ} → d ≡ decimal n → Writes (32 ∷ []) u v → Writes d v w → Writes (spaced n) u w
  unfolding spaced space
  spaced_written n e p q = writes-joined p (writes-as e q)

pub hello_written : (r : List ℕ) {l : List ℕ} (p q : ℕ) {t u v w x y z : Writer} → Writes (ended first-line) t u → Writes (ended r) u v → Writes l v w
    → Writes (spaced p) w x → Writes (spaced q) x y → Writes (10 ∷ []) y z → Writes (hello_bytes r l p q) t z
hello_written r {l} p q a b c d e f =
    writes-as (hello-joined r l p q) (writes-joined a (writes-joined b (writes-joined c (writes-joined d (writes-joined e f)))))

-- ---- how long it is
ended-length : (s : List ℕ) → length (ended s) ≡ length s + 1
unfolding ended lf
ended-length s = length-append s (10 ∷ [])

spaced-length : (n : ℕ) → length (spaced n) ≡ 1 + length (decimal n)
unfolding spaced space
spaced-length n = length-append (32 ∷ []) (decimal n)

sender-length : (s : List ℕ) (p q : ℕ) → length (sender_line s p q) ≡ length s + (length (spaced p) + length (spaced q))
unfolding sender_line
sender-length s p q = rw (length-append s (spaced p ++ spaced q), length-append (spaced p) (spaced q))

hello-length : (r l : List ℕ) (p q : ℕ) → length (hello_bytes r l p q) ≡ 14 + (length (ended r) + length (sender_line l p q))
unfolding hello_bytes greeting version21
hello-length r l p q =
    let a = length-append (ended first-line) (ended r ++ ended (sender_line l p q)) in
    let b = length-append (ended r) (ended (sender_line l p q)) in
    omega (arith, a, b, ended-length first-line, ended-length (sender_line l p q))

-- ---- in a room of any length
module _ (bytes room : List ℕ) where
  none_written : length room < length bytes → None ≡ written_to bytes room
  unfolding written_to
  none_written h = rw (lt-leb (length bytes) (length room) h)

  none-room : length room < length bytes → room ≡ room_with bytes room
  unfolding room_with
  none-room h = rw (lt-leb (length bytes) (length room) h)

  pub whole-written : (k : ℕ) → length bytes ≤ length room → k ≡ length bytes → Some k ≡ written_to bytes room
  unfolding written_to
  whole-written k h e = rw (le-leb (length bytes) (length room) h, e)

  -- where the writer leaves y
  pub whole_room : (x y : List ℕ) → length bytes ≤ length room → x ≡ y → y ≡ front bytes room → x ≡ room_with bytes room
  unfolding room_with
  whole_room x y h f e = rw (le-leb (length bytes) (length room) h) (f ∙ e)

pub hello-size : (r l : List ℕ) (p q : ℕ) → length (hello_bytes r l p q) ≡ 17 + (length r + (length l + (length (decimal p) + length (decimal q))))
hello-size r l p q = omega (arith, hello-length r l p q, ended-length r, sender-length l p q, spaced-length p, spaced-length q)

-- names of 32 bytes and numbers of 32 bits need 101 bytes at most
pub hello-most : (r l : List ℕ) (p q : ℕ) → length r ≤ 32 → length l ≤ 32 → p < 2 ^ 32 → q < 2 ^ 32 → length (hello_bytes r l p q) ≤ 101
hello-most r l p q hr hl hp hq =
    let a : p < 10 ^ 10 = omega arith in
    let b : q < 10 ^ 10 = omega arith in
    omega (arith, hello-size r l p q, decimal-few 9 p a, decimal-few 9 q b)

module _ (room r l : List ℕ) (p q : ℕ) where
  pub remote-written : (length r ≤ length room → ⊥) → None ≡ written_to (hello_bytes r l p q) room
  remote-written h = ⊎_elim (λ (m : length room < length r). none_written (hello_bytes r l p q) room (omega (arith, hello-size r l p q))) (λ m. absurd (h m)) (lt-or-le (length room) (length r))

  pub remote-room : (length r ≤ length room → ⊥) → room ≡ room_with (hello_bytes r l p q) room
  remote-room h = ⊎_elim (λ (m : length room < length r). none-room (hello_bytes r l p q) room (omega (arith, hello-size r l p q))) (λ m. absurd (h m)) (lt-or-le (length room) (length r))

  module _ (k : ℕ) (ek : k ≡ length room - length r) (f : length r ≤ length room) where
    pub local-written : (length l ≤ k → ⊥) → None ≡ written_to (hello_bytes r l p q) room
    local-written h = ⊎_elim (λ (m : k < length l). none_written (hello_bytes r l p q) room (omega (arith, hello-size r l p q))) (λ m. absurd (h m)) (lt-or-le k (length l))

    pub local-room : (length l ≤ k → ⊥) → room ≡ room_with (hello_bytes r l p q) room
    local-room h = ⊎_elim (λ (m : k < length l). none-room (hello_bytes r l p q) room (omega (arith, hello-size r l p q))) (λ m. absurd (h m)) (lt-or-le k (length l))

    module _ (m a b : ℕ) (em : m ≡ k - length l) (g : length l ≤ k) (ea : a ≡ length (decimal p)) (eb : b ≡ length (decimal q)) where
      pub rest-written : m < 17 + (a + b) → None ≡ written_to (hello_bytes r l p q) room
      rest-written h = none_written (hello_bytes r l p q) room (omega (arith, hello-size r l p q))

      pub rest-room : m < 17 + (a + b) → room ≡ room_with (hello_bytes r l p q) room
      rest-room h = none-room (hello_bytes r l p q) room (omega (arith, hello-size r l p q))

      pub hello-fits : 17 + (a + b) ≤ m → length (hello_bytes r l p q) ≤ length room
      hello-fits h = omega (arith, hello-size r l p q)

pub ruleset writing_hello = (rules, remote-written, remote-room, local-written, local-room)
