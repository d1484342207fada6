-- Laws of hello and status that layers above cite: every first part of waiting bytes waits, waiting bytes are few, and the numbers of
-- refusals.
use Rattle.std.specs.Prelude.{Err, Ok, Result}
use Prim.Native.Nat.{ℕ, zero, suc, ◌+◌, ◌-◌, ◌^◌, ◌≤◌, ◌<◌}
use native.Mathlib.Omega.{arith}
use mathlib.Core.Logic.{⊎_elim}
use mathlib.Core.Path.{◌≡◌, refl, sym, subst, ◌∙◌}
use mathlib.Core.List.{List, [], ◌∷◌, ◌++◌}
use mathlib.Core.Bool.{true, ◌&&◌}
use lib.Dec.{ltb, leb, eqb}
use lib.ListN.{length, take, drop, length-append, length-drop, drop_of_length-le}
use lib.Seq.{take-append-le, drop-append-le}
use borrow.Author.Tests.{lt-ltb, le-ltb, leb-true}
use Rattle.handshake.specs.declared.LineError.{LineError}
use Rattle.handshake.specs.declared.LineError.TheVariants as line
use Rattle.handshake.specs.declared.Hello.{Hello}
use Rattle.handshake.specs.declared.Hello.TheVariants as hello
use Rattle.handshake.specs.declared.Status.{Status}
use Rattle.handshake.specs.declared.Status.TheVariants as status
use Rattle.lists.specs.Lists.{eq_bytes}
use Rattle.handshake.specs.Bytes.{one_of, within, read_digits}
use Rattle.handshake.specs.Handshake.{line_in, line_at, span, word, after_word, part_b, number_b, numbers_b, version20, version21, greets, judge_names, judge_numbers, judge_third, judge_lines, from_third, from_second, from_first, judge_hello, status_line, failure_lines, judge_four, judge_status}
use Rattle.lists.proofs.Cases.{by-test, lt-or-le, and_first, and_second}
use Rattle.handshake.proofs.LineEnds.{line-ends, line-waits}

-- ---- a line that ended, or is too long, stays so with more bytes
KeptLine : Result ℕ LineError → Result ℕ LineError → Type 0
KeptLine (Ok p) y = y ≡ Ok p
KeptLine (Err line.Open) y = Unit {0}
KeptLine (Err line.TooLong) y = y ≡ (Err line.TooLong)

kept_in : (n at : ℕ) (s t : List ℕ) → KeptLine (line_in n at s) (line_in n at (s ++ t))
unfolding KeptLine line_in
kept_in zero at [] t = tt
kept_in zero at (b ∷ s) t = by-test (eqb b 10) (λ h. rw h refl) (λ h. rw h refl)
kept_in (suc n) at [] t = tt
kept_in (suc n) at (b ∷ s) t = by-test (eqb b 10) (λ h. rw h refl) (λ h. rw h (kept_in n (at + 1) s t))

kept_line : (u v : List ℕ) (at : ℕ) → KeptLine (line_at u at) (line_at (u ++ v) at)
unfolding KeptLine line_at line_in
kept_line u v at =
    ⊎_elim
    (λ h. let k : length u ≤ at = omega arith in rw (drop_of_length-le u k) tt)
    (λ h. rw (drop-append-le at u v h) (kept_in 64 at (drop at u) v))
    (lt-or-le (length u) at)

-- ---- the same of a hello
KeptHello : Hello → Hello → Type 0
KeptHello hello.Waiting y = Unit {0}
KeptHello (hello.Accepted p q) y = y ≡ hello.Accepted p q
KeptHello (hello.Refused n) y = y ≡ hello.Refused n

kept_refl : (x : Hello) → KeptHello x x
unfolding KeptHello
kept_refl hello.Waiting = tt
kept_refl (hello.Accepted p q) = refl
kept_refl (hello.Refused n) = refl

span_more : (u v : List ℕ) (from to : ℕ) → from ≤ to → to ≤ length u → span from to (u ++ v) ≡ span from to u
unfolding span
span_more u v from to h k =
    let a : from ≤ length u = omega arith in
    let b : to - from ≤ length (drop from u) = omega (arith, length-drop from u) in
    rw (drop-append-le from u v a) (take-append-le (to - from) (drop from u) v b)

module _ (l r u v : List ℕ) where
  kept-third : (p q : ℕ) (x y : Result ℕ LineError) → p < length u → p + 1 ≤ q → q < length u → line_at u (q + 1) ≡ x → KeptLine x y → KeptHello (from_third l r u p q x) (from_third l r (u ++ v) p q y)
  unfolding KeptLine KeptHello from_third
  kept-third p q (Ok e) y h₁ h₂ h₃ f k =
      let b = line-ends u (q + 1) e f in
      let b₁ : q + 1 ≤ e = omega arith in
      let b₂ : e ≤ length u = omega arith in
      let b₃ : p ≤ length u = omega arith in
      let b₄ : q ≤ length u = omega arith in
      rw (k, take-append-le p u v b₃, span_more u v (p + 1) q h₂ b₄, span_more u v (q + 1) e b₁ b₂)
      (kept_refl (judge_lines l r (take p u) (span (p + 1) q u) (span (q + 1) e u)))
  kept-third p q (Err line.Open) y h₁ h₂ h₃ f k = tt
  kept-third p q (Err line.TooLong) y h₁ h₂ h₃ f k = rw k refl

  kept_second : (p : ℕ) (x y : Result ℕ LineError) → p < length u → line_at u (p + 1) ≡ x → KeptLine x y → KeptHello (from_second l r u p x) (from_second l r (u ++ v) p y)
  unfolding KeptLine KeptHello from_second
  kept_second p (Ok q) y h f k =
      let b = line-ends u (p + 1) q f in
      rw k (kept-third p q (line_at u (q + 1)) (line_at (u ++ v) (q + 1)) h b.0 b.2 refl (kept_line u v (q + 1)))
  kept_second p (Err line.Open) y h f k = tt
  kept_second p (Err line.TooLong) y h f k = rw k refl

  kept-first : (x y : Result ℕ LineError) → line_at u 0 ≡ x → KeptLine x y → KeptHello (from_first l r u x) (from_first l r (u ++ v) y)
  unfolding KeptLine KeptHello from_first
  kept-first (Ok p) y f k =
      rw k (kept_second p (line_at u (p + 1)) (line_at (u ++ v) (p + 1)) (line-ends u 0 p f).2 refl (kept_line u v (p + 1)))
  kept-first (Err line.Open) y f k = tt
  kept-first (Err line.TooLong) y f k = rw k refl

  kept-hello : KeptHello (judge_hello l r u) (judge_hello l r (u ++ v))
  unfolding judge_hello
  kept-hello = kept-first (line_at u 0) (line_at (u ++ v) 0) refl (kept_line u v 0)

waited : (x y : Hello) → KeptHello x y → y ≡ hello.Waiting → x ≡ hello.Waiting
unfolding KeptHello
waited hello.Waiting y k e = refl
waited (hello.Accepted p q) y k e = sym k ∙ e
waited (hello.Refused m) y k e = sym k ∙ e

-- each first part of a waiting hello waits
pub hello-waited : (l r u v : List ℕ) → judge_hello l r (u ++ v) ≡ hello.Waiting → judge_hello l r u ≡ hello.Waiting
hello-waited l r u v e = waited (judge_hello l r u) (judge_hello l r (u ++ v)) (kept-hello l r u v) e

pub hello-empty : (l r : List ℕ) → judge_hello l r [] ≡ hello.Waiting
unfolding judge_hello from_first line_at line_in
hello-empty l r = refl

-- ---- of a status
status-judged : (u v : List ℕ) → 4 ≤ length u → judge_status (u ++ v) ≡ judge_status u
unfolding judge_status
status-judged u v h =
    let k : 4 ≤ length (u ++ v) = omega (arith, length-append u v) in
    rw (le-ltb (length u) 4 h, le-ltb (length (u ++ v)) 4 k, take-append-le 4 u v h)

pub status-waited : (u v : List ℕ) → judge_status (u ++ v) ≡ status.Waiting → judge_status u ≡ status.Waiting
unfolding judge_status
status-waited u v e =
    ⊎_elim
    (λ h. rw (lt-ltb (length u) 4 h))
    (λ h. sym (status-judged u v h) ∙ e)
    (lt-or-le (length u) 4)

pub status-empty : judge_status [] ≡ status.Waiting
unfolding judge_status
status-empty = refl

-- ---- what holds of every hello that was judged: one that waits is short, and the numbers are within their limits
unfoldable pub HelloIs : ℕ → Hello → Type 0
HelloIs len hello.Waiting = len ≤ 194
HelloIs len (hello.Accepted p q) = (p < 2 ^ 32) × (q < 2 ^ 32)
HelloIs len (hello.Refused n) = (10 ≤ n) × (n ≤ 13)

number_small : (s : List ℕ) → number_b s ≡ true → read_digits 0 s < 2 ^ 32
unfolding number_b
number_small s h =
    let a = and_second (leb 1 (length s)) _ h in
    let b = and_second (leb (length s) 10) _ a in
    let c = leb-true (read_digits 0 s) 4294967295 (and_second (within 48 57 s) _ b) in
    omega arith

module _ (n : ℕ) where
  names-are : (l r v t s : List ℕ) (p q : ℕ) → p < 2 ^ 32 → q < 2 ^ 32 → HelloIs n (judge_names l r v t s p q)
  unfolding HelloIs judge_names
  names-are l r v t s p q hp hq =
      by-test (one_of v (version20 ∷ version21 ∷ []))
      (λ a. rw a (by-test (eq_bytes t l) (λ b. rw b (by-test (eq_bytes s r) (λ c. rw c (hp, hq)) (λ c. rw c (omega arith)))) (λ b. rw b (omega arith))))
      (λ a. rw a (omega arith))

  numbers-are : (l r v t s rest : List ℕ) → HelloIs n (judge_numbers l r v t s rest)
  unfolding HelloIs judge_numbers numbers_b
  numbers-are l r v t s rest =
      by-test (numbers_b rest)
      (λ h.
      let a = and_second (part_b rest) _ h in
      rw h (names-are l r v t s _ _ (number_small (word rest) (and_first _ _ a)) (number_small (after_word rest) (and_second (number_b (word rest)) _ a))))
      (λ h. rw h (omega arith))

  third-is : (l r v t s : List ℕ) → HelloIs n (judge_third l r v t s)
  unfolding HelloIs judge_third
  third-is l r v t s = by-test (part_b s) (λ h. rw h (numbers-are l r v t (word s) (after_word s))) (λ h. rw h (omega arith))

  lines_are : (l r a b c : List ℕ) → HelloIs n (judge_lines l r a b c)
  unfolding HelloIs judge_lines
  lines_are l r a b c =
      by-test (greets a && ltb 0 (length b)) (λ h. rw h (third-is l r (drop 9 a) b c)) (λ h. rw h (omega arith))

module _ (l r u : List ℕ) where
  is-third : (p q : ℕ) (x : Result ℕ LineError) → q ≤ 129 → line_at u (q + 1) ≡ x → HelloIs (length u) (from_third l r u p q x)
  unfolding HelloIs from_third
  is-third p q (Ok e) h f = lines_are (length u) l r (take p u) (span (p + 1) q u) (span (q + 1) e u)
  is-third p q (Err line.Open) h f = omega (arith, line-waits u (q + 1) f)
  is-third p q (Err line.TooLong) h f = omega arith

  is-second : (p : ℕ) (x : Result ℕ LineError) → p ≤ 64 → line_at u (p + 1) ≡ x → HelloIs (length u) (from_second l r u p x)
  unfolding HelloIs from_second
  is-second p (Ok q) h f =
      let b = line-ends u (p + 1) q f in
      is-third p q (line_at u (q + 1)) (omega arith) refl
  is-second p (Err line.Open) h f = omega (arith, line-waits u (p + 1) f)
  is-second p (Err line.TooLong) h f = omega arith

  is-first : (x : Result ℕ LineError) → line_at u 0 ≡ x → HelloIs (length u) (from_first l r u x)
  unfolding HelloIs from_first
  is-first (Ok p) f =
      let b = line-ends u 0 p f in
      is-second p (line_at u (p + 1)) (omega arith) refl
  is-first (Err line.Open) f = omega (arith, line-waits u 0 f)
  is-first (Err line.TooLong) f = omega arith

pub hello-is : (l r u : List ℕ) → HelloIs (length u) (judge_hello l r u)
unfolding judge_hello
hello-is l r u = is-first l r u (line_at u 0) refl

-- a waiting hello has 194 bytes at most
pub hello-short : (l r u : List ℕ) → judge_hello l r u ≡ hello.Waiting → length u ≤ 194
unfolding HelloIs
hello-short l r u e = subst (HelloIs (length u)) e (hello-is l r u)

-- the number of a refused one is 10, 11, 12 or 13
pub hello-refusal : (l r u : List ℕ) (n : ℕ) → judge_hello l r u ≡ hello.Refused n → (10 ≤ n) × (n ≤ 13)
unfolding HelloIs
hello-refusal l r u n e = subst (HelloIs (length u)) e (hello-is l r u)

-- ---- the same of a status
unfoldable pub StatusIs : ℕ → Status → Type 0
StatusIs len status.Waiting = len ≤ 3
StatusIs len status.Accepted = Unit {0}
StatusIs len (status.Refused n) = (14 ≤ n) × (n ≤ 15)

four_is : (len : ℕ) (s : List ℕ) → StatusIs len (judge_four s)
unfolding StatusIs judge_four
four_is len s =
    by-test (one_of s (status_line 200 ∷ failure_lines))
    (λ a. rw a (by-test (eq_bytes s (status_line 200)) (λ b. rw b tt) (λ b. rw b (omega arith))))
    (λ a. rw a (omega arith))

pub status-is : (u : List ℕ) → StatusIs (length u) (judge_status u)
unfolding StatusIs judge_status
status-is u =
    ⊎_elim
    (λ h. rw (lt-ltb (length u) 4 h) (omega arith))
    (λ h. rw (le-ltb (length u) 4 h) (four_is (length u) (take 4 u)))
    (lt-or-le (length u) 4)

pub status-short : (u : List ℕ) → judge_status u ≡ status.Waiting → length u ≤ 3
unfolding StatusIs
status-short u e = subst (StatusIs (length u)) e (status-is u)

pub status-refusal : (u : List ℕ) (n : ℕ) → judge_status u ≡ status.Refused n → (14 ≤ n) × (n ≤ 15)
unfolding StatusIs
status-refusal u n e = subst (StatusIs (length u)) e (status-is u)
