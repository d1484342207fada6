-- Reading the hello that a caller writes, as the addressed peer, is accepted with its process numbers.
use Rattle.std.specs.Prelude.{Ok}
use Prim.Native.Nat.{ℕ, zero, suc, ◌+◌, ◌-◌, ◌^◌, ◌≤◌, ◌<◌}
use native.Mathlib.Omega.{arith}
use mathlib.Core.Path.{◌≡◌, refl, sym, ap, ◌∙◌}
use mathlib.Core.List.{List, [], ◌∷◌, ◌++◌, append_assoc}
use mathlib.Core.Bool.{true, ◌&&◌}
use lib.Dec.{leb}
use lib.ListN.{length, take, length-append}
use lib.Seq.{take-append_seam, drop_at}
use borrow.Author.Tests.{lt-ltb, le-leb, leb-true, eq-eqb, ne_eqb}
use Rattle.handshake.specs.declared.Hello.TheVariants as hello
use Rattle.lists.specs.Lists.{eq_bytes}
use Rattle.handshake.specs.Bytes.{one_of, within, decimal, read_digits}
use Rattle.handshake.specs.Handshake.{name_ok, greeting, version20, version21, space, lf, spaced, sender_line, ended, hello_bytes, line_in, line_at, span, until_space, word, after_word, part_b, number_b, numbers_b, greets, judge_names, judge_numbers, judge_third, judge_lines, from_third, from_second, from_first, judge_hello}
use Rattle.lists.proofs.Cases.{and_first, and_second}
use Rattle.handshake.proofs.NameBytes.{within-head, within-tail}
use Rattle.handshake.proofs.Decimals.{within-append, decimal-some, decimal-few, decimal-within, decimal-reads}
use Rattle.handshake.proofs.writing.Putting.{first-line}

-- ---- byte strings
pub eq-same : (s : List ℕ) → eq_bytes s s ≡ true
unfolding eq_bytes
eq-same [] = refl
eq-same (b ∷ s) = rw (eq-eqb b b refl) (eq-same s)

within_wider : (lo hi lo' hi' : ℕ) (s : List ℕ) → lo' ≤ lo → hi ≤ hi' → within lo hi s ≡ true → within lo' hi' s ≡ true
unfolding within
within_wider lo hi lo' hi' [] p q w = refl
within_wider lo hi lo' hi' (b ∷ s) p q w =
    let h = within-head lo hi b s w in
    let d : lo' ≤ b = omega arith in
    let e : b ≤ hi' = omega arith in
    rw (le-leb lo' b d, le-leb b hi' e) (within_wider lo hi lo' hi' s p q (within-tail lo hi b s w))

-- ---- a line of such bytes, at the end of what stands before it
line-in : (n at : ℕ) (x t : List ℕ) → within 32 126 x ≡ true → length x ≤ n → line_in n at (x ++ (10 ∷ t)) ≡ Ok (at + length x)
unfolding line_in
line-in zero at [] t w h = let e : at + 0 ≡ at = omega arith in rw e
line-in zero at (b ∷ x) t w h = absurd (omega arith)
line-in (suc n) at [] t w h = let e : at + 0 ≡ at = omega arith in rw e
line-in (suc n) at (b ∷ x) t w h =
    let k = within-head 32 126 b x w in
    let d : b ≡ 10 → ⊥ = λ e. omega arith in
    let e : at + 1 + length x ≡ at + suc (length x) = omega arith in
    rw (ne_eqb b 10 d) (line-in n (at + 1) x t (within-tail 32 126 b x w) (omega arith) ∙ ap Ok e)

module _ (u pre x t : List ℕ) (n : ℕ) (e : u ≡ pre ++ (x ++ (10 ∷ t))) (f : length pre ≡ n) where
  line-at : within 32 126 x ≡ true → length x ≤ 64 → line_at u n ≡ Ok (n + length x)
  unfolding line_at
  line-at w h = rw (e, drop_at pre (x ++ (10 ∷ t)) n f) (line-in 64 n x t w h)

  span-at : span n (n + length x) u ≡ x
  unfolding span
  span-at =
      let k : n + length x - n ≡ length x = omega arith in
      rw (e, drop_at pre (x ++ (10 ∷ t)) n f, k) (take-append_seam x (10 ∷ t))

-- ---- a part and the space after it
until-in : (x t : List ℕ) → within 33 126 x ≡ true → until_space (x ++ (32 ∷ t)) ≡ length x
unfolding until_space
until-in [] t w = refl
until-in (b ∷ x) t w =
    let k = within-head 33 126 b x w in
    let d : b ≡ 32 → ⊥ = λ e. omega arith in
    rw (ne_eqb b 32 d) (ap suc (until-in x t (within-tail 33 126 b x w)))

module _ (x t : List ℕ) (w : within 33 126 x ≡ true) where
  word_in : word (x ++ (32 ∷ t)) ≡ x
  unfolding word
  word_in = rw (until-in x t w) (take-append_seam x (32 ∷ t))

  after-in : after_word (x ++ (32 ∷ t)) ≡ t
  unfolding after_word
  after-in =
      let s : x ++ (32 ∷ t) ≡ (x ++ (32 ∷ [])) ++ t = sym (append_assoc x (32 ∷ []) t) in
      rw (until-in x t w, s) (drop_at (x ++ (32 ∷ [])) t (length x + 1) (length-append x (32 ∷ [])))

  part_in : 1 ≤ length x → part_b (x ++ (32 ∷ t)) ≡ true
  unfolding part_b
  part_in h =
      let a : 0 < length x = omega arith in
      let b : length x < length (x ++ (32 ∷ t)) = omega (arith, length-append x (32 ∷ t)) in
      rw (until-in x t w, lt-ltb 0 (length x) a) (lt-ltb (length x) (length (x ++ (32 ∷ t))) b)

-- ---- a number
module _ (n : ℕ) (h : n < 2 ^ 32) where
  digits-few : length (decimal n) ≤ 10
  digits-few = let k : n < 10 ^ 10 = omega arith in decimal-few 9 n k

  digits-read : read_digits 0 (decimal n) ≡ n
  digits-read = decimal-reads n (omega arith)

  digits-graphic : within 33 126 (decimal n) ≡ true
  digits-graphic = within_wider 48 57 33 126 (decimal n) (omega arith) (omega arith) (decimal-within n)

  digits_number : number_b (decimal n) ≡ true
  unfolding number_b
  digits_number =
      let k : n ≤ 4294967295 = omega arith in
      rw (le-leb 1 (length (decimal n)) (decimal-some n), le-leb (length (decimal n)) 10 digits-few, decimal-within n, digits-read)
      (le-leb n 4294967295 k)

-- ---- a name
module _ (s : List ℕ) (h : name_ok s ≡ true) where
  pub name-some : 1 ≤ length s
  unfolding name_ok
  name-some = leb-true 1 (length s) (and_first (leb 1 (length s)) (leb (length s) 32 && within 33 126 s) h)

  name-rest : (leb (length s) 32 && within 33 126 s) ≡ true
  unfolding name_ok
  name-rest = and_second (leb 1 (length s)) (leb (length s) 32 && within 33 126 s) h

  pub name-most : length s ≤ 32
  name-most = leb-true (length s) 32 (and_first (leb (length s) 32) (within 33 126 s) name-rest)

  pub name-graphic : within 33 126 s ≡ true
  name-graphic = and_second (leb (length s) 32) (within 33 126 s) name-rest

space-graphic : within 32 126 (32 ∷ []) ≡ true
unfolding within
space-graphic = refl

first-graphic : within 32 126 first-line ≡ true
unfolding within
first-graphic = refl

first_ended : length (ended first-line) ≡ 13
unfolding ended lf
first_ended = refl

-- ---- the lines
module _ (r l : List ℕ) (p q : ℕ) (hr : name_ok r ≡ true) (hl : name_ok l ≡ true) (hp : p < 2 ^ 32) (hq : q < 2 ^ 32) where
  -- the sender's line, and what follows the name
  rest : List ℕ
  rest = decimal p ++ (32 ∷ decimal q)

  sender-is : sender_line l p q ≡ l ++ (32 ∷ rest)
  unfolding sender_line spaced space rest
  sender-is = refl

  numbers-read : judge_numbers r l version21 r l rest ≡ hello.Accepted p q
  unfolding judge_numbers numbers_b rest judge_names one_of eq_bytes version20 version21
  numbers-read =
      rw
      (part_in (decimal p) (decimal q) (digits-graphic p hp) (decimal-some p), word_in (decimal p) (decimal q) (digits-graphic p hp), after-in (decimal p) (decimal q) (digits-graphic p hp), digits_number p hp, digits_number q hq, digits-read p hp, digits-read q hq, eq-same r, eq-same l)

  third-read : judge_third r l version21 r (sender_line l p q) ≡ hello.Accepted p q
  unfolding judge_third
  third-read =
      rw (sender-is, part_in l rest (name-graphic l hl) (name-some l hl), word_in l rest (name-graphic l hl), after-in l rest (name-graphic l hl))
      numbers-read

  lines-read : judge_lines r l first-line r (sender_line l p q) ≡ hello.Accepted p q
  unfolding judge_lines greets greeting eq_bytes version21
  lines-read =
      let h : 0 < length r = omega (arith, name-some r hr) in
      rw (lt-ltb 0 (length r) h) third-read

  sender-graphic : within 32 126 (sender_line l p q) ≡ true
  unfolding rest
  sender-graphic =
      rw sender-is
      (within-append 32 126 l (32 ∷ rest) (wider l (name-graphic l hl)) (ahead rest (within-append 32 126 (decimal p) (32 ∷ decimal q) (wider (decimal p) (digits-graphic p hp)) (ahead (decimal q) (wider (decimal q) (digits-graphic q hq))))))
    where
      wider : (s : List ℕ) → within 33 126 s ≡ true → within 32 126 s ≡ true
      wider s w = within_wider 33 126 32 126 s (omega arith) (omega arith) w

      ahead : (s : List ℕ) → within 32 126 s ≡ true → within 32 126 (32 ∷ s) ≡ true
      ahead s w = within-append 32 126 (32 ∷ []) s space-graphic w

  sender-length : length (sender_line l p q) ≤ 64
  unfolding rest
  sender-length =
      rw sender-is
      (omega (arith, length-append l (32 ∷ rest), length-append (decimal p) (32 ∷ decimal q), name-most l hl, digits-few p hp, digits-few q hq))

  -- the hello, cut at each line
  cut-first : hello_bytes r l p q ≡ [] ++ (first-line ++ (10 ∷ (ended r ++ ended (sender_line l p q))))
  unfolding hello_bytes greeting version21 ended lf
  cut-first = refl

  cut-second : hello_bytes r l p q ≡ ended first-line ++ (r ++ (10 ∷ ended (sender_line l p q)))
  unfolding hello_bytes greeting version21 ended lf
  cut-second = ap (λ (s : List ℕ). ended first-line ++ s) (append_assoc r (10 ∷ []) (ended (sender_line l p q)))

  cut-third : hello_bytes r l p q ≡ (ended first-line ++ ended r) ++ (sender_line l p q ++ (10 ∷ []))
  unfolding hello_bytes greeting version21 ended lf
  cut-third = sym (append_assoc (ended first-line) (ended r) (ended (sender_line l p q)))

  second-length : length (ended first-line ++ ended r) ≡ 13 + length r + 1
  unfolding ended lf
  second-length = omega (arith, length-append (ended first-line) (ended r), length-append r (10 ∷ []))

  first_found : line_at (hello_bytes r l p q) 0 ≡ Ok 12
  first_found = line-at (hello_bytes r l p q) [] first-line (ended r ++ ended (sender_line l p q)) 0 cut-first refl first-graphic (omega arith)

  second-found : line_at (hello_bytes r l p q) 13 ≡ Ok (13 + length r)
  second-found =
      line-at (hello_bytes r l p q) (ended first-line) r (ended (sender_line l p q)) 13 cut-second first_ended
      (within_wider 33 126 32 126 r (omega arith) (omega arith) (name-graphic r hr))
      (omega (arith, name-most r hr))

  third-found : line_at (hello_bytes r l p q) (13 + length r + 1) ≡ Ok (13 + length r + 1 + length (sender_line l p q))
  third-found =
      line-at (hello_bytes r l p q) (ended first-line ++ ended r) (sender_line l p q) [] (13 + length r + 1) cut-third second-length
      sender-graphic
      sender-length

  first_taken : take 12 (hello_bytes r l p q) ≡ first-line
  first_taken = rw cut-first

  second-taken : span 13 (13 + length r) (hello_bytes r l p q) ≡ r
  second-taken = span-at (hello_bytes r l p q) (ended first-line) r (ended (sender_line l p q)) 13 cut-second first_ended

  third-taken : span (13 + length r + 1) (13 + length r + 1 + length (sender_line l p q)) (hello_bytes r l p q) ≡ sender_line l p q
  third-taken = span-at (hello_bytes r l p q) (ended first-line ++ ended r) (sender_line l p q) [] (13 + length r + 1) cut-third second-length

  -- r reads what l wrote to it
  pub hello-trip : judge_hello r l (hello_bytes r l p q) ≡ hello.Accepted p q
  unfolding judge_hello from_first from_second from_third
  hello-trip = rw (first_found, second-found, third-found, first_taken, second-taken, third-taken) lines-read
