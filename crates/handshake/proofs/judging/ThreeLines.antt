-- Each way to judge a hello by its three lines, and by where they end.
use Rattle.std.specs.Prelude.{IsErr, IsErrAnd, Err, Ok, Result}
use Prim.Native.Nat.{ℕ, ◌+◌, ◌-◌, ◌^◌, ◌≤◌, ◌<◌}
use native.Mathlib.Omega.{arith}
use mathlib.Core.Path.{◌≡◌, sym, ap, ◌∙◌}
use mathlib.Core.List.{List}
use mathlib.Core.Bool.{Bool, true, false, not}
use lib.ListN.{length, take, drop, length-drop}
use lib.Seq.{length-take-le, take_all}
use borrow.Author.Rules.{rules}
use borrow.Author.Tests.{lt-ltb, le-ltb, not-true, not-false}
use mir.Syntax.{w64}
use mir.Val.{Fits}
use Rattle.handshake.specs.Bytes.{ascii}
use Rattle.handshake.specs.declared.Hello.{Hello}
use Rattle.handshake.specs.declared.Hello.TheVariants as hello
use Rattle.lists.specs.Lists.{eq_bytes}
use Rattle.handshake.specs.Handshake.{greeting, judge_third, greets, judge_lines, line_at, span, from_first, from_second, from_third, judge_hello, hello_error, either}
use Rattle.handshake.specs.declared.LineError.{LineError}
use Rattle.handshake.specs.declared.LineError.TheVariants as line
use Rattle.handshake.proofs.LineEnds.{line-ends}

-- ---- the three lines
module _ (l r a b c : List ℕ) where
  pub lines-short : length a ≤ 9 → hello.Refused 10 ≡ judge_lines l r a b c
  unfolding judge_lines greets
  lines-short h = rw (le-ltb 9 (length a) h)

  module _ (h : 9 < length a) (t : Bool) (e : t ≡ eq_bytes (take 9 a) (ascii "HAProxyS ")) where
    pub lines_other : not t ≡ true → hello.Refused 10 ≡ judge_lines l r a b c
    unfolding judge_lines greets greeting
    lines_other n = rw (lt-ltb 9 (length a) h, ← e, not-true t n)

    pub lines-empty : not t ≡ false → length b < 1 → hello.Refused 10 ≡ judge_lines l r a b c
    unfolding judge_lines greets greeting
    lines-empty n k = rw (lt-ltb 9 (length a) h, ← e, not-false t n, le-ltb 0 (length b) (omega arith))

    pub lines-third : (o : Hello) → not t ≡ false → 1 ≤ length b → o ≡ judge_third l r (take (length a - 9) (drop 9 a)) b c → o ≡ judge_lines l r a b c
    unfolding judge_lines greets greeting
    lines-third o n k w =
        rw (lt-ltb 9 (length a) h, ← e, not-false t n, lt-ltb 0 (length b) (omega arith))
        (w ∙ ap (λ (x : List ℕ). judge_third l r x b c) (take_all (length a - 9) (drop 9 a) (omega (arith, length-drop 9 a))))

pub lines-count : (a : List ℕ) → 9 < length a → 9 ≡ length (take 9 a)
lines-count a h = sym (length-take-le 9 a (omega arith))

pub ruleset judging_lines = (rules, lines-short, lines_other, lines-empty, lines-third, lines-count)

-- ---- positions
module _ (u : List ℕ) (at p : ℕ) (x : Result ℕ LineError) (e : x ≡ line_at u at) (f : x ≡ Ok p) where
  pub end_after : at ≤ p
  end_after = (line-ends u at p (sym e ∙ f)).0

  pub end-within : p ≤ length u
  end-within = omega (arith, line-ends u at p (sym e ∙ f))

  pub next_fits : length u < 2 ^ 64 → Fits w64 (p + 1)
  next_fits h = omega (arith, line-ends u at p (sym e ∙ f))

  pub end-count : p ≡ length (take p u)
  end-count = sym (length-take-le p u end-within)

  pub span-count : p - at ≡ length (take (p - at) (drop at u))
  span-count = sym (length-take-le (p - at) (drop at u) (omega (arith, length-drop at u, end-within)))

-- ---- answers
-- an error that `?` hands on as h
pub handed : (r : Result Hello Hello) (h g : Hello) → IsErr r × IsErrAnd r (λ x. x ≡ h) → h ≡ g → either r ≡ g
handed (Ok x) h g e q = absurd e.1
handed (Err x) h g e q = e.1 ∙ q

module _ (l r u : List ℕ) (x : Result ℕ LineError) (ex : x ≡ line_at u 0) where
  pub first-err : (e : LineError) → x ≡ Err e → hello_error e ≡ judge_hello l r u
  unfolding judge_hello from_first
  first-err line.Open f = rw (← ex, f)
  first-err line.TooLong f = rw (← ex, f)

  module _ (p : ℕ) (f : x ≡ Ok p) (y : Result ℕ LineError) (ey : y ≡ line_at u (p + 1)) where
    pub second-err : (e : LineError) → y ≡ Err e → hello_error e ≡ judge_hello l r u
    unfolding judge_hello from_first from_second
    second-err line.Open g = rw (← ex, f, ← ey, g)
    second-err line.TooLong g = rw (← ex, f, ← ey, g)

    module _ (q : ℕ) (g : y ≡ Ok q) (z : Result ℕ LineError) (ez : z ≡ line_at u (q + 1)) where
      pub third-err : (e : LineError) → z ≡ Err e → hello_error e ≡ judge_hello l r u
      unfolding judge_hello from_first from_second from_third
      third-err line.Open h = rw (← ex, f, ← ey, g, ← ez, h)
      third-err line.TooLong h = rw (← ex, f, ← ey, g, ← ez, h)

      pub third-end : (e : ℕ) (o : Hello) → z ≡ Ok e → o ≡ judge_lines l r (take p u) (take (q - (p + 1)) (drop (p + 1) u)) (take (e - (q + 1)) (drop (q + 1) u)) → o ≡ judge_hello l r u
      unfolding judge_hello from_first from_second from_third span
      third-end e o h w = w ∙ rw (← ex, f, ← ey, g, ← ez, h)

pub ruleset judging_hello = (rules, end_after, end-within, next_fits, end-count, span-count, first-err, second-err, third-err, third-end)
