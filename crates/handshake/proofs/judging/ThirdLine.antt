-- Each way to judge the third line of a hello: the name, then the two numbers.
use Rattle.std.specs.Prelude.{None, Option, Some}
use Prim.Native.Nat.{ℕ, ◌+◌, ◌-◌, ◌^◌, ◌≤◌, ◌<◌}
use native.Mathlib.Omega.{arith}
use mathlib.Core.Path.{◌≡◌, sym, ap, subst, ◌∙◌}
use mathlib.Core.List.{List}
use mathlib.Core.Bool.{true, false}
use lib.ListN.{length, take, drop, length-drop}
use lib.Seq.{length-take-le, take_all}
use borrow.Author.Rules.{rules}
use mir.Syntax.{w64}
use mir.Val.{Fits}
use Rattle.handshake.specs.declared.Hello.{Hello}
use Rattle.handshake.specs.declared.Hello.TheVariants as hello
use Rattle.handshake.specs.Bytes.{read_digits}
use Rattle.handshake.specs.Handshake.{word, after_word, part_b, part_of, number_b, number_of, numbers_b, judge_names, judge_numbers, judge_third}
use Rattle.handshake.proofs.sender.Spaces.{PartIs, part-is}
use Rattle.handshake.proofs.sender.Numbers.{DecimalIs, number_is}

-- ---- a part, and the bytes after its space
module _ (s : List ℕ) (k : ℕ) (x : (Option ℕ)) (e : x ≡ part_of s) (f : x ≡ Some k) where
  got : PartIs s (Some k)
  got = subst (PartIs s) (sym e ∙ f) (part-is s)

  pub part-before : k < length s
  unfolding PartIs
  part-before = got.2

  pub part-within : k + 1 ≤ length s
  part-within = omega (arith, part-before)

  pub part-fits : length s < 2 ^ 64 → Fits w64 (k + 1)
  part-fits h = omega (arith, part-before)

  pub part_count : k ≡ length (take k s)
  part_count = sym (length-take-le k s (omega (arith, part-before)))

  part-true : part_b s ≡ true
  unfolding PartIs
  part-true = got.1

  part-word : take k s ≡ word s
  unfolding PartIs word
  part-word = ap (λ (i : ℕ). take i s) got.0

  part-after : take (length s - (k + 1)) (drop (k + 1) s) ≡ after_word s
  unfolding PartIs after_word
  part-after =
      take_all (length s - (k + 1)) (drop (k + 1) s) (omega (arith, length-drop (k + 1) s))
      ∙ ap (λ (i : ℕ). drop (i + 1) s) got.0

missing : (s : List ℕ) (x : (Option ℕ)) → x ≡ part_of s → x ≡ None → part_b s ≡ false
unfolding PartIs
missing s x e f = subst (PartIs s) (sym e ∙ f) (part-is s)

malformed : (s : List ℕ) (x : (Option ℕ)) → x ≡ number_of s → x ≡ None → number_b s ≡ false
unfolding DecimalIs
malformed s x e f = subst (DecimalIs s) (sym e ∙ f) (number_is s)

valued : (s : List ℕ) (n : ℕ) (x : (Option ℕ)) → x ≡ number_of s → x ≡ Some n → (n ≡ read_digits 0 s) × (number_b s ≡ true)
unfolding DecimalIs
valued s n x e f = subst (DecimalIs s) (sym e ∙ f) (number_is s)

-- ---- the numbers after the name
module _ (l r v t n s : List ℕ) (x : (Option ℕ)) (e : x ≡ part_of s) where
  pub numbers-missing : x ≡ None → hello.Refused 10 ≡ judge_numbers l r v t n s
  unfolding judge_numbers numbers_b
  numbers-missing f = rw (missing s x e f)

  module _ (k : ℕ) (f : x ≡ Some k) (y : (Option ℕ)) (ey : y ≡ number_of (take k s)) where
    pub numbers-process : y ≡ None → hello.Refused 10 ≡ judge_numbers l r v t n s
    unfolding judge_numbers numbers_b
    numbers-process g = rw (part-true s k x e f, ← part-word s k x e f, malformed (take k s) y ey g)

    module _ (p : ℕ) (g : y ≡ Some p) (z : (Option ℕ)) (ez : z ≡ number_of (take (length s - (k + 1)) (drop (k + 1) s))) where
      last-number : z ≡ number_of (after_word s)
      last-number = ez ∙ ap number_of (part-after s k x e f)

      pub numbers-relative : z ≡ None → hello.Refused 10 ≡ judge_numbers l r v t n s
      unfolding judge_numbers numbers_b
      numbers-relative h =
          rw (part-true s k x e f, ← part-word s k x e f, (valued (take k s) p y ey g).1, malformed (after_word s) z last-number h)

      pub numbers-all : (q : ℕ) (o : Hello) → z ≡ Some q → o ≡ judge_names l r v t n p q → o ≡ judge_numbers l r v t n s
      unfolding judge_numbers numbers_b
      numbers-all q o h w =
          let a = valued (take k s) p y ey g in
          let b = valued (after_word s) q z last-number h in
          rw (part-true s k x e f, ← part-word s k x e f, a.1, b.1, ← a.0, ← b.0) w

pub ruleset judging_numbers = (rules, part-within, part-fits, part_count, numbers-missing, numbers-process, numbers-relative, numbers-all)

-- ---- the third line
module _ (l r v t s : List ℕ) (x : (Option ℕ)) (e : x ≡ part_of s) where
  pub third-missing : x ≡ None → hello.Refused 10 ≡ judge_third l r v t s
  unfolding judge_third
  third-missing f = rw (missing s x e f)

  pub third-numbers : (k : ℕ) (o : Hello) → x ≡ Some k → o ≡ judge_numbers l r v t (take k s) (take (length s - (k + 1)) (drop (k + 1) s)) → o ≡ judge_third l r v t s
  unfolding judge_third
  third-numbers k o f w = rw (part-true s k x e f, ← part-word s k x e f, ← part-after s k x e f) w

pub ruleset judging_third = (rules, part-within, part-fits, part_count, third-missing, third-numbers)
