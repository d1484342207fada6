-- Readings of an encoded integer: under two tests that agree, one between two others, one of k bits.
use Prim.Native.Nat.{ℕ, ◌^◌, ◌≤◌, ◌<◌}
use Rattle.std.specs.Prelude.{Err, Ok, Result}
use mathlib.Core.Path.{◌≡◌, refl, sym}
use mathlib.Core.List.{List}
use mathlib.Core.Bool.{Bool, true}
use lib.Dec.{ltb, lit≤}
use borrow.Author.Tests.{lt-ltb, le-ltb, le-leb}
use Rattle.lists.proofs.Cases.{lt-or-le, split}
use Rattle.wire.specs.declared.IntError.{IntError}
use Rattle.wire.specs.declared.values.FieldError.{FieldError}
use Rattle.wire.specs.declared.IntError.TheVariants as int
use Rattle.wire.specs.declared.values.FieldError.TheVariants as field
use Rattle.wire.specs.Integer.{read_int}
use Rattle.wire.specs.Value.{read_width, WidthRule}
use Rattle.wire.proofs.Advance.{value-small}
use Rattle.wire.proofs.values.Limited.{width-rule}
use Rattle.body.specs.declared.Fault.{Fault}
use Rattle.body.specs.Fields.{got, failed, and_then, field_read, accepted, tested, integer, between, integer_of}
use Rattle.body.proofs.Holds.{same_value}

-- two tests that agree
same-tested : (p q : ℕ → Bool) → ((n : ℕ) → p n ≡ q n) → (start : ℕ) (i : (Result (ℕ × ℕ) IntError)) → tested p start i ≡ tested q start i
unfolding tested
same-tested p q h start (Ok (v, next)) = rw (h v)
same-tested p q h start (Err (int.Short k)) = refl
same-tested p q h start (Err (int.Overflow k)) = refl

pub same-integer : (p q : ℕ → Bool) → ((n : ℕ) → p n ≡ q n) → (s : List ℕ) (at : ℕ) → integer p s at ≡ integer q s at
unfolding integer
same-integer p q h s at = same-tested p q h at (read_int s at)

pub inside : (low high v : ℕ) → low ≤ v → v ≤ high → between low high v ≡ true
unfolding between
inside low high v l h = rw (le-leb low v l, le-leb v high h)

-- ---- an integer of k bits: what wire's reader of that width gives, by the one rule over the width
module _ (k : ℕ) (h : k ≤ 64) (s : List ℕ) (at : ℕ) where
  rule : WidthRule k
  rule = width-rule k h

  width_read : (i : (Result (ℕ × ℕ) IntError)) → read_int s at ≡ i → field_read at (read_width k s at) ≡ tested (λ v. ltb v (2 ^ k)) at i
  unfolding tested field_read
  width_read (Ok (v, next)) e =
      split (lt-or-le v (2 ^ k))
      (λ l. rw (rule.within s at v next e l, lt-ltb v (2 ^ k) l))
      (λ l. rw (rule.over s at v next e l, le-ltb v (2 ^ k) l))
  width_read (Err (int.Short n)) e = rw (rule.short s at n e)
  width_read (Err (int.Overflow n)) e = rw (rule.overflow s at n e)

  pub of_width : field_read at (read_width k s at) ≡ integer_of k s at
  unfolding integer_of integer
  of_width = width_read (read_int s at) refl

  -- a value of k bits is below 2^k
  width_small : (f : Result (ℕ × ℕ) FieldError) → f ≡ read_width k s at → (v next : ℕ) → got v next ≡ field_read at f → v < 2 ^ k
  unfolding field_read
  width_small (Ok (w, end)) e v next p = let l : w < 2 ^ k = rule.small s at w end (sym e) in rw (same_value v w next end p) l
  width_small (Err field.Short) e v next p = absurd (cc)
  width_small (Err field.OutOfRange) e v next p = absurd (cc)

  pub word_fits : (v next : ℕ) → got v next ≡ field_read at (read_width k s at) → v < 2 ^ k
  word_fits v next p = width_small (read_width k s at) refl v next p

-- ---- an integer with a test: what wire's reader of 64 bits gives, if it passes
module _ (ok : ℕ → Bool) (s : List ℕ) (at : ℕ) where
  value_read : (i : Result (ℕ × ℕ) IntError) → read_int s at ≡ i → and_then (field_read at (read_width 64 s at)) (λ v next. accepted (ok v) v at next) ≡ tested ok at i
  unfolding tested field_read accepted
  value_read (Ok (v, next)) e = rw ((width-rule 64 (lit≤ tt)).within s at v next e (value-small s at v next e))
  value_read (Err (int.Short n)) e = rw ((width-rule 64 (lit≤ tt)).short s at n e)
  value_read (Err (int.Overflow n)) e = rw ((width-rule 64 (lit≤ tt)).overflow s at n e)

  of_value : and_then (field_read at (read_width 64 s at)) (λ v next. accepted (ok v) v at next) ≡ integer ok s at
  unfolding integer
  of_value = value_read (read_int s at) refl

  pub value_taken : (v next : ℕ) → got v next ≡ field_read at (read_width 64 s at) → accepted (ok v) v at next ≡ integer ok s at
  value_taken v next e = rw (← e) at of_value

  pub value_missing : (f : Fault) → failed f ≡ field_read at (read_width 64 s at) → failed f ≡ integer ok s at
  value_missing f e = rw (← e) at of_value

pub ruleset value_laws = (value_taken, value_missing)
