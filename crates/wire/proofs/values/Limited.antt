-- Values with a limit, and the value rule over the width.
use Rattle.std.specs.Prelude.{Err, Ok, Result}
use Prim.Native.Nat.{ℕ, ◌-◌, ◌^◌, ◌≤◌, ◌<◌}
use native.Mathlib.Omega.{arith}
use native.Mathlib.Nat.{pow-le-pow_right}
use mathlib.Core.Path.{◌≡◌, refl, sym, subst}
use mathlib.Core.List.{List, ◌++◌}
use lib.Dec.{lit<}
use lib.ListN.{length}
use borrow.Author.Tests.{lt-ltb, le-ltb}
use Rattle.wire.specs.declared.IntError.{IntError}
use Rattle.wire.specs.declared.values.FieldError.{FieldError}
use Rattle.wire.specs.declared.IntError.TheVariants as int
use Rattle.wire.specs.declared.values.FieldError.TheVariants as field
use Rattle.wire.specs.Integer.{encode_int, read_int}
use Rattle.wire.specs.Value.{field_error, limited, read_limited, read_width, WidthRule}
use Rattle.lists.proofs.Cases.{lt-or-le, split}
use Rattle.wire.proofs.RoundTrip.{round_trip, one-encoding}

-- ---- the cases of `read_limited`, where r is what `read_int` gives
module _ (limit : ℕ) (s : List ℕ) (at : ℕ) (r : (Result (ℕ × ℕ) IntError)) (p : r ≡ read_int s at) where
  over : (v next : ℕ) → r ≡ Ok (v, next) → limit < v → (Err field.OutOfRange) ≡ read_limited limit s at
  unfolding read_limited limited
  over v next e l = rw (← p, e, lt-ltb limit v l)

  within : (v next : ℕ) → r ≡ Ok (v, next) → v ≤ limit → Ok (v, next) ≡ read_limited limit s at
  unfolding read_limited limited
  within v next e l = rw (← p, e, le-ltb limit v l)

  no-int : (e : IntError) → r ≡ Err e → Err (field_error e) ≡ read_limited limit s at
  unfolding read_limited limited
  no-int e g = rw (← p, g)

-- ---- a value that is read with a limit is the integer, and at most the limit
Held : ℕ → Result (ℕ × ℕ) IntError → Result (ℕ × ℕ) FieldError → Type 0
Held limit i (Ok (v, next)) = (i ≡ Ok (v, next)) × (v ≤ limit)
Held limit i (Err field.Short) = Unit {0}
Held limit i (Err field.OutOfRange) = Unit {0}

held : (limit : ℕ) (i : (Result (ℕ × ℕ) IntError)) → Held limit i (limited limit i)
unfolding Held limited
held limit (Ok (v, next)) = split (lt-or-le limit v) (λ l. rw (lt-ltb limit v l) tt) (λ l. rw (le-ltb limit v l) (refl, l))
held limit (Err (int.Short k)) = tt
held limit (Err (int.Overflow k)) = tt

pub limited-value : (limit : ℕ) (s : List ℕ) (at v next : ℕ) → read_limited limit s at ≡ Ok (v, next)
    → (read_int s at ≡ Ok (v, next)) × (v ≤ limit)
unfolding read_limited Held
limited-value limit s at v next e = subst (Held limit (read_int s at)) e (held limit (read_int s at))

-- ---- the value rule over the width, said once: the readers of 32-bit and of 64-bit values cite it
module _ (k : ℕ) where
  some : 1 ≤ 2 ^ k
  some = let z : 0 ≤ k = omega arith in omega (arith, pow-le-pow_right {n = 2} (lit< tt) z)

  width-within : (s : List ℕ) (at v next : ℕ) → read_int s at ≡ Ok (v, next) → v < 2 ^ k → read_width k s at ≡ Ok (v, next)
  unfolding read_width
  width-within s at v next e l = sym (within (2 ^ k - 1) s at _ refl v next e (omega arith))

  width-over : (s : List ℕ) (at v next : ℕ) → read_int s at ≡ Ok (v, next) → 2 ^ k ≤ v → read_width k s at ≡ (Err field.OutOfRange)
  unfolding read_width
  width-over s at v next e l = sym (over (2 ^ k - 1) s at _ refl v next e (omega (arith, some)))

  width-value : (s : List ℕ) (at v next : ℕ) → read_width k s at ≡ Ok (v, next) → (read_int s at ≡ Ok (v, next)) × (v ≤ 2 ^ k - 1)
  unfolding read_width
  width-value s at v next e = limited-value (2 ^ k - 1) s at v next e

power_le : (k : ℕ) → k ≤ 64 → 2 ^ k ≤ 2 ^ 64
power_le k h = pow-le-pow_right {n = 2} (lit< tt) h

pub width-rule : (k : ℕ) → k ≤ 64 → WidthRule k
unfolding read_width
width-rule k h = record {
  within = width-within k;
  over = width-over k;
  short = λ s at n e. sym (no-int (2 ^ k - 1) s at _ refl (int.Short n) e);
  overflow = λ s at n e. sym (no-int (2 ^ k - 1) s at _ refl (int.Overflow n) e);
  small = λ s at v next e. let q = (width-value k s at v next e).1 in omega (arith, some k);
  trip = λ p t v l. width-within k (p ++ (encode_int v ++ t)) (length p) v _ (round_trip p t v (omega (arith, power_le k h))) l;
  trip-over = λ p t v m l. width-over k (p ++ (encode_int v ++ t)) (length p) v _ (round_trip p t v m) l;
  own = λ s at v next b e. one-encoding s at v next b (width-value k s at v next e).0;
}
