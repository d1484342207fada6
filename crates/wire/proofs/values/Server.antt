-- The server ID: laws for each way through `server_id_of` and `server_id_word`, and the way there and back.
use Rattle.std.specs.Prelude.{OkIff, Err, None, Ok, Option, Result, Some}
use Rattle.std.specs.Result.{result_ok}
use Prim.Native.Nat.{ℕ, suc, ◌+◌, ◌-◌, ◌^◌, ◌≤◌, ◌<◌}
use native.Mathlib.Omega.{arith}
use mathlib.Core.Path.{◌≡◌, refl, sym, ap, subst, ◌∙◌}
use mathlib.Core.List.{List, ◌++◌}
use lib.IntN.{ℤ, pos, negsuc}
use lib.ListN.{length}
use borrow.Author.Tests.{lt-ltb, le-ltb}
use mir.Facts.{to_z-of_z}
use mir.Syntax.{w32, w64}
use mir.Val.{SFits, to_z, of_z}
use Rattle.wire.specs.declared.IntError.{IntError}
use Rattle.wire.specs.declared.values.FieldError.{FieldError}
use Rattle.wire.specs.declared.IntError.TheVariants as int
use Rattle.wire.specs.declared.values.FieldError.TheVariants as server
use Rattle.wire.specs.Integer.{encode_int, read_int}
use Rattle.wire.specs.Server.{server_word, server_id_of, server_before, server_of, read_server_id}
use Rattle.lists.proofs.Cases.{lt-or-le, split}
use Rattle.wire.proofs.RoundTrip.{round_trip}
use Rattle.wire.proofs.Advance.{advance, value-small}

-- ---- the cases of a word
pub id-low : (v : ℕ) → v < 2 ^ 31 → server_id_of v ≡ Some (pos v)
unfolding server_id_of
id-low v h = rw (lt-ltb v (2 ^ 31) h)

pub id-none : (v : ℕ) → 2 ^ 31 ≤ v → v < 2 ^ 64 - 2 ^ 31 → server_id_of v ≡ None
unfolding server_id_of
id-none v h l = rw (le-ltb v (2 ^ 31) h, lt-ltb v (2 ^ 64 - 2 ^ 31) l)

pub id-high : (v : ℕ) → 2 ^ 64 - 2 ^ 31 ≤ v → v < 2 ^ 64 → server_id_of v ≡ Some (negsuc (2 ^ 64 - 1 - v))
unfolding server_id_of
id-high v h l =
    let k : 2 ^ 31 ≤ v = omega arith in
    let e : 2 ^ 64 - suc v ≡ 2 ^ 64 - 1 - v = omega arith in
    rw (le-ltb v (2 ^ 31) k, le-ltb v (2 ^ 64 - 2 ^ 31) h, lt-ltb v (2 ^ 64) l, e)

pub word-neg : (n : ℕ) → n < 2 ^ 64 → server_word (negsuc n) ≡ 2 ^ 64 - 1 - n
unfolding server_word
word-neg n h =
    let l : suc n ≤ 2 ^ 64 = omega arith in
    let e : 2 ^ 64 - suc n ≡ 2 ^ 64 - 1 - n = omega arith in
    rw (le-ltb (2 ^ 64) (suc n) l, e)

-- ---- `server_id_of`: the number of 64 bits, if it is one of 32
fit : {E : Type 0} (P : Type 0) (r : Result ℤ E) (y : ℤ) (q : Option ℤ) → OkIff r P y → q ≡ result_ok r → P → q ≡ Some y
fit P (Ok x) y q o e p = e ∙ ap Some o.1
fit P (Err x) y q o e p = absurd (o p)

unfit : {E : Type 0} (P : Type 0) (r : Result ℤ E) (y : ℤ) (q : Option ℤ) → OkIff r P y → q ≡ result_ok r → (P → ⊥) → q ≡ None
unfit P (Ok x) y q o e n = absurd (n o.0)
unfit P (Err x) y q o e n = e

-- the bits as a signed number
low-bits : (v : ℕ) → v < 2 ^ 63 → to_z w64 v ≡ pos v
low-bits v h = rw (lt-ltb v (2 ^ 63) h)

high-bits : (v : ℕ) → 2 ^ 63 ≤ v → v < 2 ^ 64 → to_z w64 v ≡ negsuc (2 ^ 64 - 1 - v)
high-bits v h l =
    let e : 2 ^ 64 - suc v ≡ 2 ^ 64 - 1 - v = omega arith in
    rw (le-ltb v (2 ^ 63) h, e)

module _ {E : Type 0} (v : ℕ) (r : Result ℤ E) (q : Option ℤ) (f : v < 2 ^ 64) (e : q ≡ result_ok r) where
  of-pos : v < 2 ^ 63 → OkIff r (SFits w32 (pos v)) (pos v) → q ≡ server_id_of v
  of-pos h o =
      split (lt-or-le v (2 ^ 31))
      (λ l. fit (SFits w32 (pos v)) r (pos v) q o e (record { sfits = l }) ∙ sym (id-low v l))
      (λ l. unfit (SFits w32 (pos v)) r (pos v) q o e (λ z. let y : v < 2 ^ 31 = z.sfits in omega arith) ∙ sym (id-none v l (omega arith)))

  of-neg : 2 ^ 63 ≤ v → OkIff r (SFits w32 (negsuc (2 ^ 64 - 1 - v))) (negsuc (2 ^ 64 - 1 - v)) → q ≡ server_id_of v
  of-neg h o =
      let y : ℤ = negsuc (2 ^ 64 - 1 - v) in
      split (lt-or-le v (2 ^ 64 - 2 ^ 31))
      (λ l. unfit (SFits w32 (negsuc (2 ^ 64 - 1 - v))) r (negsuc (2 ^ 64 - 1 - v)) q o e (λ z. let w : 2 ^ 64 - 1 - v < 2 ^ 31 = z.sfits in omega arith) ∙ sym (id-none v (omega arith) l))
      (λ l.
      let w : 2 ^ 64 - 1 - v < 2 ^ 31 = omega arith in
      fit (SFits w32 (negsuc (2 ^ 64 - 1 - v))) r (negsuc (2 ^ 64 - 1 - v)) q o e (record { sfits = w }) ∙ sym (id-high v l f))

  pub id-is : (x : ℤ) → x ≡ to_z w64 v → OkIff r (SFits w32 (to_z w64 (of_z w64 x))) (to_z w64 (of_z w64 x)) → q ≡ server_id_of v
  id-is x h o =
      split (lt-or-le v (2 ^ 63))
      (λ l.
      let k : SFits w64 (pos v) = record { sfits = l } in
      of-pos l (subst (λ y. OkIff r (SFits w32 y) y) (ap (λ (y : ℤ). to_z w64 (of_z w64 y)) (h ∙ low-bits v l) ∙ to_z-of_z k) o))
      (λ l.
      let w : 2 ^ 64 - 1 - v < 2 ^ 63 = omega arith in
      let k : SFits w64 (negsuc (2 ^ 64 - 1 - v)) = record { sfits = w } in
      of-neg l (subst (λ y. OkIff r (SFits w32 y) y) (ap (λ (y : ℤ). to_z w64 (of_z w64 y)) (h ∙ high-bits v l f) ∙ to_z-of_z k) o))

-- ---- `server_id_word`: the bits of the ID as a number of 64 bits
wide : (z : ℤ) → SFits w32 z → SFits w64 z
wide (pos n) f = record { sfits = omega (arith, f.sfits) }
wide (negsuc n) f = record { sfits = omega (arith, f.sfits) }

bits : (z : ℤ) → SFits w32 z → of_z w64 z ≡ server_word z
unfolding server_word
bits (pos n) f = refl
bits (negsuc n) f =
    let h : n < 2 ^ 64 = omega (arith, f.sfits) in
    let e : 2 ^ 64 - suc n ≡ 2 ^ 64 - 1 - n = omega arith in
    e ∙ sym (word-neg n h)

pub word-is : (z x : ℤ) (w : ℕ) → SFits w32 z → x ≡ to_z w32 (of_z w32 z) → w ≡ of_z w64 (to_z w64 (of_z w64 x)) → w ≡ server_word z
word-is z x w f e h =
    let q : x ≡ z = e ∙ to_z-of_z f in
    h ∙ ap (λ (y : ℤ). of_z w64 (to_z w64 (of_z w64 y))) q ∙ ap (of_z w64) (to_z-of_z (wide z f)) ∙ bits z f

-- ---- `read_server_id`
an-id : (s : List ℕ) (at v next : ℕ) (z : ℤ) → read_int s at ≡ Ok (v, next) → server_id_of v ≡ Some z → read_server_id s at ≡ Ok (z, next)
unfolding read_server_id server_of server_before
an-id s at v next z e d = rw (e, d)

-- ---- there and back
pub word_small : (z : ℤ) → SFits w32 z → server_word z < 2 ^ 64
unfolding server_word
word_small (pos n) f = omega (arith, f.sfits)
word_small (negsuc n) f = omega (arith, word-neg n (omega (arith, f.sfits)))

-- The word of an ID reads back.
pub id-of-word : (z : ℤ) → SFits w32 z → server_id_of (server_word z) ≡ Some z
unfolding server_word
id-of-word (pos n) f = id-low n f.sfits
id-of-word (negsuc n) f =
    let h : n < 2 ^ 31 = f.sfits in
    let k : n < 2 ^ 64 = omega arith in
    let e : 2 ^ 64 - 1 - (2 ^ 64 - 1 - n) ≡ n = omega arith in
    ap server_id_of (word-neg n k) ∙ id-high (2 ^ 64 - 1 - n) (omega arith) (omega arith) ∙ rw e

-- An ID is read only from its own word.
FromWord : ℕ → Option ℤ → Type 0
FromWord v (Some z) = SFits w32 z × (server_word z ≡ v)
FromWord v None = Unit {0}

from-word : (v : ℕ) → v < 2 ^ 64 → FromWord v (server_id_of v)
unfolding FromWord server_word
from-word v h =
    split (lt-or-le v (2 ^ 31))
    (λ l. rw (id-low v l) (record { sfits = l }, refl))
    (λ l.
    split (lt-or-le v (2 ^ 64 - 2 ^ 31))
    (λ m. rw (id-none v l m) tt)
    (λ m.
    let k : 2 ^ 64 - 1 - v < 2 ^ 31 = omega arith in
    let w : 2 ^ 64 - 1 - v < 2 ^ 64 = omega arith in
    let e : 2 ^ 64 - 1 - (2 ^ 64 - 1 - v) ≡ v = omega arith in
    rw (id-high v m h) (record { sfits = k }, word-neg (2 ^ 64 - 1 - v) w ∙ e)))

pub word-of-id : (v : ℕ) (z : ℤ) → v < 2 ^ 64 → server_id_of v ≡ Some z → SFits w32 z × (server_word z ≡ v)
unfolding FromWord
word-of-id v z h e = subst (FromWord v) e (from-word v h)

-- Reading what was written gives the ID and the position after it, whatever stands before and behind.
pub server-trip : (p t : List ℕ) (z : ℤ) → SFits w32 z
    → read_server_id (p ++ (encode_int (server_word z) ++ t)) (length p) ≡ Ok (z, (length p + length (encode_int (server_word z))))
server-trip p t z f =
    an-id (p ++ (encode_int (server_word z) ++ t)) (length p) (server_word z) _ z (round_trip p t (server_word z) (word_small z f)) (id-of-word z f)

-- What reads as an ID is the integer that is its word.
IdWord : Result (ℕ × ℕ) IntError → Result (ℤ × ℕ) FieldError → Type 0
IdWord i (Ok (z, next)) = SFits w32 z × (i ≡ Ok ((server_word z), next))
IdWord i (Err server.Short) = Unit {0}
IdWord i (Err server.OutOfRange) = Unit {0}

id-word-before : (v next : ℕ) (q : (Option ℤ)) → FromWord v q → IdWord (Ok (v, next)) (server_before next q)
unfolding FromWord IdWord server_before
id-word-before v next (Some z) h = (h.0, rw h.1)
id-word-before v next None h = tt

pub server-own : (s : List ℕ) (at : ℕ) (z : ℤ) (next : ℕ) → read_server_id s at ≡ Ok (z, next)
    → SFits w32 z × (read_int s at ≡ Ok ((server_word z), next))
unfolding IdWord read_server_id server_of
server-own s at z next e = subst (IdWord (read_int s at)) e (by_int (read_int s at) refl)
  where
    by_int : (i : (Result (ℕ × ℕ) IntError)) → read_int s at ≡ i → IdWord i (server_of i)
    by_int (Ok (v, n)) q = id-word-before v n (server_id_of v) (from-word v (value-small s at v n q))
    by_int (Err (int.Short k)) q = tt
    by_int (Err (int.Overflow k)) q = tt

pub server-advance : (s : List ℕ) (at : ℕ) (z : ℤ) (next : ℕ) → read_server_id s at ≡ Ok (z, next) → (at < next) × (next ≤ length s)
server-advance s at z next e = advance s at (server_word z) next (server-own s at z next e).1
