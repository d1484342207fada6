-- The part of a line before its first space.
use Rattle.std.specs.Prelude.{None, Option, Some}
use Rattle.std.specs.List.{position_from}
use Prim.Native.Nat.{ℕ, suc, ◌+◌, ◌<◌}
use native.Mathlib.Omega.{arith}
use mathlib.Core.Path.{◌≡◌, refl, sym, ap, ◌∙◌}
use mathlib.Core.List.{List, [], ◌∷◌}
use mathlib.Core.Bool.{true, false}
use lib.Dec.{ltb, eqb}
use lib.ListN.{length}
use borrow.Author.Rules.{rules}
use borrow.Author.Tests.{lt-ltb, le-ltb, ltb-true}
use Rattle.lists.specs.Lists.{first_place}
use Rattle.handshake.specs.Handshake.{is_space, until_space, part_b, part_of}
use Rattle.lists.proofs.Cases.{and_second, by-test}

-- ---- the first space, where the list's first byte has place j
space-at : (s : List ℕ) (j k : ℕ) → position_from (λ b. eqb b 32) j s ≡ Some k → (k ≡ j + until_space s) × (until_space s < length s)
unfolding until_space
space-at [] j k e = cc
space-at (b ∷ s) j k e =
    by-test (eqb b 32)
    (λ h. let z : j ≡ k = cc in rw h (omega arith, omega arith))
    (λ h. let r = space-at s (j + 1) k (rw h at e) in rw h (omega (arith, r.0), omega (arith, r.1)))

no_space : (s : List ℕ) (j : ℕ) → position_from (λ b. eqb b 32) j s ≡ None → until_space s ≡ length s
unfolding until_space
no_space [] j e = refl
no_space (b ∷ s) j e =
    by-test (eqb b 32)
    (λ h. cc)
    (λ h. rw h (ap suc (no_space s (j + 1) (rw h at e))))

-- ---- a part before a space, where x is the place of the first one
module _ (s : List ℕ) (x : Option ℕ) (p : x ≡ first_place is_space s) where
  pub part-none : x ≡ None → None ≡ part_of s
  unfolding part_of part_b first_place
  part-none e =
      let n = no_space s 0 (sym p ∙ e) in
      by-test (ltb 0 (until_space s)) (λ h. rw (h, le-ltb (until_space s) (length s) (omega arith))) (λ h. rw h)

  pub part-empty : (k : ℕ) → x ≡ Some k → k ≡ 0 → None ≡ part_of s
  unfolding part_of part_b first_place
  part-empty k e h = let r = space-at s 0 k (sym p ∙ e) in rw (le-ltb 0 (until_space s) (omega arith))

  pub part-whole : (k : ℕ) → x ≡ Some k → (k ≡ 0 → ⊥) → Some k ≡ part_of s
  unfolding part_of part_b first_place
  part-whole k e h =
      let r = space-at s 0 k (sym p ∙ e) in
      let z : until_space s ≡ k = omega arith in
      rw (lt-ltb 0 (until_space s) (omega arith), lt-ltb (until_space s) (length s) r.1, z)

pub ruleset parting = (rules, part-none, part-empty, part-whole)

unfoldable pub PartIs : List ℕ → Option ℕ → Type 0
PartIs s (Some k) = (k ≡ until_space s) × (part_b s ≡ true) × (k < length s)
PartIs s None = part_b s ≡ false

pub part-is : (s : List ℕ) → PartIs s (part_of s)
unfolding PartIs part_of part_b
part-is s =
    by-test (part_b s)
    (λ h. rw h (refl, h, ltb-true (until_space s) (length s) (and_second (ltb 0 (until_space s)) _ h)))
    (λ h. rw h h)
