-- The loop that takes a piece: what stands taken, and what is left gives the answer.
use Prim.Native.Nat.{ℕ, suc, ◌+◌, ◌≤◌, ◌<◌}
use native.Mathlib.Omega.{arith}
use native.Mathlib.Numerals.{add-one}
use mathlib.Core.Path.{◌≡◌, refl, sym, ap, ◌∙◌}
use mathlib.Core.Bool.{Bool, true, false}
use mathlib.Core.List.{List, [], ◌∷◌, ◌++◌, append-nil, append_assoc}
use lib.ListN.{length, take, drop, get_or, length-append, length-take, drop_of_length-le}
use lib.Seq.{drop-cons}
use Rattle.lists.proofs.Cases.{by-test, cond-true, cond-false}
use Rattle.session.specs.declared.Connection.{Connection}
use Rattle.session.specs.declared.Session.{Session}
use Rattle.session.specs.Session.{unfinished}
use Rattle.session.proofs.Unfinished.{limit-within, limit-length, first-unfinished}
use Rattle.session_soundness.specs.Sound.{waits}
use Rattle.session_soundness.proofs.Waiting.{waits-few}
use Rattle.reassembly.specs.Pieces.{Part, one_more, take_piece}

-- ---- the unfinished bytes of a record

pub ruleset unfinished_rules = (limit-within, limit-length, first-unfinished)

pub unfinished-few : (s : Session) (u : List ℕ) → u ≡ unfinished s → length u ≤ 1027
unfolding unfinished
unfinished-few s u p = rw (p, length-take) (omega arith)

-- ---- the cases of taking

one-behind : (u : List ℕ) (b : ℕ) → length (u ++ (b ∷ [])) ≡ length u + 1
one-behind u b = length-append u (b ∷ [])

-- ---- the cases of taking

take_none : (c : Connection) (u : List ℕ) → take_piece c u [] ≡ record { bytes = u; taken = 0; ended = false }
unfolding take_piece
take_none c u = refl

take_on : (c : Connection) (u : List ℕ) (b : ℕ) (bs : List ℕ) → waits c (u ++ (b ∷ [])) ≡ true
    → take_piece c u (b ∷ bs) ≡ one_more (take_piece c (u ++ (b ∷ [])) bs)
unfolding take_piece
take_on c u b bs w = cond-true (waits c (u ++ (b ∷ []))) _ _ w

take_ends : (c : Connection) (u : List ℕ) (b : ℕ) (bs : List ℕ) → waits c (u ++ (b ∷ [])) ≡ false
    → take_piece c u (b ∷ bs) ≡ record { bytes = u ++ (b ∷ []); taken = 1; ended = true }
unfolding take_piece
take_ends c u b bs w = cond-false (waits c (u ++ (b ∷ []))) _ _ w

-- ---- the loop, where u₀ are the bytes that came and u those that stand after i more

-- so many bytes more
abbrev later : ℕ → Part → Part
later i a = record { bytes = a.bytes; taken = i + a.taken; ended = a.ended }

later-one : (i : ℕ) (a : Part) → later i (one_more a) ≡ later (i + 1) a
later-one i a = let e : i + suc a.taken ≡ i + 1 + a.taken = omega arith in ap (λ (n : ℕ). record { bytes = a.bytes; taken = n; ended = a.ended }) e

pub record Taking (piece : List ℕ) (c : Connection) (u₀ u : List ℕ) (i : ℕ) : Type 0 where
  pub few : length u ≤ 1027
  pub rest : take_piece c u₀ piece ≡ later i (take_piece c u (drop i piece))

pub start : (piece : List ℕ) (c : Connection) (u : List ℕ) → length u ≤ 1027 → Taking piece c u u 0
start piece c u l = record { few = l; rest = zero-later (take_piece c u piece) }
  where
    zero-later : (a : Part) → a ≡ later 0 a
    zero-later a = let e : a.taken ≡ 0 + a.taken = omega arith in ap (λ (n : ℕ). record { bytes = a.bytes; taken = n; ended = a.ended }) e

module _ {piece : List ℕ} {c : Connection} {u₀ u : List ℕ} {i : ℕ} (t : Taking piece c u₀ u i) where
  pub room-left : length u < 1028
  room-left = omega (arith, t.few)

  module _ (b : ℕ) (e : b ≡ get_or piece i 0) (l : i < length piece) where
    abbrev behind : List ℕ
    behind = u ++ (b ∷ [])

    rest-is : drop i piece ≡ b ∷ drop (i + 1) piece
    rest-is = rw (drop-cons piece i 0 l, ← e, add-one)

    pub goes_on : waits c behind ≡ true → Taking piece c u₀ behind (i + 1)
    goes_on h = record {
      few = waits-few c behind h;
      rest =
          t.rest
          ∙ (ap (λ (r : List ℕ). later i (take_piece c u r)) rest-is
          ∙ (ap (later i) (take_on c u b (drop (i + 1) piece) h) ∙ later-one i (take_piece c behind (drop (i + 1) piece))));
    }

    pub ends : waits c behind ≡ false → ◌≡◌ {A = Part} (record { bytes = behind; taken = i + 1; ended = true }) (take_piece c u₀ piece)
    ends h =
        sym
        (t.rest ∙ (ap (λ (r : List ℕ). later i (take_piece c u r)) rest-is ∙ ap (later i) (take_ends c u b (drop (i + 1) piece) h)))

  pub all-taken : (n : ℕ) → n ≡ length piece → i ≡ n → ◌≡◌ {A = Part} (record { bytes = u; taken = n; ended = false }) (take_piece c u₀ piece)
  all-taken n p q =
      let z : i + 0 ≡ n = omega arith in
      sym
      (t.rest
      ∙ (ap (λ (r : List ℕ). later i (take_piece c u r)) (drop_of_length-le piece (omega (arith, p, q)))
      ∙ (ap (later i) (take_none c u) ∙ ap (λ (n : ℕ). record { bytes = u; taken = n; ended = false }) z)))

-- ---- what was taken

data PartFacts (c : Connection) (u : List ℕ) : Part → Type 0 where
  none : PartFacts c u (record { bytes = u; taken = 0; ended = false })
  some : (a : Part) → length a.bytes ≤ 1028 → (a.taken ≡ 0 → ⊥) → (a.ended ≡ true → waits c a.bytes ≡ false) → PartFacts c u a

facts-on : (c : Connection) (u v : List ℕ) (a : Part) → length v ≤ 1027 → PartFacts c v a → PartFacts c u (one_more a)
facts-on c u v a l none =
    some (record { bytes = v; taken = 1; ended = false }) (omega (arith, l)) (λ z. omega (arith, z)) (λ z. absurd (let y : ◌≡◌ {A = ℕ} 0 1 = cc in omega arith))
facts-on c u v a l (some x h n w) = some (one_more x) h (λ z. omega (arith, z)) w

facts : (c : Connection) (u p : List ℕ) → length u ≤ 1027 → PartFacts c u (take_piece c u p)
facts c u [] l = rw (take_none c u) none
facts c u (b ∷ bs) l =
    let v = u ++ (b ∷ []) in
    by-test (waits c v)
    (λ w. rw (take_on c u b bs w) (facts-on c u v (take_piece c v bs) (waits-few c v w) (facts c v bs (waits-few c v w))))
    (λ w.
    let h : length v ≤ 1028 = omega (arith, one-behind u b) in
    rw (take_ends c u b bs w) (some (record { bytes = v; taken = 1; ended = true }) h (λ z. omega (arith, z)) (λ z. w)))

facts-short : (c : Connection) (u : List ℕ) (a : Part) → length u ≤ 1027 → PartFacts c u a → length a.bytes ≤ 1028
facts-short c u a l none = omega arith
facts-short c u a l (some x h n w) = h

facts-none : (c : Connection) (u : List ℕ) (a : Part) → PartFacts c u a → a.taken ≡ 0 → a ≡ record { bytes = u; taken = 0; ended = false }
facts-none c u a none z = refl
facts-none c u a (some x h n w) z = absurd (n z)

facts-ended : (c : Connection) (u : List ℕ) (a : Part) → PartFacts c u a → a.ended ≡ true → waits c a.bytes ≡ false
facts-ended c u a none z = absurd (let y : ◌≡◌ {A = ℕ} 0 1 = cc in omega arith)
facts-ended c u a (some x h n w) z = w z

module _ (c : Connection) (u p : List ℕ) (l : length u ≤ 1027) where
  -- no more bytes than the longest message has
  pub part-short : length (take_piece c u p).bytes ≤ 1028
  part-short = facts-short c u (take_piece c u p) l (facts c u p l)

  -- where nothing is taken, the bytes are those that came
  pub part_none : (take_piece c u p).taken ≡ 0 → take_piece c u p ≡ record { bytes = u; taken = 0; ended = false }
  part_none = facts-none c u (take_piece c u p) (facts c u p l)

  -- bytes that end a message or show a refusal don't wait
  pub part-ended : (take_piece c u p).ended ≡ true → waits c (take_piece c u p).bytes ≡ false
  part-ended = facts-ended c u (take_piece c u p) (facts c u p l)

-- the bytes are those that came and those that were taken
pub part_bytes : (c : Connection) (u p : List ℕ) → (take_piece c u p).bytes ≡ u ++ take (take_piece c u p).taken p
part_bytes c u [] = rw (take_none c u) (sym (append-nil u))
part_bytes c u (b ∷ bs) =
    let v = u ++ (b ∷ []) in
    by-test (waits c v)
    (λ w. rw (take_on c u b bs w) (part_bytes c v bs ∙ append_assoc u (b ∷ []) (take (take_piece c v bs).taken bs)))
    (λ w. rw (take_ends c u b bs w))
