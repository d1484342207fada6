-- A loop that reads a field for each of the types ts into an array: what holds at its head, and what each way from there shows.
use Prim.Native.Nat.{ℕ, suc, ◌+◌, ◌≤◌, ◌<◌}
use native.Mathlib.Omega.{arith}
use native.Mathlib.Numerals.{add-one}
use mathlib.Core.Path.{◌≡◌, refl, sym, ◌∙◌}
use mathlib.Core.List.{List, [], ◌∷◌, ◌++◌, append_assoc, append-nil}
use lib.ListN.{length, get_or, take, drop, set, replicate, length-set, length-replicate, drop_of_length-le}
use lib.Seq.{drop-cons, take-suc-set, take_all}
use Rattle.store.proofs.Rules.{slot-count, rate-count}
use Rattle.body.specs.declared.Fault.{Fault}
use Rattle.body.specs.Fields.{Read, got, failed, Reader, and_then, for_each}

-- the values xs, and then what was read
unfoldable pub following : List ℕ → Read (List ℕ) → Read (List ℕ)
following xs (got ys next) = got (xs ++ ys) next
following xs (failed f) = failed f

following-none : (x : Read (List ℕ)) → x ≡ following [] x
unfolding following
following-none (got ys next) = refl
following-none (failed f) = refl

following-one : (xs : List ℕ) (v : ℕ) (x : Read (List ℕ)) → following xs (and_then x λ ys next. got (v ∷ ys) next) ≡ following (xs ++ (v ∷ [])) x
unfolding following
following-one xs v (got ys next) = rw append_assoc
following-one xs v (failed f) = refl

-- of n types; the first i are read, up to `position`
pub record Filling (field : ℕ → Reader ℕ) (ts : List ℕ) (n : ℕ) (s : List ℕ) (at : ℕ) (vs : List ℕ) (position i : ℕ) : Type 0 where
  pub size : length ts ≡ n
  pub full : length vs ≡ n
  pub up : i ≤ n
  pub rest : for_each field ts s at ≡ following (take i vs) (for_each field (drop i ts) s position)

pub start : (field : ℕ → Reader ℕ) (ts : List ℕ) (n : ℕ) (s : List ℕ) (at : ℕ) → length ts ≡ n → Filling field ts n s at (replicate n 0) at 0
start field ts n s at h = record {
  size = h;
  full = length-replicate n 0;
  up = omega arith;
  rest = following-none (for_each field ts s at);
}

module _ {field : ℕ → Reader ℕ} {ts : List ℕ} {n : ℕ} {s : List ℕ} {at : ℕ} {vs : List ℕ} {position i : ℕ}
    (k : Filling field ts n s at vs position i) where
  -- all are read
  pub done : n ≤ i → got vs position ≡ for_each field ts s at
  unfolding following for_each
  done h =
      let l : length ts ≤ i = omega (arith, k.size) in
      let e : drop i ts ≡ [] = drop_of_length-le ts l in
      let f : take i vs ≡ vs = take_all i vs (omega (arith, k.full)) in
      sym (k.rest ∙ rw (e, f, append-nil))

  -- the next, of type t
  module _ (t : ℕ) (h : i < n) (q : t ≡ get_or ts i 0) where
    next_one : for_each field ts s at
        ≡ following (take i vs) (and_then (field t s position) λ v at₁. and_then (for_each field (drop (suc i) ts) s at₁) λ ws at₂. got (v ∷ ws) at₂)
    unfolding for_each
    next_one =
        let l : i < length ts = omega (arith, k.size) in
        k.rest ∙ rw (drop-cons ts i 0 l, ← q)

    pub stop : (f : Fault) → failed f ≡ field t s position → failed f ≡ for_each field ts s at
    unfolding following
    stop f e = sym (next_one ∙ rw (← e))

    pub turn : (v next : ℕ) → got v next ≡ field t s position → Filling field ts n s at (set vs i v) next (i + 1)
    turn v next e =
        let l : i < length vs = omega (arith, k.full) in
        record {
          size = k.size;
          full = length-set vs i v ∙ k.full;
          up = omega arith;
          rest = next_one ∙ rw (← e, add-one, take-suc-set vs i v l) (following-one (take i vs) v (for_each field (drop (suc i) ts) s next));
        }

pub ruleset filling_laws = (start, done, stop, turn, slot-count, rate-count)
