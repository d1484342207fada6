-- Values along their data types: those that are present are put one after the other.
use Prim.Native.Nat.{ℕ, suc, ◌+◌, ◌≤◌, ◌<◌}
use native.Mathlib.Omega.{arith}
use native.Mathlib.Numerals.{add-one}
use mathlib.Core.Path.{◌≡◌, refl, sym, ap, ◌∙◌}
use mathlib.Core.Bool.{true, false}
use mathlib.Core.List.{List, [], ◌∷◌, ◌++◌, map}
use lib.ListN.{length, take, get_or}
use lib.Seq.{take_all, take-suc, length-take-le}
use Rattle.lists.proofs.Cases.{by-test}
use Rattle.handshake.specs.Bytes.{decimal}
use Rattle.store.specs.Limits.{present}
use Rattle.text.specs.Text.{spaced}
use Rattle.wire.specs.declared.writer.Writer.{Writer}
use Rattle.wire.specs.Writing.{Writes}
use Rattle.wire.proofs.Writing.{writes-as}
use Rattle.text.proofs.LineWords.{words, no_words}
use Rattle.dump.specs.StoreLines.{present_among}

-- ---- one value, if its data type is present
module _ {A : Type 0} (types t : ℕ) (v : A) where
  among_one : present types t ≡ true → present_among types (t ∷ []) (v ∷ []) ≡ v ∷ []
  unfolding present_among
  among_one e = rw e

  among_none : present types t ≡ false → present_among types (t ∷ []) (v ∷ []) ≡ []
  unfolding present_among
  among_none e = rw e

  module _ (word : A → List ℕ) {a : Writer} where
    pub there : {b : Writer} → true ≡ present types t → Writes (spaced (word v ∷ [])) a b → Writes (spaced (map word (present_among types (t ∷ []) (v ∷ [])))) a b
    there e p = rw (among_one (sym e)) p

    pub gone : false ≡ present types t → Writes (spaced (map word (present_among types (t ∷ []) (v ∷ [])))) a a
    gone e = rw (among_none (sym e)) (no_words a)

-- ---- values along their data types
among-snoc : {A : Type 0} (types : ℕ) (ts : List ℕ) (vs : List A) (t : ℕ) (v : A) → length ts ≡ length vs
    → present_among types (ts ++ (t ∷ [])) (vs ++ (v ∷ [])) ≡ present_among types ts vs ++ present_among types (t ∷ []) (v ∷ [])
unfolding present_among
among-snoc types [] [] t v e = refl
among-snoc types [] (x ∷ vs) t v e = absurd (omega arith)
among-snoc types (s ∷ ts) [] t v e = absurd (omega arith)
among-snoc types (s ∷ ts) (x ∷ vs) t v e =
    let r = among-snoc types ts vs t v (omega arith) in
    by-test (present types s)
    (λ (h : present types s ≡ true). rw h (ap (λ l. x ∷ l) r))
    (λ (h : present types s ≡ false). rw h r)

pub map-append : {A B : Type 0} (f : A → B) (xs ys : List A) → map f (xs ++ ys) ≡ map f xs ++ map f ys
map-append f [] ys = refl
map-append f (x ∷ xs) ys = ap (λ l. f x ∷ l) (map-append f xs ys)

among-nil : (types : ℕ) → present_among {A = ℕ} types [] [] ≡ []
unfolding present_among
among-nil types = refl

-- those of the first i are put
abbrev pub Along : ℕ → List ℕ → List ℕ → Writer → Writer → ℕ → Type 0
Along types ts vs a b i = Writes (spaced (map decimal (present_among types (take i ts) (take i vs)))) a b

pub along-start : (types : ℕ) (ts vs : List ℕ) (a : Writer) → Along types ts vs a a 0
along-start types ts vs a = writes-as (ap (λ l. spaced (map decimal l)) (sym (among-nil types))) (no_words a)

module _ (types : ℕ) (ts vs : List ℕ) {a b : Writer} (i : ℕ) (size : length ts ≡ length vs) (p : Along types ts vs a b i) where
  pub along-turn : (t : ℕ) {c : Writer} → i < length vs → t ≡ get_or ts i 0
      → Writes (spaced (map decimal (present_among types (t ∷ []) (get_or vs i 0 ∷ [])))) b c → Along types ts vs a c (i + 1)
  along-turn t h e q =
      let j : length (take i ts) ≡ length (take i vs) = length-take-le i ts (omega (arith, size)) ∙ sym (length-take-le i vs (omega arith)) in
      let done = present_among types (take i ts) (take i vs) in
      let more = present_among types (get_or ts i 0 ∷ []) (get_or vs i 0 ∷ []) in
      let s : map decimal done ++ map decimal more ≡ map decimal (present_among types (take (suc i) ts) (take (suc i) vs))
      = sym (map-append decimal done more) ∙ ap (map decimal) (sym (among-snoc types (take i ts) (take i vs) (get_or ts i 0) (get_or vs i 0) j))
      ∙ rw (take-suc ts i 0 (omega (arith, size)), take-suc vs i 0 h) in
      rw add-one (writes-as (ap spaced s) (words (map decimal done) (map decimal more) p (rw e at q)))

  pub along-end : length vs ≤ i → Writes (spaced (map decimal (present_among types ts vs))) a b
  along-end h = writes-as (rw (take_all i ts (omega (arith, size)), take_all i vs h)) p
