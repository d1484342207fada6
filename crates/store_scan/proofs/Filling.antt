-- The codes of a store's entries, as a loop makes them: those of the first i entries, and the code of a free place for all others.
use Prim.Native.Nat.{ℕ, zero, suc, ◌+◌, ◌≤◌, ◌<◌}
use native.Mathlib.Omega.{arith}
use native.Mathlib.Nat.{not-suc-le-zero, le_of_suc-le-suc}
use mathlib.Core.Path.{◌≡◌, refl, sym, ap, ◌∙◌}
use mathlib.Core.List.{List, [], ◌∷◌, map}
use lib.ListN.{length, get_or, set, replicate, take}
use Rattle.std.proofs.Common.{add-one}
use Rattle.std.proofs.lemmas.List.{get_or_default}
use Rattle.store.specs.declared.Table.{Table}
use Rattle.store.specs.declared.Entry.{Entry}
use Rattle.store.specs.declared.Store.{Store}
use Rattle.store.specs.Store.{counts_of, counted, no_entry}
use Rattle.store.proofs.Counting.{counted_none, counted_next, counted-free, counted-all}
use Rattle.store_soundness.specs.Codes.{entry_code, counted_codes, store_codes}
use Rattle.store_soundness.proofs.codes.Coding.{free-code}

unfoldable pub filled : List Table → List Entry → ℕ → List ℕ
filled tables [] i = []
filled tables (e ∷ es) zero = 2147483647 ∷ filled tables es zero
filled tables (e ∷ es) (suc i) = entry_code tables e ∷ filled tables es i

module _ (tables : List Table) where
  filled_none : (es : List Entry) → filled tables es zero ≡ replicate (length es) 2147483647
  unfolding filled
  filled_none [] = refl
  filled_none (e ∷ es) = ap (λ (cs : List ℕ). 2147483647 ∷ cs) (filled_none es)

  filled-all : (es : List Entry) → filled tables es (length es) ≡ map (entry_code tables) es
  unfolding filled
  filled-all [] = refl
  filled-all (e ∷ es) = ap (λ (cs : List ℕ). entry_code tables e ∷ cs) (filled-all es)

  -- entry i's code is stored
  filled_put : (es : List Entry) (i : ℕ) → i < length es → set (filled tables es i) i (entry_code tables (get_or es i no_entry)) ≡ filled tables es (suc i)
  unfolding filled
  filled_put [] i lt = absurd (not-suc-le-zero lt)
  filled_put (e ∷ es) zero lt = refl
  filled_put (e ∷ es) (suc i) lt = ap (λ (cs : List ℕ). entry_code tables e ∷ cs) (filled_put es i (le_of_suc-le-suc lt))

  -- entry i is free
  filled-free : (es : List Entry) (i : ℕ) → i < length es → entry_code tables (get_or es i no_entry) ≡ 2147483647 → filled tables es i ≡ filled tables es (suc i)
  unfolding filled
  filled-free [] i lt q = absurd (not-suc-le-zero lt)
  filled-free (e ∷ es) zero lt q = ap (λ (c : ℕ). c ∷ filled tables es zero) (sym q)
  filled-free (e ∷ es) (suc i) lt q = ap (λ (cs : List ℕ). entry_code tables e ∷ cs) (filled-free es i (le_of_suc-le-suc lt) q)

-- before a turn: the codes and the counts of the first i entries. How many there are is known once one of them is read
pub record Filling (tables : List Table) (es : List Entry) (cs ds : List ℕ) (i : ℕ) : Type 0 where
  pub within : i ≤ 128
  pub size : 0 < i → length es ≡ 128
  pub codes : length es ≡ 128 → cs ≡ filled tables es i
  pub found : ds ≡ counts_of (take i es)

module _ (tables : List Table) (es : List Entry) where
  pub fill_start : Filling tables es (replicate 128 2147483647) (replicate 8 0) 0
  fill_start =
      record {
        within = omega arith;
        size = λ l. absurd (omega arith);
        codes = λ n. ap (λ (k : ℕ). replicate k 2147483647) (sym n) ∙ sym (filled_none tables es);
        found = sym (counted_none es);
      }

  module _ {cs ds : List ℕ} {i : ℕ} (r : Filling tables es cs ds i) (n : length es ≡ 128) (l : i < 128) where
    inside : i < length es
    inside = omega arith

    -- the default of a read doesn't matter
    same : (d : Entry) → get_or es i d ≡ get_or es i no_entry
    same d = get_or_default es i d no_entry inside

    -- a held place: its code is stored, and it is counted
    pub fill_held : (d : Entry) (more : List ℕ) (code : ℕ) → more ≡ counted (get_or es i d).held (get_or es i d).table ds → code ≡ entry_code tables (get_or es i d) → Filling tables es (set cs i code) more (i + 1)
    fill_held d more code q t =
        rw add-one
        (record {
          within = l;
          size = λ _. n;
          codes = λ _. ap (set cs i) (t ∙ ap (entry_code tables) (same d)) ∙ ap (λ (xs : List ℕ). set xs i (entry_code tables (get_or es i no_entry))) (r.codes n) ∙ filled_put tables es i inside;
          found = q ∙ ap (λ (x : Entry). counted x.held x.table ds) (same d) ∙ ap (counted (get_or es i no_entry).held (get_or es i no_entry).table) r.found ∙ counted_next es i inside l;
        })

    -- a free one
    pub fill_free : (d : Entry) → (get_or es i d).held ≡ 0 → Filling tables es cs ds (i + 1)
    fill_free d h =
        let z : (get_or es i no_entry).held ≡ 0 = ap (λ (x : Entry). x.held) (sym (same d)) ∙ h in
        rw add-one
        (record {
          within = l;
          size = λ _. n;
          codes = λ _. r.codes n ∙ filled-free tables es i inside (free-code tables (get_or es i no_entry) z);
          found = r.found ∙ counted-free es i inside l z;
        })

-- after the loop
pub fill_end : (tables : List Table) (s : Store) (cs ds : List ℕ) (i : ℕ) → Filling tables s.entries cs ds i → 128 ≤ i → (r : List ℕ) → r ≡ counted_codes cs ds s.counts → r ≡ store_codes tables s
unfolding store_codes
fill_end tables s cs ds i f l r q =
    let m : length s.entries ≡ 128 = f.size (omega arith) in
    let n : i ≡ length s.entries = omega (arith, f.within) in
    let a : cs ≡ map (entry_code tables) s.entries = f.codes m ∙ ap (filled tables s.entries) n ∙ filled-all tables s.entries in
    let b : ds ≡ counts_of s.entries = f.found ∙ counted-all s.entries i (sym n) in
    q ∙ ap (λ (x : List ℕ). counted_codes x ds s.counts) a ∙ ap (λ (x : List ℕ). counted_codes (map (entry_code tables) s.entries) x s.counts) b
