-- The loop of `pass_entries`: the store with the entries before place i changed, the others as they came, and the counts of those that are left.
use Rattle.std.proofs.Common.{◌≡◌, ℕ, zero, suc, ◌+◌, ◌≤◌, ◌<◌, List, [], ◌∷◌, map, length, get_or, set, replicate, take, refl, sym, ap, ◌∙◌, arith, add-one}
use lib.ListN.{length-map}
use Rattle.std.proofs.lemmas.List.{get_or_default}
use Rattle.lists.proofs.Maps.{map_first, first-none, first-all, first-put, first-stays}
use Rattle.store.specs.declared.Entry.{Entry}
use Rattle.store.specs.declared.Store.{Store}
use Rattle.store.specs.Store.{counts_of, counted, with_entries, no_entry}
use Rattle.store.specs.Time.{pass_entry, pass_time}
use Rattle.store.proofs.Counting.{counted_none, counted_next, counted-free, counted-all}
use Rattle.store.proofs.Passing.{flag-stays, passed-at}

module _ (f : Entry → Entry) where
  -- the entry at i, before turn i
  first-old : (xs : List Entry) (i : ℕ) (d : Entry) → get_or (map_first f xs i) i d ≡ get_or xs i d
  unfolding map_first
  first-old [] i d = refl
  first-old (x ∷ xs) zero d = refl
  first-old (x ∷ xs) (suc i) d = first-old xs i d

  first-long : (xs : List Entry) (i : ℕ) → length (map_first f xs i) ≡ length xs
  unfolding map_first
  first-long [] i = refl
  first-long (x ∷ xs) zero = ap suc (first-long xs zero)
  first-long (x ∷ xs) (suc i) = ap suc (first-long xs i)

pub record Turned (e : ℕ) (old now : Store) (cs : List ℕ) (i : ℕ) : Type 0 where
  pub within : i ≤ 128
  -- how many entries there are is known once one of them is read
  pub size : 0 < i → length old.entries ≡ 128
  pub tables : now.tables ≡ old.tables
  pub entries : now.entries ≡ map_first (pass_entry e) old.entries i
  pub counts : cs ≡ counts_of (take i (map (pass_entry e) old.entries))

module _ (e : ℕ) (old : Store) where
  abbrev passed : List Entry
  passed = map (pass_entry e) old.entries

  pub turn_start : Turned e old old (replicate 8 0) 0
  turn_start =
      record {
        within = omega arith;
        size = λ l. absurd (omega arith);
        tables = refl;
        entries = sym (first-none (pass_entry e) old.entries);
        counts = sym (counted_none passed);
      }

  module _ {now : Store} {cs : List ℕ} {i : ℕ} (r : Turned e old now cs i) (n : length now.entries ≡ 128) (l : i < 128) where
    old_size : length old.entries ≡ 128
    old_size = sym (first-long (pass_entry e) old.entries i) ∙ ap length (sym r.entries) ∙ n

    inside : i < length old.entries
    inside = omega (arith, old_size)

    left-long : i < length passed
    left-long = omega (arith, length-map old.entries (pass_entry e), inside)

    -- the entry that is read, whatever the default
    read : (d : Entry) → get_or now.entries i d ≡ get_or old.entries i no_entry
    read d = ap (λ (xs : List Entry). get_or xs i d) r.entries ∙ first-old (pass_entry e) old.entries i d ∙ get_or_default old.entries i d no_entry inside

    -- and what becomes of it
    left_at : (d : Entry) → get_or passed i no_entry ≡ pass_entry e (get_or now.entries i d)
    left_at d = passed-at e old.entries i inside ∙ ap (pass_entry e) (sym (read d))

    pub turn_held : (d left : Entry) (more : List ℕ) → left ≡ pass_entry e (get_or now.entries i d) → more ≡ counted left.held left.table cs
        → Turned e old (record { tables = now.tables; counts = now.counts; entries = set now.entries i left }) more (i + 1)
    turn_held d left more p q =
        let is : left ≡ get_or passed i no_entry = p ∙ sym (left_at d) in
        rw add-one
        (record {
          within = l;
          size = λ _. old_size;
          tables = r.tables;
          entries =
              ap (set now.entries i) (p ∙ ap (pass_entry e) (ap (λ (xs : List Entry). get_or xs i d) r.entries))
              ∙ ap (λ (xs : List Entry). set xs i (pass_entry e (get_or (map_first (pass_entry e) old.entries i) i d))) r.entries
              ∙ first-put (pass_entry e) old.entries i d inside;
          counts =
              q
              ∙ ap (λ (x : Entry). counted x.held x.table cs) is
              ∙ ap (counted (get_or passed i no_entry).held (get_or passed i no_entry).table) r.counts
              ∙ counted_next passed i left-long l;
        })

    -- a free place stays
    pub turn_free : (d : Entry) → (get_or now.entries i d).held ≡ 0 → Turned e old now cs (i + 1)
    turn_free d h =
        let same : get_or now.entries i d ≡ get_or (map_first (pass_entry e) old.entries i) i d = ap (λ (xs : List Entry). get_or xs i d) r.entries in
        let stays : get_or now.entries i d ≡ pass_entry e (get_or now.entries i d) = flag-stays e (get_or now.entries i d) (λ one. omega (arith, one, h)) in
        rw add-one
        (record {
          within = l;
          size = λ _. old_size;
          tables = r.tables;
          entries = r.entries ∙ first-stays (pass_entry e) old.entries i d inside (sym same ∙ stays ∙ ap (pass_entry e) same);
          counts = r.counts ∙ counted-free passed i left-long l (ap (λ (x : Entry). x.held) (left_at d ∙ sym stays) ∙ h);
        })

  -- after the loop, with these counts
  pub turn_end : {now : Store} {cs : List ℕ} {i : ℕ} → Turned e old now cs i → 128 ≤ i → record { tables = now.tables; counts = cs; entries = now.entries } ≡ pass_time e old
  unfolding pass_time with_entries
  turn_end {now} {cs} {i} r l =
      let m : length old.entries ≡ 128 = r.size (omega arith) in
      let n : i ≡ length old.entries = omega (arith, r.within) in
      let es : now.entries ≡ passed = r.entries ∙ ap (map_first (pass_entry e) old.entries) n ∙ first-all (pass_entry e) old.entries in
      let ds : cs ≡ counts_of passed = r.counts ∙ counted-all passed i (length-map old.entries (pass_entry e) ∙ sym n) in
      rw (r.tables, es, ds)
