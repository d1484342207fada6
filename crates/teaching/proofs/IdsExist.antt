-- Every store can be sent under all IDs.
use Prim.Native.Nat.{ℕ, zero, suc, ◌+◌, ◌^◌, ◌<◌}
use native.Mathlib.Omega.{arith}
use mathlib.Core.Path.{◌≡◌, refl, sym, ap, ◌∙◌}
use mathlib.Core.List.{List, [], ◌∷◌, map}
use mathlib.Core.Bool.{true, not, ◌&&◌}
use lib.ListN.{length, get_or, drop, length-map}
use lib.Dec.{eqb, ltb, leb}
use borrow.Author.Tests.{lt-ltb, eq-eqb, ne_eqb, le-leb, leb-true}
use Rattle.lists.specs.Lists.{every, distinct, among}
use Rattle.lists.proofs.Cases.{by-test, and_intro, or-true, or-second}
use Rattle.store.specs.declared.Table.{Table}
use Rattle.store.specs.declared.Store.{Store}
use Rattle.store.specs.Store.{table_held, no_table}
use Rattle.store.specs.Shape.{StoreShape}
use Rattle.store.specs.Contents.{table_at}
use Rattle.teaching.specs.Teaching.{TableIds, places_of, is32_bit, ids_fit, same_table, ids_from, IdsExist}
use Rattle.teaching.proofs.Members.{Each, each_map, members-every, every-member, drop-next, drop-first, drop-within}
use Rattle.teaching.proofs.Owned.{places-each}

module _ (t : Store) (table_id update_id : ℕ → ℕ) where
  abbrev ids : ℕ → List Table → List TableIds
  ids = ids_from table_id update_id t

  abbrev ids_at : ℕ → TableIds
  ids_at i = record { table = i; id = table_id i; updates = map update_id (places_of t i) }

  -- they go up
  from-least : (i : ℕ) (us : List Table) → every (λ (l : TableIds). leb i l.table) (ids i us) ≡ true
  unfolding ids_from every
  from-least i [] = refl
  from-least i (u ∷ us) =
      let rest : every (λ (l : TableIds). leb i l.table) (ids (i + 1) us) ≡ true =
      members-every (λ (l : TableIds). leb i l.table) (ids (i + 1) us)
      (λ l m. let k = leb-true (i + 1) l.table (every-member (λ (l : TableIds). leb (i + 1) l.table) (ids (i + 1) us) l (from-least (i + 1) us) m) in
      le-leb i l.table (omega arith)) in
      by-test (table_held u)
      (λ h. rw h (and_intro (leb i i) (every (λ (l : TableIds). leb i l.table) (ids (i + 1) us)) (le-leb i i (omega arith)) rest))
      (λ h. rw h rest)

  from-once : (i : ℕ) (us : List Table) → distinct same_table (ids i us) ≡ true
  unfolding ids_from distinct
  from-once i [] = refl
  from-once i (u ∷ us) =
      let others : every (λ (l : TableIds). not (same_table (ids_at i) l)) (ids (i + 1) us) ≡ true =
      members-every (λ (l : TableIds). not (same_table (ids_at i) l)) (ids (i + 1) us)
      (λ l m.
      let k = leb-true (i + 1) l.table (every-member (λ (l : TableIds). leb (i + 1) l.table) (ids (i + 1) us) l (from-least (i + 1) us) m) in
      let n : i ≡ l.table → ⊥ = λ q. omega arith in
      rw (ne_eqb i l.table n)) in
      by-test (table_held u)
      (λ h. rw h (and_intro (every (λ (l : TableIds). not (same_table (ids_at i) l)) (ids (i + 1) us)) (distinct same_table (ids (i + 1) us)) others (from-once (i + 1) us)))
      (λ h. rw h (from-once (i + 1) us))

  -- every held table has one
  from_all : (i : ℕ) (us : List Table) (j : ℕ) → j < length us → table_held (get_or us j no_table) ≡ true
      → among (map (λ (l : TableIds). l.table) (ids i us)) (i + j) ≡ true
  unfolding ids_from among
  from_all i [] j l h = absurd (omega arith)
  from_all i (u ∷ us) zero l h =
      let e : i + 0 ≡ i = omega arith in
      rw h (or-true (eqb (i + 0) i) (among (map (λ (l : TableIds). l.table) (ids (i + 1) us)) (i + 0)) (eq-eqb (i + 0) i e))
  from_all i (u ∷ us) (suc j) l h =
      let e : i + 1 + j ≡ i + suc j = omega arith in
      let later = among (map (λ (l : TableIds). l.table) (ids (i + 1) us)) (i + suc j) in
      let r : later ≡ true =
      ap (among (map (λ (l : TableIds). l.table) (ids (i + 1) us))) (sym e) ∙ from_all (i + 1) us j (omega arith) h in
      by-test (table_held u)
      (λ k. rw k (or-second (eqb (i + suc j) i) later r ∙ r))
      (λ k. rw k r)

  module _ (shape : StoreShape t) (tables : (i : ℕ) → i < 8 → table_id i < 2 ^ 32) (updates : (i : ℕ) → i < 128 → update_id i < 2 ^ 32) where
    ids-small : (places : List ℕ) → Each (λ p. p < 128) places → every is32_bit (map update_id places) ≡ true
    unfolding Each every
    ids-small [] h = refl
    ids-small (p ∷ places) h =
        and_intro (is32_bit (update_id p)) (every is32_bit (map update_id places)) (lt-ltb (update_id p) (2 ^ 32) (updates p h.0)) (ids-small places h.1)

    places-within : (table : ℕ) → Each (λ p. p < 128) (places_of t table)
    places-within table =
        each_map _ (λ p. p < 128) (λ p h. omega (arith, h.0, shape.entries)) (places_of t table) (places-each table t.entries 0 t.entries refl)

    one-fits : (i : ℕ) → i < 8 → table_held (table_at t i) ≡ true → ids_fit t (ids_at i) ≡ true
    unfolding ids_fit
    one-fits i l h =
        let places = places_of t i in
        let small = every is32_bit (map update_id places) in
        let counts = eqb (length (map update_id places)) (length places) in
        and_intro (ltb i 8 && table_held (table_at t i)) (is32_bit (table_id i) && (small && counts))
        (and_intro (ltb i 8) (table_held (table_at t i)) (lt-ltb i 8 l) h)
        (and_intro (is32_bit (table_id i)) (small && counts) (lt-ltb (table_id i) (2 ^ 32) (tables i l))
        (and_intro small counts (ids-small places (places-within i)) (eq-eqb (length (map update_id places)) (length places) (length-map places update_id))))

    from_each : (i : ℕ) (us : List Table) → drop i t.tables ≡ us → every (ids_fit t) (ids i us) ≡ true
    unfolding ids_from every
    from_each i [] q = refl
    from_each i (u ∷ us) q =
        let rest = from_each (i + 1) us (drop-next t.tables i u us q) in
        by-test (table_held u)
        (λ h.
        rw h
        (and_intro (ids_fit t (ids_at i)) (every (ids_fit t) (ids (i + 1) us))
        (one-fits i (omega (arith, drop-within t.tables i u us q, shape.tables)) (ap table_held (drop-first t.tables i u us no_table q) ∙ h))
        rest))
        (λ h. rw h rest)

pub ids-exist : IdsExist
ids-exist t table_id update_id shape tables updates = record {
  each = from_each t table_id update_id shape tables updates 0 t.tables refl;
  once = from-once t table_id update_id 0 t.tables;
  all = λ place l h.
      let e : 0 + place ≡ place = omega arith in
      ap (among (map (λ (l : TableIds). l.table) (ids_from table_id update_id t 0 t.tables))) (sym e)
      ∙ from_all t table_id update_id 0 t.tables place (omega (arith, shape.tables)) h;
}
