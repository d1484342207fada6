-- The entries of a table in place order, and those that a reader makes of them.
use Prim.Native.Nat.{ℕ, zero, suc, ◌+◌, ◌≤◌, ◌<◌}
use native.Mathlib.Omega.{arith}
use mathlib.Core.Path.{◌≡◌, refl, sym, ap, subst, ◌∙◌}
use mathlib.Core.Logic.{inl, inr}
use mathlib.Core.List.{List, [], ◌∷◌, ◌++◌, map}
use mathlib.Core.Bool.{Bool, true, cond, not}
use lib.ListN.{length, get_or, drop, length-append, length-map}
use lib.Dec.{eqb}
use borrow.Author.Tests.{eqb-true, eq-eqb}
use Rattle.lists.specs.Lists.{every, distinct}
use Rattle.lists.proofs.Cases.{by-test, split, and_first, and_second, and_intro}
use Rattle.store.specs.declared.Entry.{Entry}
use Rattle.store.specs.declared.Store.{Store}
use Rattle.store.specs.Store.{entry_held, owned_by, no_entry}
use Rattle.store.specs.Contents.{table_at, entry_at}
use Rattle.teaching.specs.Teaching.{TableIds, places_from, places_of, same_table}
use Rattle.teaching.proofs.Members.{Member, Each, drop-next, drop-first, drop-within, member-left, member_right, member-either, member-map, map-member, every-member, members-every, hits, hits-once, tally, tally-none, tally-more, tally-most}
use Rattle.teaching.proofs.OneMessage.{read_entry}
use Rattle.teaching.proofs.Running.{made, places_taught}

-- ---- the held entries of a table

unfoldable pub owned : ℕ → List Entry → List Entry
owned table [] = []
owned table (e ∷ es) = cond (owned_by table e) (e ∷ owned table es) (owned table es)

module _ (table : ℕ) where
  pub owned-member : (e : Entry) (es : List Entry) → Member e (owned table es) → Member e es × (owned_by table e ≡ true)
  unfolding owned Member
  owned-member e [] = λ m. absurd m
  owned-member e (f ∷ es) =
      by-test (owned_by table f)
      (λ t.
      rw t
      (λ m.
      split m
      (λ q. (inl q, ap (owned_by table) q ∙ t))
      (λ n. let r = owned-member e es n in (inr r.0, r.1))))
      (λ t. rw t (λ m. let r = owned-member e es m in (inr r.0, r.1)))

  pub member-owned : (e : Entry) (es : List Entry) → Member e es → owned_by table e ≡ true → Member e (owned table es)
  unfolding owned Member
  member-owned e [] m o = absurd m
  member-owned e (f ∷ es) (inl q) o = rw (sym (ap (owned_by table) q) ∙ o) (inl q)
  member-owned e (f ∷ es) (inr m) o =
      by-test (owned_by table f)
      (λ t. rw t (inr (member-owned e es m o)))
      (λ t. rw t (member-owned e es m o))

  owned-every : (p : Entry → Bool) (es : List Entry) → every p es ≡ true → every p (owned table es) ≡ true
  owned-every p es h = members-every p (owned table es) (λ e m. every-member p es e h (owned-member e es m).0)

  pub owned-distinct : (alike : Entry → Entry → Bool) (es : List Entry) → distinct alike es ≡ true → distinct alike (owned table es) ≡ true
  unfolding owned distinct
  owned-distinct alike [] h = refl
  owned-distinct alike (e ∷ es) h =
      let others = every (λ f. not (alike e f)) es in
      by-test (owned_by table e)
      (λ t.
      rw t
      (and_intro (every (λ f. not (alike e f)) (owned table es)) (distinct alike (owned table es))
      (owned-every (λ f. not (alike e f)) es (and_first others (distinct alike es) h))
      (owned-distinct alike es (and_second others (distinct alike es) h))))
      (λ t. rw t (owned-distinct alike es (and_second others (distinct alike es) h)))

  pub owned-length : (es : List Entry) → length (owned table es) ≡ hits (owned_by table) es
  unfolding owned hits
  owned-length [] = refl
  owned-length (e ∷ es) =
      let n = owned-length es in
      by-test (owned_by table e)
      (λ t. rw t (omega arith))
      (λ t. rw t (omega arith))

  -- ---- by their places
  module _ (all : List Entry) where
    pub places-owned : (i : ℕ) (es : List Entry) → drop i all ≡ es → map (λ place. get_or all place no_entry) (places_from i table es) ≡ owned table es
    unfolding places_from owned
    places-owned i [] q = refl
    places-owned i (e ∷ es) q =
        let n = places-owned (i + 1) es (drop-next all i e es q) in
        by-test (owned_by table e)
        (λ t. rw (t, drop-first all i e es no_entry q, n))
        (λ t. rw (t, n))

    pub places-each : (i : ℕ) (es : List Entry) → drop i all ≡ es
        → Each (λ place. (place < length all) × (owned_by table (get_or all place no_entry) ≡ true)) (places_from i table es)
    unfolding places_from Each
    places-each i [] q = tt
    places-each i (e ∷ es) q =
        let n = places-each (i + 1) es (drop-next all i e es q) in
        by-test (owned_by table e)
        (λ t. rw t ((drop-within all i e es q, ap (owned_by table) (drop-first all i e es no_entry q) ∙ t), n))
        (λ t. rw t n)

-- a held entry of one table is of no other
pub owner-only : (a b : ℕ) (e : Entry) → owned_by a e ≡ true → owned_by b e ≡ true → a ≡ b
unfolding owned_by
owner-only a b e h k =
    sym (eqb-true e.table a (and_second (entry_held e) (eqb e.table a) h)) ∙ eqb-true e.table b (and_second (entry_held e) (eqb e.table b) k)

-- ---- what a reader makes of them, where the first table has place k there

unfoldable pub taught_entries : Store → ℕ → List TableIds → List Entry
taught_entries t k [] = []
taught_entries t k (l ∷ ids) = map (read_entry k (table_at t l.table)) (owned l.table t.entries) ++ taught_entries t (k + 1) ids

module _ (t : Store) where
  map-made : (k table : ℕ) (places : List ℕ) → map (made t k table) places ≡ map (read_entry k (table_at t table)) (map (λ place. entry_at t place) places)
  map-made k table [] = refl
  map-made k table (p ∷ places) = ap (λ (es : List Entry). made t k table p ∷ es) (map-made k table places)

  pub places-taught : (k : ℕ) (ids : List TableIds) → places_taught t k ids ≡ taught_entries t k ids
  unfolding places_taught taught_entries
  places-taught k [] = refl
  places-taught k (l ∷ ids) =
      rw (map-made k l.table (places_of t l.table), places-owned l.table t.entries 0 t.entries refl, places-taught (k + 1) ids)

  -- an entry that a reader made, and where the IDs of its table stand
  pub record Taught (k : ℕ) (ids : List TableIds) (made : Entry) : Type 0 where
    pub place : ℕ
    pub inside : place < length ids
    pub given : TableIds
    pub at : (d : TableIds) → get_or ids place d ≡ given
    pub entry : Entry
    pub member : Member entry t.entries
    pub owns : owned_by given.table entry ≡ true
    pub is : made ≡ read_entry (k + place) (table_at t given.table) entry

  pub member-taught : (k : ℕ) (ids : List TableIds) (e : Entry) → Member e (taught_entries t k ids) → Taught k ids e
  unfolding taught_entries Member
  member-taught k [] e m = absurd m
  member-taught k (l ∷ ids) e m =
      let mine = map (read_entry k (table_at t l.table)) (owned l.table t.entries) in
      split (member-either e mine (taught_entries t (k + 1) ids) m)
      (λ a.
      let s = map-member (read_entry k (table_at t l.table)) e (owned l.table t.entries) a in
      let o = owned-member l.table s.from t.entries s.member in
      let z : k ≡ k + 0 = omega arith in
      record {
        place = 0;
        inside = omega arith;
        given = l;
        at = λ d. refl;
        entry = s.from;
        member = o.0;
        owns = o.1;
        is = s.is ∙ ap (λ (n : ℕ). read_entry n (table_at t l.table) s.from) z;
      })
      (λ b.
      let r = member-taught (k + 1) ids e b in
      let z : k + 1 + r.place ≡ k + suc r.place = omega arith in
      record {
        place = suc r.place;
        inside = omega (arith, r.inside);
        given = r.given;
        at = r.at;
        entry = r.entry;
        member = r.member;
        owns = r.owns;
        is = r.is ∙ ap (λ (n : ℕ). read_entry n (table_at t r.given.table) r.entry) z;
      })

  pub taught-member : (k : ℕ) (ids : List TableIds) (place : ℕ) (d : TableIds) (e : Entry) → place < length ids → Member e t.entries
      → owned_by (get_or ids place d).table e ≡ true
      → Member (read_entry (k + place) (table_at t (get_or ids place d).table) e) (taught_entries t k ids)
  unfolding taught_entries
  taught-member k [] place d e l m o = absurd (omega arith)
  taught-member k (l ∷ ids) zero d e i m o =
      let z : k ≡ k + 0 = omega arith in
      let mine = map (read_entry k (table_at t l.table)) (owned l.table t.entries) in
      subst (λ (n : ℕ). Member (read_entry n (table_at t l.table) e) (taught_entries t k (l ∷ ids))) z
      (member-left (read_entry k (table_at t l.table) e) mine (taught_entries t (k + 1) ids)
      (member-map (read_entry k (table_at t l.table)) e (owned l.table t.entries) (member-owned l.table e t.entries m o)))
  taught-member k (l ∷ ids) (suc place) d e i m o =
      let z : k + 1 + place ≡ k + suc place = omega arith in
      let mine = map (read_entry k (table_at t l.table)) (owned l.table t.entries) in
      subst (λ (n : ℕ). Member (read_entry n (table_at t (get_or ids place d).table) e) (taught_entries t k (l ∷ ids))) z
      (member_right (read_entry (k + 1 + place) (table_at t (get_or ids place d).table) e) mine (taught_entries t (k + 1) ids)
      (taught-member (k + 1) ids place d e (omega arith) m o))

  -- ---- how many there are

  abbrev owns : TableIds → Entry → Bool
  owns l e = owned_by l.table e

  taught-length : (k : ℕ) (ids : List TableIds) → length (taught_entries t k ids) ≡ tally owns ids t.entries
  unfolding taught_entries
  taught-length k [] = sym (tally-none owns t.entries)
  taught-length k (l ∷ ids) =
      let es = owned l.table t.entries in
      let f = read_entry k (table_at t l.table) in
      omega (
        arith,
        length-append (map f es) (taught_entries t (k + 1) ids),
        length-map es f,
        owned-length l.table t.entries,
        taught-length (k + 1) ids,
        tally-more owns l ids t.entries,
      )

  pub taught-most : (k : ℕ) (ids : List TableIds) → distinct same_table ids ≡ true → length (taught_entries t k ids) ≤ length t.entries
  taught-most k ids h =
      omega (
        arith,
        taught-length k ids,
        tally-most owns ids t.entries
            (λ e.
            hits-once (λ (l : TableIds). owns l e) same_table ids h
            (λ l m a b. eq-eqb l.table m.table (owner-only l.table m.table e a b))),
      )
