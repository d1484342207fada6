-- The laws of counts in a sound store.
use Rattle.std.proofs.Common.{◌≡◌, ℕ, suc, ◌+◌, ◌<◌, Bool, true, false, cond, ◌&&◌, eqb, leb, List, [], ◌∷◌, map, length, get_or, set, sym, refl, ap, ◌∙◌, ⊎_elim, true≢false, arith, eqb-true, le-leb}
use borrow.Author.Tests.{lt-leb}
use Rattle.lists.proofs.Cases.{by-test, and_first, and_second, and-true, and-true-second, and-false, and-false-second, cond-false, lt-or-le}
use Rattle.store.specs.declared.Entry.{Entry}
use Rattle.store.specs.declared.Store.{Store}
use Rattle.store.specs.Store.{table_held, entry_held, owned_by, count_of, with_entries, put_entry, no_table, no_entry}
use Rattle.store.specs.Sound.{sound_store}
use Rattle.store.specs.Time.{entry_timed, lowered, pass_entry, pass_time}
use Rattle.store.specs.Counts.{sum, expired_of, count_at, FreeHasNone, CountsAddUp, NewAddsOne, ReplacingAddsNone, PassingTakesOff}
use Rattle.store.proofs.Counting.{one, one-held, one_free, counts-at, counts-sum, count_set, counts-replaced}
use Rattle.store.proofs.Facts.{sound-facts}
use Rattle.store.proofs.Passing.{pass-stays, pass-removes, pass-lowers, no-entry-held}

pub counts-add-up : CountsAddUp
counts-add-up s h =
    let r = sound-facts s h in
    ap sum r.counts ∙ counts-sum s.entries (λ i l q. (r.entry i l q).place)

-- a count of a sound store is that of its entries, and so is one after a put
count-is : (s : Store) → sound_store s ≡ true → (table : ℕ) → table < 8 → count_at s table ≡ count_of table s.entries
count-is s h table l = ap (λ (cs : List ℕ). get_or cs table 0) (sound-facts s h).counts ∙ counts-at s.entries table l

-- ---- a free table place

-- no entry of a table, if each held one is another's
none_owned : (table : ℕ) (es : List Entry) → ((i : ℕ) → i < length es → owned_by table (get_or es i no_entry) ≡ false) → count_of table es ≡ 0
unfolding count_of
none_owned table [] f = refl
none_owned table (e ∷ es) f =
    let first : cond {A = ℕ} (owned_by table e) 1 0 ≡ 0 = cond-false (owned_by table e) 1 0 (f 0 (omega arith)) in
    omega (arith, first, none_owned table es (λ i l. f (suc i) (omega arith)))

pub free-has-none : FreeHasNone
unfolding owned_by
free-has-none s table h l f =
    count-is s h table l
    ∙ none_owned table s.entries
    (λ i m.
    let e = get_or s.entries i no_entry in
    by-test (entry_held e)
    (λ q.
    by-test (eqb e.table table)
    (λ o.
    let r = (sound-facts s h).entry i m q in
    absurd (true≢false (sym r.table_held ∙ (ap (λ (n : ℕ). table_held (get_or s.tables n no_table)) (eqb-true e.table table o) ∙ f))))
    (λ o. and-false-second (entry_held e) (eqb e.table table) o))
    (λ q. and-false (entry_held e) (eqb e.table table) q))

put_is : (s : Store) (place : ℕ) (e : Entry) (table : ℕ) → table < 8 → count_at (put_entry s place e) table ≡ count_of table (set s.entries place e)
unfolding put_entry with_entries
put_is s place e table l = counts-at (set s.entries place e) table l

pub new-adds-one : NewAddsOne
new-adds-one s place e h l f q table m =
    let old = one_free table (get_or s.entries place no_entry) f in
    let new = one-held table e q in
    omega (arith, put_is s place e table m, count-is s h table m, count_set table s.entries place e l, old, new)

-- an entry of the same table is counted where the old one was
pub same-owner : (e old : Entry) → owned_by e.table old ≡ true → entry_held e ≡ true → (table : ℕ) → owned_by table old ≡ owned_by table e
unfolding owned_by
same-owner e old o q table =
    let held = and_first (entry_held old) (eqb old.table e.table) o in
    let owner = eqb-true old.table e.table (and_second (entry_held old) (eqb old.table e.table) o) in
    rw (held, q, owner)

pub replacing-adds-none : ReplacingAddsNone
unfolding put_entry with_entries
replacing-adds-none s place e h l o q =
    sym (counts-replaced s.entries place e l (same-owner e (get_or s.entries place no_entry) o q)) ∙ sym (sound-facts s h).counts

-- ---- time

-- what the entry adds to those that expire
abbrev gone : ℕ → ℕ → Entry → ℕ
gone n table x = cond (owned_by table x && (entry_timed x && leb x.remaining n)) 1 0

lowered-owner : (n table : ℕ) (x : Entry) → owned_by table (lowered n x) ≡ owned_by table x
unfolding owned_by entry_held lowered
lowered-owner n table x = refl

one-passed : (n table : ℕ) (x : Entry) → one table (pass_entry n x) + gone n table x ≡ one table x
one-passed n table x =
    by-test (entry_timed x)
    (λ t.
    ⊎_elim
    (λ l.
    let p : one table (pass_entry n x) ≡ one table x = ap (one table) (pass-lowers n x t l) ∙ ap (λ (b : Bool). cond {A = ℕ} b 1 0) (lowered-owner n table x) in
    let g : gone n table x ≡ 0 = none (and-false-second (owned_by table x) (entry_timed x && leb x.remaining n) (and-false-second (entry_timed x) (leb x.remaining n) (lt-leb x.remaining n l))) in
    omega (arith, p, g))
    (λ l.
    let p : one table (pass_entry n x) ≡ 0 = ap (one table) (pass-removes n x t l) ∙ one_free table no_entry no-entry-held in
    let g : gone n table x ≡ one table x = all (and-true (entry_timed x) (leb x.remaining n) t ∙ le-leb x.remaining n l) in
    omega (arith, p, g))
    (lt-or-le n x.remaining))
    (λ t.
    let p : one table (pass_entry n x) ≡ one table x = ap (one table) (pass-stays n x t) in
    let g : gone n table x ≡ 0 = none (and-false-second (owned_by table x) (entry_timed x && leb x.remaining n) (and-false (entry_timed x) (leb x.remaining n) t)) in
    omega (arith, p, g))
  where
    none : (owned_by table x && (entry_timed x && leb x.remaining n)) ≡ false → gone n table x ≡ 0
    none f = cond-false (owned_by table x && (entry_timed x && leb x.remaining n)) 1 0 f

    all : (entry_timed x && leb x.remaining n) ≡ true → gone n table x ≡ one table x
    all t = ap (λ (b : Bool). cond {A = ℕ} b 1 0) (and-true-second (owned_by table x) (entry_timed x && leb x.remaining n) t)

count-passed : (n table : ℕ) (es : List Entry) → count_of table (map (pass_entry n) es) + expired_of n table es ≡ count_of table es
unfolding count_of expired_of
count-passed n table [] = omega arith
count-passed n table (e ∷ es) = omega (arith, one-passed n table e, count-passed n table es)

passed_is : (n : ℕ) (s : Store) (table : ℕ) → table < 8 → count_at (pass_time n s) table ≡ count_of table (map (pass_entry n) s.entries)
unfolding pass_time with_entries
passed_is n s table l = counts-at (map (pass_entry n) s.entries) table l

pub passing-takes-off : PassingTakesOff
passing-takes-off s n table h l = omega (arith, passed_is n s table l, count-passed n table s.entries, count-is s h table l)
