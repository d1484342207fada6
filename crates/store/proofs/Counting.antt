-- Counts: what a place holds of each table, and the counts of a list with another element.
use Rattle.std.proofs.Common.{◌≡◌, ℕ, zero, suc, ◌+◌, ◌-◌, ◌%◌, ◌^◌, ◌<◌, ◌≤◌, Bool, true, false, cond, eqb, List, [], ◌∷◌, ◌++◌, length, get_or, take, set, sym, refl, ap, ◌∙◌, subst, ⊎_elim, le_of_suc-le-suc, not-suc-le-zero, mod-eq_of_lt, arith, length-set, length-take-le, take_all, get_or-set_other, take-suc, get_or-set_same, ext_get_or, eq-eqb, ne_eqb, eqb-true}
use lib.ListN.{length-map, get_or-eq_default}
use Rattle.lists.specs.Lists.{every, up_to}
use Rattle.lists.proofs.Cases.{by-test, and_intro, and-false, and-false-second, and-true, cond-true, cond-false, eq-or-ne, lt-or-le}
use Rattle.lists.proofs.Every.{every-at, up-length, up_at}
use Rattle.lists.proofs.Maps.{mapped_at}
use Rattle.lists.proofs.Bytes.{eq-bytes, bytes_eq}
use Rattle.store.specs.declared.Entry.{Entry}
use Rattle.store.specs.declared.Store.{Store}
use Rattle.store.specs.Store.{entry_held, owned_by, count_of, counts_of, raised, counted, no_entry}
use Rattle.store.specs.Shape.{Cells}
use Rattle.store.specs.Sound.{counts_right}
use Rattle.store.specs.Counts.{sum, held_count}

-- ---- the counts of a list, by place

-- what an entry adds to the count of a table
abbrev pub one : ℕ → Entry → ℕ
one table e = cond (owned_by table e) 1 0

pub one-most : (table : ℕ) (e : Entry) → one table e ≤ 1
one-most table e = most (owned_by table e)
  where
    most : (t : Bool) → cond t 1 0 ≤ 1
    most true = omega arith
    most false = omega arith

pub one_free : (table : ℕ) (e : Entry) → entry_held e ≡ false → one table e ≡ 0
unfolding owned_by
one_free table e h = cond-false (owned_by table e) 1 0 (and-false (entry_held e) (eqb e.table table) h)

pub one-own : (table : ℕ) (e : Entry) → entry_held e ≡ true → e.table ≡ table → one table e ≡ 1
unfolding owned_by
one-own table e h q = cond-true (owned_by table e) 1 0 (and_intro (entry_held e) (eqb e.table table) h (eq-eqb e.table table q))

pub one-other : (table : ℕ) (e : Entry) → (e.table ≡ table → ⊥) → one table e ≡ 0
unfolding owned_by
one-other table e f = cond-false (owned_by table e) 1 0 (and-false-second (entry_held e) (eqb e.table table) (ne_eqb e.table table f))

pub counts-length : (es : List Entry) → length (counts_of es) ≡ 8
unfolding counts_of
counts-length es = length-map (up_to 8) (λ (table : ℕ). count_of table es) ∙ up-length 8

pub counts-at : (es : List Entry) (table : ℕ) → table < 8 → get_or (counts_of es) table 0 ≡ count_of table es
unfolding counts_of
counts-at es table l =
    mapped_at (λ (k : ℕ). count_of k es) (up_to 8) table 0 0 (omega (arith, up-length 8)) ∙ ap (λ (k : ℕ). count_of k es) (up_at 8 table 0 l)

-- eight numbers that are the counts are all of them
pub counts-are : (cs : List ℕ) (es : List Entry) → length cs ≡ 8 → ((table : ℕ) → table < 8 → get_or cs table 0 ≡ count_of table es) → cs ≡ counts_of es
counts-are cs es n f =
    ext_get_or 0 cs (counts_of es) (n ∙ sym (counts-length es)) (λ i l. f i (omega (arith, n)) ∙ sym (counts-at es i (omega (arith, n))))

pub count_most : (table : ℕ) (es : List Entry) → count_of table es ≤ length es
unfolding count_of
count_most table [] = omega arith
count_most table (e ∷ es) = omega (arith, count_most table es, one-most table e)

pub counts-cells : (es : List Entry) → length es < 2 ^ 32 → Cells 8 32 (counts_of es)
counts-cells es l =
    record {
      size = counts-length es;
      small = λ i.
          ⊎_elim
          (λ m. omega (arith, counts-at es i m, count_most i es))
          (λ m. omega (arith, get_or-eq_default (counts_of es) 0 {n = i} (omega (arith, counts-length es))))
          (lt-or-le i 8);
    }

-- the test of them
pub right-counts : (s : Store) → counts_right s ≡ true → s.counts ≡ counts_of s.entries
unfolding counts_right
right-counts s h = eq-bytes s.counts (counts_of s.entries) h

pub counts-right : (s : Store) → s.counts ≡ counts_of s.entries → counts_right s ≡ true
unfolding counts_right
counts-right s e = bytes_eq s.counts (counts_of s.entries) e

-- ---- the counts add up to the number of held entries

-- what an entry adds to all eight, and what one of the table at place k adds
unfoldable eight : Entry → ℕ
eight e = one 0 e + one 1 e + one 2 e + one 3 e + one 4 e + one 5 e + one 6 e + one 7 e

unfoldable eight_at : ℕ → ℕ
eight_at k =
    cond (eqb k 0) 1 0 + cond (eqb k 1) 1 0 + cond (eqb k 2) 1 0 + cond (eqb k 3) 1 0 + cond (eqb k 4) 1 0 + cond (eqb k 5) 1 0 + cond (eqb k 6) 1 0
    + cond (eqb k 7) 1 0

unfoldable is_once : ℕ → Bool
is_once k = eqb (eight_at k) 1

all_once : every is_once (up_to 8) ≡ true
unfolding every up_to is_once eight_at
all_once = refl

once-at : (k : ℕ) → k < 8 → eight_at k ≡ 1
unfolding is_once
once-at k l =
    eqb-true (eight_at k) 1 (subst (λ (n : ℕ). is_once n ≡ true) (up_at 8 k 0 l) (every-at is_once (up_to 8) 0 k all_once (omega (arith, up-length 8))))

pub one-held : (table : ℕ) (e : Entry) → entry_held e ≡ true → one table e ≡ cond (eqb e.table table) 1 0
unfolding owned_by
one-held table e h = ap (λ (t : Bool). cond {A = ℕ} t 1 0) (and-true (entry_held e) (eqb e.table table) h)

-- a held entry of one of the eight tables is counted once, a free place never
eight-held : (e : Entry) → entry_held e ≡ true → e.table < 8 → eight e ≡ 1
unfolding eight eight_at
eight-held e h l =
    let sum = once-at e.table l in
    omega (arith, sum, one-held 0 e h, one-held 1 e h, one-held 2 e h, one-held 3 e h, one-held 4 e h, one-held 5 e h, one-held 6 e h, one-held 7 e h)

eight-free : (e : Entry) → entry_held e ≡ false → eight e ≡ 0
unfolding eight
eight-free e h =
    omega (arith, one_free 0 e h, one_free 1 e h, one_free 2 e h, one_free 3 e h, one_free 4 e h, one_free 5 e h, one_free 6 e h, one_free 7 e h)

eight-once : (e : Entry) → (entry_held e ≡ true → e.table < 8) → eight e ≡ cond (entry_held e) 1 0
eight-once e f =
    by-test (entry_held e)
    (λ h. eight-held e h (f h) ∙ sym (cond-true (entry_held e) 1 0 h))
    (λ h. eight-free e h ∙ sym (cond-false (entry_held e) 1 0 h))

sum_step : (e : Entry) (es : List Entry) → sum (counts_of (e ∷ es)) ≡ eight e + sum (counts_of es)
unfolding sum counts_of count_of up_to eight
sum_step e es = omega arith

pub counts-sum : (es : List Entry) → ((i : ℕ) → i < length es → entry_held (get_or es i no_entry) ≡ true → (get_or es i no_entry).table < 8)
    → sum (counts_of es) ≡ held_count es
unfolding held_count
counts-sum [] f = none
  where
    none : sum (counts_of []) ≡ 0
    none = unfold sum counts_of count_of up_to in refl
counts-sum (e ∷ es) f =
    omega (arith, sum_step e es, eight-once e (f 0 (omega arith)), counts-sum es (λ i l. f (suc i) (omega arith)))

-- ---- another element at a place: its table gains what the old one's loses

pub count_set : (table : ℕ) (es : List Entry) (place : ℕ) (e : Entry) → place < length es
    → count_of table (set es place e) + one table (get_or es place no_entry) ≡ count_of table es + one table e
unfolding count_of
count_set table [] place e l = absurd (not-suc-le-zero l)
count_set table (x ∷ es) zero e l = omega arith
count_set table (x ∷ es) (suc place) e l = omega (arith, count_set table es place e (le_of_suc-le-suc l))

-- an entry of the same table in its place leaves them
pub count-replaced : (table : ℕ) (es : List Entry) (place : ℕ) (e : Entry) → place < length es → owned_by table (get_or es place no_entry) ≡ owned_by table e
    → count_of table (set es place e) ≡ count_of table es
count-replaced table es place e l q =
    let same : one table (get_or es place no_entry) ≡ one table e = ap (λ (t : Bool). cond {A = ℕ} t 1 0) q in
    omega (arith, count_set table es place e l, same)

-- ---- one more

pub raised-length : (table : ℕ) (cs : List ℕ) → length (raised table cs) ≡ length cs
unfolding raised
raised-length table cs = length-set cs table ((get_or cs table 0 + 1) % 2 ^ 32)

raised-own : (table : ℕ) (cs : List ℕ) → table < length cs → get_or cs table 0 + 1 < 2 ^ 32 → get_or (raised table cs) table 0 ≡ get_or cs table 0 + 1
unfolding raised
raised-own table cs l m = get_or-set_same cs table ((get_or cs table 0 + 1) % 2 ^ 32) 0 l ∙ mod-eq_of_lt m

raised-other : (table k : ℕ) (cs : List ℕ) → (k ≡ table → ⊥) → get_or (raised table cs) k 0 ≡ get_or cs k 0
unfolding raised
raised-other table k cs f = get_or-set_other cs table k ((get_or cs table 0 + 1) % 2 ^ 32) 0 f

pub count_none : (held table : ℕ) (cs : List ℕ) → (held ≡ 1 → ⊥) → cs ≡ counted held table cs
unfolding counted
count_none held table cs f = sym (cond-false (eqb held 1) (raised table cs) cs (ne_eqb held 1 f))

-- one more at the table of an entry: the counts of a list with one entry more of it
raised-counts : (xs ys : List Entry) (e : Entry) → length xs < 2 ^ 32 - 1 → entry_held e ≡ true
    → ((table : ℕ) → count_of table ys ≡ count_of table xs + one table e) → raised e.table (counts_of xs) ≡ counts_of ys
raised-counts xs ys e l h f =
    counts-are (raised e.table (counts_of xs)) ys (raised-length e.table (counts_of xs) ∙ counts-length xs)
    (λ table m.
    ⊎_elim
    (λ q.
    let old = counts-at xs table m in
    let own = one-own table e h (sym q) in
    subst (λ (k : ℕ). get_or (raised k (counts_of xs)) table 0 ≡ count_of table ys) q
    (raised-own table (counts_of xs) (omega (arith, counts-length xs)) (omega (arith, old, count_most table xs)) ∙ omega (arith, old, own, f table)))
    (λ q. raised-other e.table table (counts_of xs) q ∙ (counts-at xs table m ∙ omega (arith, f table, one-other table e (λ z. q (sym z)))))
    (eq-or-ne table e.table))

-- a new entry raises the counts
pub counts-new : (es : List Entry) (place : ℕ) (e : Entry) → place < length es → length es < 2 ^ 32 - 1
    → entry_held (get_or es place no_entry) ≡ false → entry_held e ≡ true → raised e.table (counts_of es) ≡ counts_of (set es place e)
counts-new es place e l m f h =
    raised-counts es (set es place e) e m h
    (λ table. omega (arith, count_set table es place e l, one_free table (get_or es place no_entry) f))

-- replacing leaves the counts
pub counts-replaced : (es : List Entry) (place : ℕ) (e : Entry) → place < length es → ((table : ℕ) → owned_by table (get_or es place no_entry) ≡ owned_by table e)
    → counts_of es ≡ counts_of (set es place e)
counts-replaced es place e l q =
    counts-are (counts_of es) (set es place e) (counts-length es)
    (λ table m. counts-at es table m ∙ sym (count-replaced table es place e l (q table)))

-- ---- counting one entry after another

pub count-append : (table : ℕ) (xs ys : List Entry) → count_of table (xs ++ ys) ≡ count_of table xs + count_of table ys
unfolding count_of
count-append table [] ys = omega arith
count-append table (x ∷ xs) ys = omega (arith, count-append table xs ys)

count_next : (table : ℕ) (es : List Entry) (i : ℕ) → i < length es → count_of table (take (suc i) es) ≡ count_of table (take i es) + one table (get_or es i no_entry)
unfolding count_of
count_next table es i l =
    ap (count_of table) (take-suc es i no_entry l) ∙ (count-append table (take i es) (get_or es i no_entry ∷ []) ∙ omega arith)

pub counted_none : (es : List Entry) → counts_of (take 0 es) ≡ 0 ∷ 0 ∷ 0 ∷ 0 ∷ 0 ∷ 0 ∷ 0 ∷ 0 ∷ []
unfolding counts_of count_of up_to
counted_none es = refl

pub counted_next : (es : List Entry) (i : ℕ) → i < length es → i < 128
    → counted (get_or es i no_entry).held (get_or es i no_entry).table (counts_of (take i es)) ≡ counts_of (take (suc i) es)
unfolding counted entry_held
counted_next es i l m =
    let e = get_or es i no_entry in
    by-test (eqb e.held 1)
    (λ h.
    cond-true (eqb e.held 1) (raised e.table (counts_of (take i es))) (counts_of (take i es)) h
    ∙ raised-counts (take i es) (take (suc i) es) e (omega (arith, length-take-le i es (omega arith))) h (λ table. count_next table es i l))
    (λ h. cond-false (eqb e.held 1) (raised e.table (counts_of (take i es))) (counts_of (take i es)) h ∙ same-counts es i l h)
  where
    same-counts : (es : List Entry) (i : ℕ) → i < length es → eqb (get_or es i no_entry).held 1 ≡ false → counts_of (take i es) ≡ counts_of (take (suc i) es)
    same-counts es i l h =
        counts-are (counts_of (take i es)) (take (suc i) es) (counts-length (take i es))
        (λ table m. counts-at (take i es) table m ∙ omega (arith, count_next table es i l, one_free table (get_or es i no_entry) h))

pub counted-free : (es : List Entry) (i : ℕ) → i < length es → i < 128 → (get_or es i no_entry).held ≡ 0 → counts_of (take i es) ≡ counts_of (take (suc i) es)
counted-free es i l m h =
    let e = get_or es i no_entry in
    count_none e.held e.table (counts_of (take i es)) (λ q. omega arith) ∙ counted_next es i l m

pub counted-all : (es : List Entry) (n : ℕ) → length es ≡ n → counts_of (take n es) ≡ counts_of es
counted-all es n e = ap counts_of (take_all n es (omega (arith, e)))
