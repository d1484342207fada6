-- Of a sound store: each table can be sent, and what a reader makes of them fits an empty store, no two tables of one name and no two entries of one
-- table and key.
use Prim.Native.Nat.{ℕ, ◌+◌, ◌^◌, ◌≤◌, ◌<◌}
use native.Mathlib.Omega.{arith}
use mathlib.Core.Path.{◌≡◌, refl, sym, ap, subst, ◌∙◌}
use mathlib.Core.List.{List, [], ◌∷◌, map}
use mathlib.Core.Bool.{Bool, true, false, not, ◌&&◌}
use lib.ListN.{length, length-take, length-map}
use lib.Dec.{eqb, ltb, leb}
use borrow.Author.Tests.{ltb-true, eqb-true, eqb-false, eq-eqb}
use Rattle.lists.specs.Lists.{every, distinct, up_to}
use Rattle.lists.proofs.Cases.{never, not-passed, split, lt-or-le, and_first, and_second, and_intro}
use Rattle.lists.proofs.Distinct.{distinct_from}
use Rattle.lists.proofs.Every.{up-length, up_at}
use Rattle.lists.proofs.Bytes.{pad-take}
use Rattle.store.specs.declared.Table.{Table}
use Rattle.store.specs.declared.Entry.{Entry}
use Rattle.store.specs.declared.Store.{Store}
use Rattle.store.specs.Limits.{key_max}
use Rattle.store.specs.Store.{table_held, entry_held, table_free, entry_free, table_named, entry_keyed, owned_by, name_of, key_of, make_table, make_entry, no_table, no_entry}
use Rattle.store.specs.Shape.{StoreShape, EntryShape}
use Rattle.store.specs.Sound.{sound_store, sound_table, same_name, same_key}
use Rattle.store.specs.Contents.{table_at, entry_at}
use Rattle.store.proofs.Facts.{TableFacts, EntryFacts, SoundStore, sound-facts, facts-table, Keyed, named-facts, facts-named, keyed-facts, facts-keyed, name-size}
use Rattle.body.specs.ReadBack.{Sendable}
use Rattle.body.proofs.UpdateBack.{held-sendable, key-long}
use Rattle.message.specs.Targets.{keyed_as}
use Rattle.teaching.specs.Teaching.{TableIds, ids_fit, is32_bit, places_of, same_table, SendsAll}
use Rattle.teaching.proofs.Members.{Member, Each, each_map, spot, at_place, every-each, map-member, members-every, every-member, distinct_append, distinct-map, hits, hits-member, hits-once, tally, tally-more, tally-most}
use Rattle.teaching.proofs.OneMessage.{read_table, read_entry, name-kept}
use Rattle.teaching.proofs.Running.{Sent, Ready, taught_tables, named_before, keyed_before, Fits}
use Rattle.teaching.proofs.Owned.{owned, owned-member, owned-distinct, places-each, taught_entries, member-taught, taught-most}

-- ---- what fitting IDs say

pub record IdsFacts (t : Store) (l : TableIds) : Type 0 where
  pub place : l.table < 8
  pub held : table_held (table_at t l.table) ≡ true
  pub id : l.id < 2 ^ 32
  pub updates : every is32_bit l.updates ≡ true
  pub count : length l.updates ≡ length (places_of t l.table)

pub ids-facts : (t : Store) (l : TableIds) → ids_fit t l ≡ true → IdsFacts t l
unfolding ids_fit
ids-facts t l h =
    let within = ltb l.table 8 in
    let has = table_held (table_at t l.table) in
    let counts = eqb (length l.updates) (length (places_of t l.table)) in
    let small = every is32_bit l.updates in
    let a = and_first (within && has) (is32_bit l.id && (small && counts)) h in
    let b = and_second (within && has) (is32_bit l.id && (small && counts)) h in
    let d = and_second (is32_bit l.id) (small && counts) b in
    record {
      place = ltb-true l.table 8 (and_first within has a);
      held = and_second within has a;
      id = ltb-true l.id (2 ^ 32) (and_first (is32_bit l.id) (small && counts) b);
      updates = and_first small counts d;
      count = eqb-true (length l.updates) (length (places_of t l.table)) (and_second small counts d);
    }

-- ---- what is made is held, of its table, with its key

made-table-held : (t : Table) → table_free (read_table t) ≡ false
unfolding read_table make_table table_free
made-table-held t = refl

pub made_held : (k : ℕ) (t : Table) (e : Entry) → entry_held (read_entry k t e) ≡ true
unfolding read_entry make_entry entry_held
made_held k t e = refl

made-entry-held : (k : ℕ) (t : Table) (e : Entry) → entry_free (read_entry k t e) ≡ false
unfolding read_entry make_entry entry_free
made-entry-held k t e = refl

pub made_table : (k : ℕ) (t : Table) (e : Entry) → (read_entry k t e).table ≡ k
unfolding read_entry make_entry
made_table k t e = refl

pub key-kept : (k : ℕ) (t : Table) (e : Entry) → EntryShape e → key_of (read_entry k t e) ≡ key_of e
unfolding read_entry make_entry key_of
key-kept k t e h = pad-take key_max (key_of e) (omega (arith, length-take e.key_len e.key, h.key.size))

keyed-before : (e f : Entry) → keyed_before e f ≡ true → Keyed f.table (key_of f) e
unfolding keyed_as
keyed-before e f h = keyed-facts f.table (key_of f) e (and_second (leb f.key_len key_max) (entry_keyed f.table (key_of f) e) h)

-- ---- a free place holds nothing

pub no-table : table_held no_table ≡ false
unfolding table_held no_table
no-table = refl

pub no-entry : entry_held no_entry ≡ false
unfolding entry_held no_entry
no-entry = refl

-- ---- a sound store

-- of a held entry
pub record Known (t : Store) (e : Entry) : Type 0 where
  pub place : e.table < 8
  pub table-held : table_held (table_at t e.table) ≡ true
  pub table : TableFacts (table_at t e.table)
  pub timed : e.timed ≤ 1
  pub sendable : Sendable (table_at t e.table) e

pub owned-held : (table : ℕ) (e : Entry) → owned_by table e ≡ true → entry_held e ≡ true
unfolding owned_by
owned-held table e h = and_first (entry_held e) (eqb e.table table) h

pub owned-table : (table : ℕ) (e : Entry) → owned_by table e ≡ true → e.table ≡ table
unfolding owned_by
owned-table table e h = eqb-true e.table table (and_second (entry_held e) (eqb e.table table) h)

module _ (t : Store) (shape : StoreShape t) (sound : sound_store t ≡ true) where
  facts : SoundStore t
  facts = sound-facts t sound

  pub table-sound : (i : ℕ) → i < 8 → sound_table (table_at t i) ≡ true
  table-sound i l =
      let n : i < length t.tables = omega (arith, shape.tables) in
      facts-table (table_at t i) (facts.table_flag i n) (facts.table i n)

  at-known : (i : ℕ) → i < length t.entries → entry_held (entry_at t i) ≡ true → Known t (entry_at t i)
  at-known i l h =
      let e = entry_at t i in
      let f : EntryFacts t.tables e = facts.entry i l h in
      let g : TableFacts (table_at t e.table) = facts.table e.table (omega (arith, shape.tables, f.place)) f.table_held in
      record {
        place = f.place;
        table-held = f.table_held;
        table = g;
        timed = f.timed;
        sendable = held-sendable t.tables e g f (shape.entry i (omega (arith, shape.entries)));
      }

  pub known : (e : Entry) → Member e t.entries → entry_held e ≡ true → Known t e
  known e m h =
      let s = spot e t.entries m in
      let q : entry_at t s.place ≡ e = s.is no_entry in
      subst (Known t) q (at-known s.place s.inside (ap entry_held q ∙ h))

  -- ---- each table can be sent with its entries

  sent : (table place : ℕ) → (place < length t.entries) × (owned_by table (entry_at t place) ≡ true) → Sent t table place
  sent table place h =
      let e = entry_at t place in
      let q = owned-table table e h.1 in
      record {
        owner = q;
        sendable = subst (λ (n : ℕ). Sendable (table_at t n) e) q (at-known place h.0 (owned-held table e h.1)).sendable;
      }

  pub ready : (l : TableIds) → ids_fit t l ≡ true → Ready t l
  ready l h =
      let f = ids-facts t l h in
      record {
        id = f.id;
        shape = shape.table l.table f.place;
        held = f.held;
        sound = table-sound l.table f.place;
        entries = each_map _ (Sent t l.table) (sent l.table) (places_of t l.table) (places-each l.table t.entries 0 t.entries refl);
        updates = f.updates;
        count = f.count;
      }

  pub all-ready : (ids : List TableIds) → every (ids_fit t) ids ≡ true → Each (Ready t) ids
  all-ready ids h = every-each (ids_fit t) (Ready t) ids (λ l m k. ready l k) h

  -- ---- names

  two-names : (i j : ℕ) → i < j → j < 8 → table_held (table_at t i) ≡ true → table_held (table_at t j) ≡ true → name_of (table_at t i) ≡ name_of (table_at t j) → ⊥
  unfolding same_name
  two-names i j l b h k q =
      let n : j < length t.tables = omega (arith, shape.tables) in
      let u = table_at t i in
      let v = table_at t j in
      let size : v.name_len ≡ length (name_of u) = sym (name-size v (facts.table j n k) (shape.table j b)) ∙ ap length (sym q) in
      never
      (and_intro (table_held u) (table_named (name_of u) v) h (facts-named (name_of u) v (record { held = k; size = size; bytes = sym q })))
      (facts.names i j l n)

  -- two held tables of one name stand at one place
  one_name : (i j : ℕ) → i < 8 → j < 8 → table_held (table_at t i) ≡ true → table_held (table_at t j) ≡ true → name_of (table_at t i) ≡ name_of (table_at t j) → i ≡ j
  one_name i j a b h k q =
      split (lt-or-le i j)
      (λ l. absurd (two-names i j l b h k q))
      (λ l. split (lt-or-le j i) (λ m. absurd (two-names j i m a k h (sym q))) (λ m. omega arith))

  -- ---- keys

  -- two held entries with one table and key aren't two
  one_key : (table : ℕ) (e f : Entry) → Member e t.entries → Member f t.entries → owned_by table e ≡ true → owned_by table f ≡ true
      → key_of e ≡ key_of f → same_key e f ≡ true
  unfolding same_key
  one_key table e f m n h k q =
      let z = known f n (owned-held table f k) in
      let held = owned-held table e h in
      and_intro (entry_held e) (entry_keyed e.table (key_of e) f) held
      (facts-keyed e.table (key_of e) f
      (record {
        held = owned-held table f k;
        owner = owned-table table f k ∙ sym (owned-table table e h);
        size = sym (key-long (table_at t f.table) f z.sendable) ∙ sym (ap length q);
        bytes = sym q;
      }))

  keys-distinct : distinct same_key t.entries ≡ true
  keys-distinct = distinct_from same_key t.entries no_entry (λ i j l m. facts.keys i j l m)

  member-shape : (table : ℕ) (e : Entry) → Member e (owned table t.entries) → EntryShape e
  member-shape table e m =
      let o = owned-member table e t.entries m in
      (known e o.0 (owned-held table e o.1)).sendable.shape

  made-differ : (k table : ℕ) (e f : Entry) → Member e (owned table t.entries) → Member f (owned table t.entries) → same_key e f ≡ false
      → keyed_before (read_entry k (table_at t table) e) (read_entry k (table_at t table) f) ≡ false
  made-differ k table e f m n d =
      let u = table_at t table in
      not-passed (keyed_before (read_entry k u e) (read_entry k u f))
      (λ h.
      let o = owned-member table e t.entries m in
      let p = owned-member table f t.entries n in
      let q : key_of e ≡ key_of f =
      sym (key-kept k u e (member-shape table e m)) ∙ ((keyed-before (read_entry k u e) (read_entry k u f) h).bytes ∙ key-kept k u f (member-shape table f n)) in
      never (one_key table e f o.0 p.0 o.1 p.1 q) d)

  keys-fit : (k : ℕ) (ids : List TableIds) → distinct keyed_before (taught_entries t k ids) ≡ true
  unfolding taught_entries distinct
  keys-fit k [] = refl
  keys-fit k (l ∷ ids) =
      let make = read_entry k (table_at t l.table) in
      let es = owned l.table t.entries in
      distinct_append keyed_before (map make es) (taught_entries t (k + 1) ids)
      (distinct-map make same_key keyed_before es (owned-distinct l.table same_key t.entries keys-distinct) (made-differ k l.table))
      (keys-fit (k + 1) ids)
      (λ x y m n.
      not-passed (keyed_before x y)
      (λ h.
      let s = map-member make x es m in
      let r = member-taught t (k + 1) ids y n in
      let a : x.table ≡ k = ap (λ (e : Entry). e.table) s.is ∙ made_table k (table_at t l.table) s.from in
      let b : y.table ≡ k + 1 + r.place =
      ap (λ (e : Entry). e.table) r.is ∙ made_table (k + 1 + r.place) (table_at t r.given.table) r.entry in
      let q : x.table ≡ y.table = (keyed-before x y h).owner in
      omega arith))

  -- ---- how many tables

  abbrev stands : TableIds → ℕ → Bool
  stands l i = eqb i l.table

  ids-counted : (ids : List TableIds) → every (ids_fit t) ids ≡ true → length ids ≤ tally stands ids (up_to 8)
  unfolding every
  ids-counted [] h = omega arith
  ids-counted (l ∷ ids) h =
      let f = ids-facts t l (and_first (ids_fit t l) (every (ids_fit t) ids) h) in
      let q = up_at 8 l.table 0 f.place in
      let m : Member l.table (up_to 8) = subst (λ (n : ℕ). Member n (up_to 8)) q (at_place (up_to 8) l.table 0 (omega (arith, up-length 8, f.place))) in
      let one : 1 ≤ hits (stands l) (up_to 8) = hits-member (stands l) l.table (up_to 8) m (eq-eqb l.table l.table refl) in
      omega (arith, ids-counted ids (and_second (ids_fit t l) (every (ids_fit t) ids) h), tally-more stands l ids (up_to 8))

  pub ids-few : (ids : List TableIds) → SendsAll t ids → length ids ≤ 8
  ids-few ids h =
      omega (
        arith,
        ids-counted ids h.each,
        tally-most stands ids (up_to 8)
            (λ i.
            hits-once (λ (l : TableIds). stands l i) same_table ids h.once
            (λ l m a b. eq-eqb l.table m.table (sym (eqb-true i l.table a) ∙ eqb-true i m.table b))),
        up-length 8,
      )

  -- ---- all of it

  pub taught-fits : (ids : List TableIds) → SendsAll t ids → Fits (taught_tables t ids) (taught_entries t 0 ids)
  taught-fits ids h =
      let read : TableIds → Table = λ l. read_table (table_at t l.table) in
      record {
        tables = omega (arith, ids-few ids h, length-map ids read);
        entries = omega (arith, taught-most t 0 ids h.once, shape.entries);
        tables-held =
            members-every (λ u. not (table_free u)) (taught_tables t ids)
            (λ u m. let s = map-member read u ids m in rw (s.is, made-table-held (table_at t s.from.table)));
        entries-held =
            members-every (λ e. not (entry_free e)) (taught_entries t 0 ids)
            (λ e m. let r = member-taught t 0 ids e m in rw (r.is, made-entry-held (0 + r.place) (table_at t r.given.table) r.entry));
        names =
            distinct-map read same_table named_before ids h.once
            (λ l m a b d.
            not-passed (named_before (read l) (read m))
            (λ n.
            let f = ids-facts t l (every-member (ids_fit t) ids l h.each a) in
            let g = ids-facts t m (every-member (ids_fit t) ids m h.each b) in
            let q : name_of (table_at t l.table) ≡ name_of (table_at t m.table) =
            sym (name-kept (table_at t l.table) (shape.table l.table f.place))
            ∙ ((named-facts (name_of (read m)) (read l) n).bytes ∙ name-kept (table_at t m.table) (shape.table m.table g.place)) in
            eqb-false l.table m.table d (one_name l.table m.table f.place g.place f.held g.held q)));
        keys = keys-fit 0 ids;
      }
