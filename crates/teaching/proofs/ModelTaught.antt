-- Request 3's sentence, of the byte model: a session that reads a whole store's messages ends with its contents, and acknowledges each entry.
use Prim.Native.Nat.{ℕ, ◌+◌, ◌≤◌, ◌<◌}
use native.Mathlib.Omega.{arith}
use mathlib.Core.Path.{◌≡◌, refl, sym, ap, ◌∙◌}
use mathlib.Core.List.{List, [], map}
use mathlib.Core.Bool.{true, false, not}
use lib.ListN.{length, get_or, length-map, get_or-eq_default}
use lib.Dec.{eqb}
use borrow.Author.Tests.{eq-eqb, ne_eqb, eqb-true, eqb-false, not-true}
use Rattle.lists.proofs.Cases.{split, never, not-passed, lt-or-le, and_intro}
use Rattle.lists.proofs.Every.{every-at, every-from}
use Rattle.lists.proofs.Maps.{mapped_at}
use Rattle.store.specs.declared.Table.{Table}
use Rattle.store.specs.declared.Entry.{Entry}
use Rattle.store.specs.declared.Store.{Store}
use Rattle.store.specs.Store.{table_held, entry_held, table_free, entry_free, owned_by, make_table, no_table, no_entry, with_entries}
use Rattle.store.specs.Shape.{StoreShape}
use Rattle.store.specs.Sound.{sound_store}
use Rattle.store.specs.Contents.{TableContents, table_contents, EntryContents, entry_contents, table_at, entry_at, HoldsTable, HoldsEntry, SameContents, with_expiry, with_expiries}
use Rattle.store.proofs.Facts.{sound-facts}
use Rattle.session.specs.declared.Connection.{Connection}
use Rattle.session.specs.Session.{is_closed, established}
use Rattle.session.specs.Shape.{ConnectionShape}
use Rattle.teaching.specs.Teaching.{TableIds, ids_fit, SendsAll, is_empty, EveryModelTaught}
use Rattle.teaching.proofs.Filled.{filled, filled_at, filled-past}
use Rattle.teaching.proofs.Members.{Member, spot, at_place, map-member, among-member, every-member}
use Rattle.teaching.proofs.OneMessage.{read_table, read_entry, AllFree, Reading}
use Rattle.teaching.proofs.Running.{taught_tables, tables-run}
use Rattle.teaching.proofs.Owned.{taught_entries, places-taught, member-taught, taught-member}
use Rattle.teaching.proofs.Fitting.{IdsFacts, ids-facts, no-table, no-entry, made_held, made_table, owned-held, owned-table, known, all-ready, ids-few, taught-fits}
use Rattle.teaching.proofs.ContentsKept.{table_kept, entry_kept, expiry-held, expiry-table}

-- what stands past the last table's IDs
abbrev no_ids : TableIds
no_ids = record { table = 0; id = 0; updates = [] }

read_held : (t : Table) → table_held (read_table t) ≡ true
unfolding read_table make_table table_held
read_held t = refl

owned-by : (table : ℕ) (e : Entry) → entry_held e ≡ true → e.table ≡ table → owned_by table e ≡ true
unfolding owned_by
owned-by table e h q = and_intro (entry_held e) (eqb e.table table) h (eq-eqb e.table table q)

same-held : (e f : Entry) → e.held ≡ f.held → entry_held e ≡ entry_held f
unfolding entry_held
same-held e f q = ap (λ (n : ℕ). eqb n 1) q

-- ---- an empty store: every place is free

not-one-free : (n : ℕ) → n ≤ 1 → eqb n 1 ≡ false → eqb n 0 ≡ true
not-one-free n l h = let k : n ≡ 1 → ⊥ = eqb-false n 1 h in eq-eqb n 0 (split (lt-or-le n 1) (λ m. omega arith) (λ m. absurd (k (omega arith))))

free-not-one : (n : ℕ) → eqb n 0 ≡ true → eqb n 1 ≡ false
free-not-one n h = ne_eqb n 1 (λ q. omega (arith, eqb-true n 0 h))

module _ (start : Store) (free : AllFree start) where
  none-held : (i : ℕ) → table_held (table_at start i) ≡ false
  unfolding table_held table_free
  none-held i =
      split (lt-or-le i (length start.tables))
      (λ l. free-not-one (table_at start i).held (every-at table_free start.tables no_table i free.tables-free l))
      (λ l. ap table_held (get_or-eq_default start.tables no_table l) ∙ no-table)

  none-entry-held : (i : ℕ) → entry_held (entry_at start i) ≡ false
  unfolding entry_held entry_free
  none-entry-held i =
      split (lt-or-le i (length start.entries))
      (λ l. free-not-one (entry_at start i).held (every-at entry_free start.entries no_entry i free.entries-free l))
      (λ l. ap entry_held (get_or-eq_default start.entries no_entry l) ∙ no-entry)

module _ (start : Store) (sound : sound_store start ≡ true) (empty : is_empty start ≡ true) where
  pub empty-table : (i : ℕ) → table_held (table_at start i) ≡ false
  unfolding is_empty
  empty-table i =
      split (lt-or-le i (length start.tables))
      (λ l. not-true (table_held (table_at start i)) (every-at (λ u. not (table_held u)) start.tables no_table i empty l))
      (λ l. ap table_held (get_or-eq_default start.tables no_table l) ∙ no-table)

  -- a held entry's table is held
  pub empty-entry : (i : ℕ) → entry_held (entry_at start i) ≡ false
  empty-entry i =
      split (lt-or-le i (length start.entries))
      (λ l.
      not-passed (entry_held (entry_at start i))
      (λ h. never ((sound-facts start sound).entry i l h).table_held (empty-table (entry_at start i).table)))
      (λ l. ap entry_held (get_or-eq_default start.entries no_entry l) ∙ no-entry)

empty-free : (start : Store) → StoreShape start → sound_store start ≡ true → is_empty start ≡ true → AllFree start
unfolding table_free table_held entry_free entry_held
empty-free start shape sound empty =
    let facts = sound-facts start sound in
    record {
      tables = shape.tables;
      entries = shape.entries;
      tables-free =
          every-from table_free start.tables no_table
          (λ i l. not-one-free (table_at start i).held (facts.table_flag i l) (empty-table start sound empty i));
      entries-free =
          every-from entry_free start.entries no_entry
          (λ i l. not-one-free (entry_at start i).held (facts.entry_flag i l) (empty-entry start sound empty i));
    }

module _ (t : Store) (shape : StoreShape t) (sound : sound_store t ≡ true) (ids : List TableIds) (sends-all : SendsAll t ids) where
  abbrev aged : Store
  aged = with_expiries t

  -- ---- the sender's places, with the expiries

  aged-table : (i : ℕ) → table_at aged i ≡ table_at t i
  unfolding with_expiries with_entries
  aged-table i = refl

  abbrev aged_entry : Entry → Entry
  aged_entry e = with_expiry (table_at t e.table) e

  aged-entry : (i : ℕ) → i < length t.entries → entry_at aged i ≡ aged_entry (entry_at t i)
  unfolding with_expiries with_entries
  aged-entry i l = mapped_at aged_entry t.entries i no_entry no_entry l

  -- ---- IDs and their places

  facts_at : (i : ℕ) → i < length ids → IdsFacts t (get_or ids i no_ids)
  facts_at i l =
      ids-facts t (get_or ids i no_ids) (every-member (ids_fit t) ids (get_or ids i no_ids) sends-all.each (at_place ids i no_ids l))

  -- the place of a held table's IDs
  record IdsOf (table : ℕ) : Type 0 where
    place : ℕ
    inside : place < length ids
    is : (get_or ids place no_ids).table ≡ table

  ids-of : (table : ℕ) → table < 8 → table_held (table_at t table) ≡ true → IdsOf table
  ids-of table l h =
      let m = among-member (map (λ (k : TableIds). k.table) ids) table (sends-all.all table l h) in
      let s = map-member (λ (k : TableIds). k.table) table ids m in
      let p = spot s.from ids s.member in
      record { place = p.place; inside = p.inside; is = ap (λ (k : TableIds). k.table) (p.is no_ids) ∙ sym s.is }

  -- ---- a store that holds what a reader makes of them
  module _ (start s : Store) (free : AllFree start) (ts : s.tables ≡ filled start.tables (taught_tables t ids))
      (es : s.entries ≡ filled start.entries (taught_entries t 0 ids)) where
    abbrev taught : ℕ → Table
    taught i = table_at t (get_or ids i no_ids).table

    abbrev read : TableIds → Table
    read l = read_table (table_at t l.table)

    table-there : (i : ℕ) → i < length ids → table_at s i ≡ read_table (taught i)
    table-there i l =
        ap (λ (us : List Table). get_or us i no_table) ts
        ∙ (filled_at start.tables no_table (taught_tables t ids) i (omega (arith, length-map ids read))
        ∙ mapped_at read ids i no_ids no_table l)

    table-past : (i : ℕ) → length ids ≤ i → table_held (table_at s i) ≡ false
    table-past i l =
        ap (λ (us : List Table). table_held (get_or us i no_table)) ts
        ∙ (ap table_held (filled-past start.tables no_table (taught_tables t ids) i (omega (arith, length-map ids read)))
        ∙ none-held start free i)

    table-contents : (i : ℕ) → i < length ids → table_contents (table_at s i) ≡ table_contents (taught i)
    table-contents i l = ap table_contents (table-there i l) ∙ table_kept (taught i) (shape.table (get_or ids i no_ids).table (facts_at i l).place)

    tables-there : (c : TableContents) → HoldsTable aged c → HoldsTable s c
    tables-there c h =
        let held : table_held (table_at t h.place) ≡ true = sym (ap table_held (aged-table h.place)) ∙ h.held in
        let k = ids-of h.place h.within held in
        let i = k.place in
        let q : taught i ≡ table_at t h.place = ap (table_at t) k.is in
        record {
          place = i;
          within = omega (arith, ids-few t shape sound ids sends-all, k.inside);
          held = ap table_held (table-there i k.inside) ∙ read_held (taught i);
          is = table-contents i k.inside ∙ (ap table_contents (q ∙ sym (aged-table h.place)) ∙ h.is);
        }

    tables-back : (c : TableContents) → HoldsTable s c → HoldsTable aged c
    tables-back c h =
        let i = h.place in
        let place = (get_or ids i no_ids).table in
        split (lt-or-le i (length ids))
        (λ l.
        record {
          place = place;
          within = (facts_at i l).place;
          held = ap table_held (aged-table place) ∙ (facts_at i l).held;
          is = ap table_contents (aged-table place) ∙ (sym (table-contents i l) ∙ h.is);
        })
        (λ l. never h.held (table-past i l))

    -- ---- entries

    entry-there : (n : ℕ) → n < length (taught_entries t 0 ids) → entry_at s n ≡ get_or (taught_entries t 0 ids) n no_entry
    entry-there n l =
        ap (λ (fs : List Entry). get_or fs n no_entry) es ∙ filled_at start.entries no_entry (taught_entries t 0 ids) n l

    entry_past : (n : ℕ) → length (taught_entries t 0 ids) ≤ n → entry_held (entry_at s n) ≡ false
    entry_past n l =
        ap (λ (fs : List Entry). entry_held (get_or fs n no_entry)) es
        ∙ (ap entry_held (filled-past start.entries no_entry (taught_entries t 0 ids) n l) ∙ none-entry-held start free n)

    -- an entry of the sender, and what the reader made of it, whose table has place i there
    module _ (i : ℕ) (inside : i < length ids) (e : Entry) (m : Member e t.entries) (held : entry_held e ≡ true)
        (of : e.table ≡ (get_or ids i no_ids).table) where
      abbrev makes : Entry
      makes = read_entry (0 + i) (taught i) e

      table_of : table_at t e.table ≡ taught i
      table_of = ap (table_at t) of

      contents-there : entry_contents (table_at s makes.table) makes ≡ entry_contents (table_at aged (aged_entry e).table) (aged_entry e)
      contents-there =
          let z = known t shape sound e m held in
          let o : 0 + i ≡ i = omega arith in
          let n : makes.table ≡ i = made_table (0 + i) (taught i) e ∙ o in
          let u = table_at t e.table in
          ap (λ (k : ℕ). entry_contents (table_at s k) makes) n
          ∙ (ap (λ (v : Table). entry_contents v makes) (table-there i inside)
          ∙ (ap (λ (v : Table). entry_contents (read_table v) (read_entry (0 + i) v e)) (sym table_of)
          ∙ (entry_kept u e (0 + i) (shape.table e.table z.place) z.sendable.shape z.timed z.table.timed
          ∙ ap (λ (v : Table). entry_contents v (aged_entry e)) (sym (aged-table (aged_entry e).table ∙ ap (table_at t) (expiry-table u e))))))

      -- where the reader holds it
      made-there : (c : EntryContents) → entry_contents (table_at aged (aged_entry e).table) (aged_entry e) ≡ c → HoldsEntry s c
      made-there c is =
          let n = spot makes (taught_entries t 0 ids)
          (taught-member t 0 ids i no_ids e inside m (owned-by (get_or ids i no_ids).table e held of)) in
          let q : entry_at s n.place ≡ makes = entry-there n.place n.inside ∙ n.is no_entry in
          record {
            place = n.place;
            within = omega (arith, n.inside, (taught-fits t shape sound ids sends-all).entries);
            held = ap entry_held q ∙ made_held (0 + i) (taught i) e;
            is = ap (λ (f : Entry). entry_contents (table_at s f.table) f) q ∙ (contents-there ∙ is);
          }

      -- where the sender holds it
      made-here : (c : EntryContents) → entry_contents (table_at s makes.table) makes ≡ c → HoldsEntry aged c
      made-here c is =
          let p = spot e t.entries m in
          let a : entry_at aged p.place ≡ aged_entry e = aged-entry p.place p.inside ∙ ap aged_entry (p.is no_entry) in
          record {
            place = p.place;
            within = omega (arith, p.inside, shape.entries);
            held = ap entry_held a ∙ (same-held (aged_entry e) e (expiry-held (table_at t e.table) e) ∙ held);
            is = ap (λ (f : Entry). entry_contents (table_at aged f.table) f) a ∙ (sym contents-there ∙ is);
          }

    there-from : (c : EntryContents) (p : ℕ) → p < length t.entries → entry_held (entry_at aged p) ≡ true
        → entry_contents (table_at aged (entry_at aged p).table) (entry_at aged p) ≡ c → HoldsEntry s c
    there-from c p l h is =
        let e = entry_at t p in
        let a = aged-entry p l in
        let held : entry_held e ≡ true = sym (ap entry_held a ∙ same-held (aged_entry e) e (expiry-held (table_at t e.table) e)) ∙ h in
        let m = at_place t.entries p no_entry l in
        let z = known t shape sound e m held in
        let k = ids-of e.table z.place z.table-held in
        made-there k.place k.inside e m held (sym k.is) c (sym (ap (λ (f : Entry). entry_contents (table_at aged f.table) f) a) ∙ is)

    entries-there : (c : EntryContents) → HoldsEntry aged c → HoldsEntry s c
    entries-there c h = there-from c h.place (omega (arith, h.within, shape.entries)) h.held h.is

    back_from : (c : EntryContents) (n : ℕ) → n < length (taught_entries t 0 ids)
        → entry_contents (table_at s (entry_at s n).table) (entry_at s n) ≡ c → HoldsEntry aged c
    back_from c n l is =
        let r = member-taught t 0 ids (get_or (taught_entries t 0 ids) n no_entry) (at_place (taught_entries t 0 ids) n no_entry l) in
        let e = r.entry in
        let w : get_or ids r.place no_ids ≡ r.given = r.at no_ids in
        let held = owned-held r.given.table e r.owns in
        let of : e.table ≡ (get_or ids r.place no_ids).table =
        owned-table r.given.table e r.owns ∙ sym (ap (λ (k : TableIds). k.table) w) in
        let q : entry_at s n ≡ read_entry (0 + r.place) (taught r.place) e =
        entry-there n l ∙ (r.is ∙ ap (λ (k : TableIds). read_entry (0 + r.place) (table_at t k.table) e) (sym w)) in
        made-here r.place r.inside e r.member held of c (sym (ap (λ (f : Entry). entry_contents (table_at s f.table) f) q) ∙ is)

    entries-back : (c : EntryContents) → HoldsEntry s c → HoldsEntry aged c
    entries-back c h =
        split (lt-or-le h.place (length (taught_entries t 0 ids)))
        (λ l. back_from c h.place l h.is)
        (λ l. never h.held (entry_past h.place l))

    same-contents : SameContents aged s
    same-contents = record { tables = tables-there; tables-back = tables-back; entries = entries-there; entries-back = entries-back }

-- ---- the reader at its start

fresh : (c : Connection) (start : Store) → ConnectionShape c → AllFree start → is_closed c ≡ false → c.phase ≡ established → Reading start c start [] []
unfolding filled
fresh c start h free opened phase =
    record { free = free; opened = opened; phase = phase; places = h.places; tables = refl; entries = refl }

pub every-model-taught : EveryModelTaught
every-model-taught t ids x c start shape sound sends-all cshape opened phase eshape esound empty =
    let free = empty-free start eshape esound empty in
    let o =
    tables-run t start (taught_tables t ids) (taught_entries t 0 ids) (taught-fits t shape sound ids sends-all) ids x c start [] []
    (fresh c start cshape free opened phase) (all-ready t shape sound ids sends-all.each) refl (places-taught t 0 ids) in
    record {
      opened = o.opened;
      none-unfinished = o.none-unfinished;
      same = same-contents t shape sound ids sends-all start _ free o.tables o.entries;
      replies = o.replies;
    }
