-- What is read of a table and of an entry has its contents; of an entry without remaining time, with its table's expiry.
use Prim.Native.Nat.{ℕ, ◌≤◌}
use native.Mathlib.Omega.{arith}
use mathlib.Core.Path.{◌≡◌, refl, sym, ◌∙◌}
use mathlib.Core.List.{List, [], ◌∷◌}
use mathlib.Core.Bool.{cond, ◌&&◌}
use mathlib.Core.Option.{Option, some, none}
use lib.Dec.{eqb}
use lib.IntN.{ℤ}
use Rattle.lists.proofs.Cases.{by-test, split, eq-or-ne}
use Rattle.store.specs.declared.Table.{Table}
use Rattle.store.specs.declared.Entry.{Entry}
use Rattle.store.specs.Limits.{present, slot_types, rate_types}
use Rattle.store.specs.Store.{name_of, key_of, make_table, make_entry, time_left}
use Rattle.store.specs.Shape.{TableShape, EntryShape}
use Rattle.store.specs.Contents.{present_of, TimesContents, TableContents, table_contents, EntryContents, entry_contents, with_expiry}
use Rattle.body.specs.ReadBack.{present_only, times_back}
use Rattle.teaching.proofs.OneMessage.{read_table, read_entry, name-kept}
use Rattle.teaching.proofs.Fitting.{key-kept}

-- the numbers of types that are present stay
present-kept : (types : ℕ) (ts vs : List ℕ) → present_of types ts (present_only types ts vs) ≡ present_of types ts vs
unfolding present_of present_only
present-kept types [] [] = refl
present-kept types [] (v ∷ vs) = refl
present-kept types (t ∷ ts) [] = refl
present-kept types (t ∷ ts) (v ∷ vs) =
    by-test (present types t)
    (λ h. rw (h, present-kept types ts vs))
    (λ h. rw (h, present-kept types ts vs))

-- ---- a table

abbrev times_of : Table → Option TimesContents
times_of t = (table_contents t).times

times-kept : (t : Table) → times_of (read_table t) ≡ times_of t
unfolding table_contents read_table make_table times_back
times-kept t =
    by-test (eqb t.timed 1)
    (λ h. rw (h, present-kept t.data_types rate_types t.periods))
    (λ h. rw h)

abbrev contents : List ℕ → ℕ → ℕ → ℕ → Option TimesContents → TableContents
contents name kind len types times = record { name = name; key_type = kind; key_length = len; data_types = types; times = times }

pub table_kept : (t : Table) → TableShape t → table_contents (read_table t) ≡ table_contents t
table_kept t h =
    let a : table_contents (read_table t) ≡ contents (name_of (read_table t)) t.key_type t.key_len t.data_types (times_of (read_table t)) =
    unfold table_contents read_table make_table in refl in
    a ∙ (rw (name-kept t h, times-kept t) (unfold table_contents in refl))

-- ---- an entry

abbrev fields : List ℕ → List ℕ → Option ℕ → Option ℤ → List ℕ → EntryContents
fields table key remaining server values = record { table = table; key = key; remaining = remaining; server = server; values = values }

abbrev remaining_of : Entry → Option ℕ
remaining_of e = cond (eqb e.timed 1) (some e.remaining) none

-- with its table's expiry, the entry's other fields stay
module _ (t : Table) (e : Entry) where
  expiry-key : key_of (with_expiry t e) ≡ key_of e
  unfolding with_expiry key_of
  expiry-key = by-test (eqb e.timed 0 && eqb t.timed 1) (λ h. rw h) (λ h. rw h)

  expiry-server : (with_expiry t e).server_id ≡ e.server_id
  unfolding with_expiry
  expiry-server = by-test (eqb e.timed 0 && eqb t.timed 1) (λ h. rw h) (λ h. rw h)

  expiry-values : (with_expiry t e).values ≡ e.values
  unfolding with_expiry
  expiry-values = by-test (eqb e.timed 0 && eqb t.timed 1) (λ h. rw h) (λ h. rw h)

  pub expiry-held : (with_expiry t e).held ≡ e.held
  unfolding with_expiry
  expiry-held = by-test (eqb e.timed 0 && eqb t.timed 1) (λ h. rw h) (λ h. rw h)

  pub expiry-table : (with_expiry t e).table ≡ e.table
  unfolding with_expiry
  expiry-table = by-test (eqb e.timed 0 && eqb t.timed 1) (λ h. rw h) (λ h. rw h)

  -- by whether entry and table have a time
  remaining-kept : (k : ℕ) → e.timed ≤ 1 → t.timed ≤ 1 → remaining_of (read_entry k t e) ≡ remaining_of (with_expiry t e)
  unfolding read_entry make_entry time_left times_back with_expiry
  remaining-kept k l m =
      split (eq-or-ne e.timed 1)
      (λ h. rw h)
      (λ h.
      let z : e.timed ≡ 0 = omega arith in
      split (eq-or-ne t.timed 1)
      (λ g. rw (z, g))
      (λ g. let y : t.timed ≡ 0 = omega arith in rw (z, y)))

  server-kept : (k : ℕ) → cond (present t.data_types 0) (some (read_entry k t e).server_id) none ≡ cond (present t.data_types 0) (some e.server_id) none
  unfolding read_entry make_entry
  server-kept k = by-test (present t.data_types 0) (λ h. rw h) (λ h. rw h)

  values-kept : (k : ℕ) → present_of t.data_types slot_types (read_entry k t e).values ≡ present_of t.data_types slot_types e.values
  unfolding read_entry make_entry
  values-kept k = present-kept t.data_types slot_types e.values

  pub entry_kept : (k : ℕ) → TableShape t → EntryShape e → e.timed ≤ 1 → t.timed ≤ 1
      → entry_contents (read_table t) (read_entry k t e) ≡ entry_contents t (with_expiry t e)
  entry_kept k h z l m =
      let types = t.data_types in
      let made = read_entry k t e in
      let kept = with_expiry t e in
      let a : entry_contents (read_table t) made
      ≡ fields (name_of (read_table t)) (key_of made) (remaining_of made) (cond (present types 0) (some made.server_id) none) (present_of types slot_types made.values) =
      unfold entry_contents read_table make_table in refl in
      let b : entry_contents t kept
      ≡ fields (name_of t) (key_of kept) (remaining_of kept) (cond (present types 0) (some kept.server_id) none) (present_of types slot_types kept.values) =
      unfold entry_contents in refl in
      a
      ∙ (rw (name-kept t h, key-kept k t e z, remaining-kept k l m, server-kept k, values-kept k, expiry-key, expiry-server, expiry-values) refl
      ∙ sym b)
