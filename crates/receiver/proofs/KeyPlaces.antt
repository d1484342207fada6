-- Where the entry of an update goes, by its table and key.
use Rattle.std.specs.Prelude.{Option}
use Prim.Native.Nat.{ℕ, ◌≤◌}
use mathlib.Core.Path.{◌≡◌, refl, subst}
use mathlib.Core.Bool.{true}
use mathlib.Core.List.{List}
use lib.ListN.{length}
use Rattle.lists.specs.Lists.{first_place}
use Rattle.store.specs.declared.Table.{Table}
use Rattle.store.specs.declared.Entry.{Entry}
use Rattle.store.specs.declared.Store.{Store}
use Rattle.store.specs.Sound.{entry_key_length_ok}
use Rattle.store.specs.Store.{entry_free, find_entry, free_entry, make_entry}
use Rattle.store.proofs.Facts.{TableFacts, key-most}
use Rattle.store.proofs.Ruled.{made-key}
use Rattle.session.specs.declared.Commit.{Commit}
use Rattle.body.specs.Fields.{span_in}
use Rattle.body.specs.declared.update.Update.{Update}
use Rattle.body.proofs.Spans.{span-length}
use Rattle.body.proofs.Within.{UpdateWithin}
use Rattle.message.specs.Effects.{updated_entry}
use Rattle.message.proofs.commit.Targets.{held-by-key}
use Rattle.receiver.specs.Corollaries.{EntryWent}
use Rattle.receiver.proofs.EffectKinds.{Went}

-- a key that was read for a table within the limits has at most 64 bytes
module _ (t : Table) (table : ℕ) (body : List ℕ) (u : Update) (f : TableFacts t) (w : UpdateWithin t body u) where
  abbrev key : List ℕ
  key = span_in body u.key

  abbrev made : Entry
  made = make_entry table key u.server u.time.timed u.time.remaining u.values

  key-ok : entry_key_length_ok t made ≡ true
  unfolding make_entry entry_key_length_ok
  key-ok = rw (span-length body u.key w.key_end) w.key_length

  pub key-short : length key ≤ 64
  unfolding make_entry
  key-short = key-most t made f key-ok

-- so that the entry goes where its table and key are held, or to the lowest free place
pub went-by-key : (t : Store) (table : ℕ) (body : List ℕ) (u : Update) (place : ℕ) (how : Commit) → length (span_in body u.key) ≤ 64
    → Went t (updated_entry body table u) place how → EntryWent how place (find_entry t table (span_in body u.key)) (free_entry t)
unfolding updated_entry make_entry find_entry free_entry
went-by-key t table body u place how l w =
    let key = span_in body u.key in
    subst (λ (f : (Option ℕ)). EntryWent how place f (first_place entry_free t.entries))
    (held-by-key t.entries (updated_entry body table u) table key l refl
    (made-key table key u.server u.time.timed u.time.remaining u.values l))
    w
