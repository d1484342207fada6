-- The place that an entry is committed at, and what was asked done: a law for each way to a result.
use Rattle.std.proofs.Common.{◌≡◌, ℕ, ◌≤◌, leb, List, get_or, refl, ap, ◌∙◌, le-leb, Option}
use Rattle.lists.specs.Lists.{first_place}
use Rattle.lists.proofs.Cases.{and-true}
use Rattle.lists.proofs.Places.{first-agree}
use Rattle.store.specs.declared.Entry.{Entry}
use Rattle.store.specs.Store.{entry_keyed, entry_free, key_of}
use Rattle.store.proofs.Lookup.{blank_entry}
use Rattle.store.specs.Places.{place_of}
use Rattle.session.specs.declared.Connection.{Connection}
use Rattle.message.specs.Effects.{Asks, does, commits, done}
use Rattle.message.specs.Structs.{sought, finished}
use Rattle.message.specs.Targets.{keyed_as, goes_to}

-- ---- the place

-- every entry's key has its length and its bytes
keyed-short : (entry e : Entry) → entry.key_len ≤ 64 → keyed_as entry e ≡ entry_keyed entry.table (key_of entry) e
unfolding keyed_as
keyed-short entry e l = and-true (leb entry.key_len 64) _ (le-leb entry.key_len 64 l)

-- where the entry of a table and a key is held
pub held-by-key : (entries : List Entry) (e : Entry) (table : ℕ) (key : List ℕ) → e.key_len ≤ 64 → e.table ≡ table → key_of e ≡ key
    → first_place (keyed_as e) entries ≡ first_place (entry_keyed table key) entries
held-by-key entries e table key l p q =
    first-agree (keyed_as e) (entry_keyed table key) blank_entry blank_entry entries entries refl
    (λ i m.
    let x = get_or entries i blank_entry in
    keyed-short e x l ∙ (ap (λ (n : ℕ). entry_keyed n (key_of e) x) p ∙ ap (λ (k : List ℕ). entry_keyed table k x) q))

-- where it goes
pub goes-by-key : (entries : List Entry) (e : Entry) (table : ℕ) (key : List ℕ) → e.key_len ≤ 64 → e.table ≡ table → key_of e ≡ key
    → goes_to entries e ≡ place_of (first_place (entry_keyed table key) entries) (first_place entry_free entries)
unfolding goes_to
goes-by-key entries e table key l p q = ap (λ (f : (Option ℕ)). place_of f (first_place entry_free entries)) (held-by-key entries e table key l p q)

-- what was asked, done at the place that was found for the sought entry, is what it does among the entries
pub finished-done : (c : Connection) (entries : List Entry) (m : Asks) → finished c (goes_to entries (sought m)) m ≡ done c entries m
unfolding finished sought done
finished-done c entries (does e) = refl
finished-done c entries (commits id e) = refl
