-- What a scan of a store's entries says: of all entries whether they are sound, and of one where it goes.
use Rattle.std.specs.Prelude.{ℕ, ◌<◌, ◌≡◌, List, Bool, true, cond, ◌&&◌, get_or, leb, Option, None, Some, is_some}
use Rattle.lists.specs.Lists.{every, distinct, first_place}
use Rattle.store.specs.declared.Entry.{Entry}
use Rattle.store.specs.declared.Store.{Store}
use Rattle.store.specs.declared.entries.Place.{Place}
use Rattle.store.specs.Limits.{entry_places, key_max}
use Rattle.store.specs.Store.{entry_of, no_entry}
use Rattle.store.specs.Sound.{sound_entry, same_key, counts_right}
use Rattle.store_soundness.specs.Hashes.{hash_end}
use Rattle.store_soundness.specs.Codes.{sound_code, is_code}
use Rattle.store.specs.Places.{place_of}
use Rattle.message.specs.Targets.{keyed_as, goes_to}
use Rattle.store_scan.specs.declared.Query.{Query}

-- what a scan promises of a store's entries and counts: a place is told if and only if they are sound
pub record Scans (q : Query) (s : Store) (r : (Option Place)) : Type 0 where
  pub sound : is_some r ≡ (every (sound_entry q.tables) s.entries && (distinct same_key s.entries && counts_right s))
  pub place : (p : Place) → r ≡ Some p → p ≡ goes_to s.entries q.entry

-- ---- its steps, on the codes of the entries

-- e is held with the table of `entry` and with a key as long as its key
unfoldable pub may_equal : Entry → Entry → Bool
may_equal entry e = leb entry.key_len key_max && entry_of entry.table entry.key_len e

-- each place held with the table and the key of an entry has the hash as its code
abbrev pub Coded : Entry → ℕ → List ℕ → List Entry → Type 0
Coded entry hash codes entries = (i : ℕ) → i < entry_places → keyed_as entry (get_or entries i no_entry) ≡ true → get_or codes i 0 ≡ hash

-- by the codes alone; `found` is the place of the sought entry, if it is held
abbrev pub ScansByHashes : List ℕ → (Option ℕ) → (Option Place) → Type 0
ScansByHashes codes found r = r ≡ cond (every sound_code codes) (Some (place_of found (first_place (is_code hash_end) codes))) None

-- by the codes and by all keys
abbrev pub ScansByKeys : List ℕ → (Option ℕ) → List Entry → (Option Place) → Type 0
ScansByKeys codes found entries r =
    r ≡ cond (every sound_code codes && distinct same_key entries) (Some (place_of found (first_place (is_code hash_end) codes))) None
