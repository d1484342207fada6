-- Request 2: time that passes, in milliseconds.
use Rattle.std.specs.Prelude.{◌≡◌, ℕ, ◌+◌, ◌-◌, ◌^◌, ◌<◌, Bool, true, cond, ◌&&◌, [], ◌∷◌, map, pos, ◌==◌, nat_le, refl, Some}
use Rattle.lists.specs.Lists.{first_place, first_from, pad_to}
use Rattle.store.specs.declared.Entry.{Entry}
use Rattle.store.specs.declared.Store.{Store}
use Rattle.store.specs.Store.{entry_held, entry_free, with_entries, time_left, make_entry, no_entry}
use Rattle.store.specs.Shape.{StoreShape}
use Rattle.store.specs.Sound.{sound_store}

-- a held entry that has a remaining time
unfoldable pub entry_timed : Entry → Bool
entry_timed x = entry_held x && x.timed == 1

-- "other times lowered by e"
unfoldable pub lowered : ℕ → Entry → Entry
lowered e x = record {
  held = x.held;
  server_id = x.server_id;
  timed = x.timed;
  remaining = x.remaining - e;
  table = x.table;
  key_len = x.key_len;
  key = x.key;
  values = x.values;
}

-- "entries with at most e remaining are removed, other times lowered by e, and removed places are cleared"; a free place and an entry
-- without a time stay
unfoldable pub pass_entry : ℕ → Entry → Entry
pass_entry e x = cond (entry_timed x) (cond (nat_le x.remaining e) no_entry (lowered e x)) x

-- "A new call passes e milliseconds": of every entry; tables stay, counts are those of the entries that are left
unfoldable pub pass_time : ℕ → Store → Store
pass_time e s = with_entries s (map (pass_entry e) s.entries)

-- ---- the call

-- one call that passes time: the milliseconds, the number that it returned, and the store afterwards
pub record Passed : Type 0 where
  pub milliseconds : ℕ
  pub number : ℕ
  pub store : Store

-- "passing time gives 4 on an unsound store, unchanged, else 0"
unfoldable pub pass_number : Store → ℕ
pass_number t = cond (sound_store t) 0 4

unfoldable pub pass_store : ℕ → Store → Store
pass_store e t = cond (sound_store t) (pass_time e t) t

-- the promise of such a call, on a store
pub record PassPromise (t : Store) (p : Passed) : Type 0 where
  pub number : p.number ≡ pass_number t
  pub store : p.store ≡ pass_store p.milliseconds t
  -- the shape of what came in
  pub shaped : StoreShape t
  pub small : p.milliseconds < 2 ^ 32

-- "Passing a and then b leaves what passing a + b leaves, where the sum fits 32 bits": two calls, and one with the sum, on any store
abbrev pub PassedTwice : Type 0
PassedTwice =
    (t : Store) (first second both : Passed) → PassPromise t first → PassPromise first.store second → PassPromise t both
    → both.milliseconds ≡ first.milliseconds + second.milliseconds → (second.store ≡ both.store) × (second.number ≡ both.number)

-- ---- worked examples

-- an entry with a key of one byte, with n milliseconds remaining and without a time
abbrev lasting : ℕ → Entry
lasting n = make_entry 0 (42 ∷ []) (pos 7) 1 n []

abbrev timeless : Entry
timeless = make_entry 0 (42 ∷ []) (pos 7) 0 0 []

-- "at most e": those with less and with exactly 5 are removed, one with 6 has 1 left
at_most : map (pass_entry 5) (lasting 4 ∷ lasting 5 ∷ lasting 6 ∷ []) ≡ no_entry ∷ no_entry ∷ lasting 1 ∷ []
unfolding pass_entry entry_timed entry_held make_entry time_left lowered no_entry pad_to
at_most = refl

-- 0 milliseconds remove those with 0
none_passed : map (pass_entry 0) (lasting 0 ∷ lasting 1 ∷ []) ≡ no_entry ∷ lasting 1 ∷ []
unfolding pass_entry entry_timed entry_held make_entry time_left lowered no_entry pad_to
none_passed = refl

no-time : pass_entry (2 ^ 32 - 1) timeless ≡ timeless
unfolding pass_entry entry_timed entry_held make_entry time_left pad_to
no-time = refl

-- "removed places are cleared and used again as the lowest free"
lowest-free : first_place entry_free (map (pass_entry 5) (timeless ∷ lasting 6 ∷ lasting 5 ∷ lasting 4 ∷ [])) ≡ Some 2
unfolding pass_entry entry_timed entry_held entry_free make_entry time_left lowered no_entry pad_to first_place first_from
lowest-free = refl

-- a removed place is free
removed-free : entry_free (pass_entry 5 (lasting 5)) ≡ true
unfolding pass_entry entry_timed entry_held entry_free make_entry time_left no_entry pad_to
removed-free = refl
