-- Request 9: the number of entries of each table: laws, and worked examples.
use Rattle.std.specs.Prelude.{◌≡◌, ℕ, ◌+◌, ◌<◌, true, false, cond, ◌&&◌, List, [], ◌∷◌, map, length, pos, ◌==◌, nat_le, slice_index, slice_index_or, refl}
use Rattle.lists.specs.Lists.{up_to, eq_bytes, pad_to}
use Rattle.store.specs.declared.Entry.{Entry}
use Rattle.store.specs.declared.Store.{Store}
use Rattle.store.specs.Store.{table_held, entry_held, owned_by, count_of, counts_of, with_entries, time_left, make_entry, put_entry, no_table, no_entry}
use Rattle.store.specs.Limits.{table_places}
use Rattle.store.specs.Sound.{counts_right, sound_store}
use Rattle.store.specs.Time.{entry_timed, lowered, pass_entry, pass_time}

-- ---- laws

unfoldable pub sum : List ℕ → ℕ
sum [] = 0
sum (n ∷ ns) = n + sum ns

-- how many entries are held
unfoldable pub held_count : List Entry → ℕ
held_count [] = 0
held_count (e ∷ es) = cond (entry_held e) 1 0 + held_count es

-- how many held entries of a table have at most so many milliseconds remaining
unfoldable pub expired_of : ℕ → ℕ → List Entry → ℕ
expired_of milliseconds table [] = 0
expired_of milliseconds table (e ∷ es) = cond (owned_by table e && (entry_timed e && nat_le e.remaining milliseconds)) 1 0 + expired_of milliseconds table es

abbrev pub count_at : Store → ℕ → ℕ
count_at s table = slice_index s.counts table

-- "0 at a free place, which is looked at for this"
abbrev pub FreeHasNone : Type 0
FreeHasNone =
    (s : Store) (table : ℕ) → sound_store s ≡ true → table < table_places → table_held (slice_index_or s.tables table no_table) ≡ false → count_at s table ≡ 0

-- "the 8 counts add up to the held entries"
abbrev pub CountsAddUp : Type 0
CountsAddUp = (s : Store) → sound_store s ≡ true → sum s.counts ≡ held_count s.entries

-- a new entry adds one to its table and nothing else
abbrev pub NewAddsOne : Type 0
NewAddsOne =
    (s : Store) (place : ℕ) (e : Entry) → sound_store s ≡ true → place < length s.entries → entry_held (slice_index_or s.entries place no_entry) ≡ false
    → entry_held e ≡ true → (table : ℕ) → table < table_places → count_at (put_entry s place e) table ≡ count_at s table + cond (e.table == table) 1 0

-- one that replaces an entry of its table leaves them
abbrev pub ReplacingAddsNone : Type 0
ReplacingAddsNone =
    (s : Store) (place : ℕ) (e : Entry) → sound_store s ≡ true → place < length s.entries → owned_by e.table (slice_index_or s.entries place no_entry) ≡ true
    → entry_held e ≡ true → (put_entry s place e).counts ≡ s.counts

-- time takes one off for each entry that it removes
abbrev pub PassingTakesOff : Type 0
PassingTakesOff =
    (s : Store) (milliseconds table : ℕ) → sound_store s ≡ true → table < table_places
    → count_at (pass_time milliseconds s) table + expired_of milliseconds table s.entries ≡ count_at s table

-- ---- worked examples

-- an entry of the table at a place, with a key of one byte and n milliseconds remaining
abbrev of : ℕ → ℕ → ℕ → Entry
of table byte n = make_entry table (byte ∷ []) (pos 0) 1 n []

-- a store without tables, with these counts and entries
abbrev holding : List ℕ → List Entry → Store
holding counts entries = record { tables = []; counts = counts; entries = entries }

-- two entries of the table at place 0, one of that at place 2; a free place isn't counted
abbrev three : List Entry
three = of 0 1 5 ∷ no_entry ∷ of 2 1 6 ∷ of 0 2 7 ∷ []

walked : counts_of three ≡ 2 ∷ 0 ∷ 1 ∷ 0 ∷ 0 ∷ 0 ∷ 0 ∷ 0 ∷ []
unfolding counts_of count_of owned_by entry_held make_entry time_left pad_to no_entry up_to
walked = refl

-- a new entry adds one, replacing leaves them
new-entry : (put_entry (holding (counts_of three) three) 1 (of 2 2 8)).counts ≡ 2 ∷ 0 ∷ 2 ∷ 0 ∷ 0 ∷ 0 ∷ 0 ∷ 0 ∷ []
unfolding put_entry with_entries counts_of count_of owned_by entry_held make_entry time_left pad_to no_entry up_to
new-entry = refl

replaced : (put_entry (holding (counts_of three) three) 2 (of 2 1 9)).counts ≡ counts_of three
unfolding put_entry with_entries counts_of count_of owned_by entry_held make_entry time_left pad_to no_entry up_to
replaced = refl

-- passing time takes off: 6 milliseconds remove the first of place 0 and the one of place 2
taken-off : (pass_time 6 (holding (counts_of three) three)).counts ≡ 1 ∷ 0 ∷ 0 ∷ 0 ∷ 0 ∷ 0 ∷ 0 ∷ 0 ∷ []
unfolding pass_time pass_entry entry_timed lowered with_entries counts_of count_of owned_by entry_held make_entry time_left pad_to no_entry up_to
taken-off = refl

-- right; one too few; one too many; at a place without entries; a count missing
tests : map (λ counts. counts_right (holding counts three))
    ((2 ∷ 0 ∷ 1 ∷ 0 ∷ 0 ∷ 0 ∷ 0 ∷ 0 ∷ []) ∷ (1 ∷ 0 ∷ 1 ∷ 0 ∷ 0 ∷ 0 ∷ 0 ∷ 0 ∷ []) ∷ (3 ∷ 0 ∷ 1 ∷ 0 ∷ 0 ∷ 0 ∷ 0 ∷ 0 ∷ [])
    ∷ (2 ∷ 0 ∷ 1 ∷ 0 ∷ 0 ∷ 0 ∷ 0 ∷ 1 ∷ []) ∷ (2 ∷ 0 ∷ 1 ∷ 0 ∷ 0 ∷ 0 ∷ 0 ∷ []) ∷ [])
    ≡ true ∷ false ∷ false ∷ false ∷ false ∷ []
unfolding counts_right eq_bytes counts_of count_of owned_by entry_held make_entry time_left pad_to no_entry up_to
tests = refl
