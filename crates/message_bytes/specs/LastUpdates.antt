-- "which bytes stood for this counter?", asked of the store that a list of calls left: for each place the last call that updated it, that
-- call's message, and the time that passed since.
use Rattle.std.specs.Prelude.{ℕ, ◌+◌, ◌≤◌, ◌<◌, ◌≡◌, ◌⊎◌, List, [], ◌∷◌, ◌++◌, true, false, cond, get_or, eqb}
use Rattle.store.specs.declared.Entry.{Entry}
use Rattle.store.specs.declared.Store.{Store}
use Rattle.store.specs.Store.{no_entry}
use Rattle.store.specs.Time.{entry_timed, lowered, Passed}
use Rattle.session.specs.declared.Session.{Session}
use Rattle.session.specs.declared.Commit.{Commit}
use Rattle.session.specs.Session.{unfinished}
use Rattle.session.specs.declared.Answer.TheVariants as answer
use Rattle.streams.specs.Model.{bytes_in}
use Rattle.receiver.specs.Promise.{Made}
use Rattle.receiver.specs.Demand3.{Called, reads, passes, Chain, taken_by, last_session, last_store}
use Rattle.receiver.specs.Corollaries.{message_of}
use Rattle.message_bytes.specs.MessageBytes.{table_at, entry_at, UpdateMessage, EntryPlaced}

-- the entry at a place of the store that the calls left
abbrev pub last_entry : Store → List Called → ℕ → Entry
last_entry t calls place = get_or (last_store t calls).entries place no_entry

-- no call answered an update at the place
unfoldable pub NoneUpdates : ℕ → List Called → Type 0
NoneUpdates place [] = Unit {0}
NoneUpdates place (reads m ∷ calls) =
    ((table id : ℕ) (how : Commit) → m.outcome.answer ≡ answer.Update table id place how → ⊥) × NoneUpdates place calls
NoneUpdates place (passes p ∷ calls) = NoneUpdates place calls

-- ---- the time that passed

-- the passing calls, in order
unfoldable pub passing : List Called → List Passed
passing [] = []
passing (reads m ∷ calls) = passing calls
passing (passes p ∷ calls) = p ∷ passing calls

-- the milliseconds that they passed; a call that was refused passed none
unfoldable pub passed_in : List Passed → ℕ
passed_in [] = 0
passed_in (p ∷ times) = cond (eqb p.number 0) p.milliseconds 0 + passed_in times

unfoldable pub NonePasses : List Passed → Type 0
NonePasses [] = Unit {0}
NonePasses (p ∷ times) = (p.number ≡ 0 → ⊥) × NonePasses times

-- "entries with at most e remaining are removed": the passing call that removed the entry. With it the entry's whole time had passed, and
-- before it less, or none at all
pub record Removed (times : List Passed) (x : Entry) : Type 0 where
  pub before : List Passed
  pub call : Passed
  pub after : List Passed
  pub among : times ≡ before ++ (call ∷ after)
  pub passed : call.number ≡ 0
  pub left : (passed_in before < x.remaining) ⊎ NonePasses before
  pub gone : x.remaining ≤ passed_in before + call.milliseconds

-- what stands at the place of entry x after these passing calls, where no call updated it: the entry itself, if it has no time or none passed;
-- the entry with its time less the sum passed; or nothing, where a call removed it
pub data Since (times : List Passed) (x : Entry) : Entry → Type 0 where
  same : (entry_timed x ≡ false) ⊎ NonePasses times → Since times x x
  less : entry_timed x ≡ true → passed_in times < x.remaining → Since times x (lowered (passed_in times) x)
  removed : entry_timed x ≡ true → Removed times x → Since times x no_entry

-- ---- each place

-- no call updated the place, and it holds what it held before the first one, less the time that passed
pub record NeverUpdated (t : Store) (calls : List Called) (place : ℕ) : Type 0 where
  pub none : NoneUpdates place calls
  pub since : Since (passing calls) (get_or t.entries place no_entry) (last_entry t calls place)

-- this call was the last one to update the place, and the message that it ended is the update with the entry that stands there, less the time
-- that passed since
pub record LastUpdate (s : Session) (t : Store) (calls : List Called) (place : ℕ) : Type 0 where
  pub before : List Called
  pub call : Made
  pub after : List Called
  pub among : calls ≡ before ++ (reads call ∷ after)
  pub table : ℕ
  pub id : ℕ
  pub how : Commit
  pub answer : call.outcome.answer ≡ answer.Update table id place how
  pub last : NoneUpdates place after
  pub since : Since (passing after) (entry_at call place) (last_entry t calls place)
  -- with the record that this call got, and the table that it left
  pub message : UpdateMessage (last_session s before) call table id (table_at call table) (entry_at call place)
  -- how its entry came to the place, in the store that this call got
  pub placed : EntryPlaced (last_store t before) table (entry_at call place) how place
  -- where it stood: among the bytes unfinished at the start and then all bytes that the calls took, behind these
  pub earlier : List ℕ
  pub stood : unfinished s ++ bytes_in (taken_by calls) ≡ earlier ++ (message_of (last_session s before) call ++ bytes_in (taken_by after))

-- Every place of the store that a list of calls left, whatever record and store they started with, with no other writer between the calls.
abbrev pub BytesOfEveryEntry : Type 0
BytesOfEveryEntry =
    (s : Session) (t : Store) (calls : List Called) (place : ℕ) → Chain s t calls → NeverUpdated t calls place ⊎ LastUpdate s t calls place
