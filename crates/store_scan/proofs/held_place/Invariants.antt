use Rattle.std.proofs.Common.{◌-◌, ◌≡◌, get_or, length}
use Rattle.store.proofs.Lookup.{blank_entry}
use Rattle.store_scan.proofs.Looking.{Looking, Matching}
use Rattle.store_scan.proofs.held_place.Given as goal

abbrev pub invariant-entries : goal.invariant-entries
invariant-entries l = record { size : length l.store.entries ≡ 128; looking : Looking l.entry l.hash l.codes l.store.entries l.i }

abbrev pub decreases-entries : goal.decreases-entries
decreases-entries l = 128 - l.i

abbrev pub invariant-bytes : goal.invariant-bytes
invariant-bytes l = Matching l.entry (get_or l.store.entries l.i blank_entry) l.j

abbrev pub decreases-bytes : goal.decreases-bytes
decreases-bytes l = l.n - l.j
