use Rattle.store_scan.proofs.Filling.{Filling}
use Rattle.store_scan.proofs.codes_of.Given as goal

abbrev pub invariant-loop-i : goal.invariant-loop-i
invariant-loop-i l = Filling l.tables l.store.entries l.codes l.found l.i
