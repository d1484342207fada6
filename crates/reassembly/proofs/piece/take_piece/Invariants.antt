use Rattle.reassembly.proofs.piece.Skipping.{Skipping}
use Rattle.reassembly.proofs.piece.take_piece.Given as goal

abbrev pub invariant-loop-i : goal.invariant-loop-i
invariant-loop-i l = Skipping l.piece l.c l.initial.bytes l.bytes l.i l.until
