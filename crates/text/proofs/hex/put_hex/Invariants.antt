use Rattle.text.proofs.hex.HexText.{Hexing}
use Rattle.text.proofs.hex.put_hex.Given as goal

abbrev pub invariant-loop-b : goal.invariant-loop-b
invariant-loop-b l = Hexing l.bytes l.initial.w l.w l.b-index
