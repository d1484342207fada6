use Rattle.std.proofs.Common.{arith}
use Rattle.text.proofs.hex.HexText.{hex_start, hex_turn}
use Rattle.text.proofs.hex.put_hex.Goals as goal

pub loop-b-init : goal.loop-b-init
loop-b-init c = hex_start c.args.bytes.now _

pub loop-b-preserved : goal.loop-b-preserved
loop-b-preserved c = hex_turn _ _ c.loop-b.invariant _ c.hex_pair.ensures (omega (arith, c.loop-b-test.true)) c.put.ensures
