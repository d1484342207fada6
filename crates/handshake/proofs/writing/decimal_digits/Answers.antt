use Rattle.handshake.proofs.writing.DigitArray.{filling}
use Rattle.handshake.proofs.writing.decimal_digits.Goals as goal

pub loop-y-init : goal.loop-y-init
loop-y-init c = search filling

pub returns : goal.returns
returns c = search filling
