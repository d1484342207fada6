use Rattle.lists.proofs.Padding.{padded-none}
use Rattle.lists.proofs.inline.Bytes.new.Goals as goal

pub invariant_of-result : goal.invariant_of-result
invariant_of-result g c = padded-none g.row.N
