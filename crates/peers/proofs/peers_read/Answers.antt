use Rattle.peers.proofs.Promising.{raw-promised}
use Rattle.peers.proofs.peers_read.Goals as goal

pub returns : goal.returns
returns c = raw-promised _ c.from.ensures c.read_lent.ensures
