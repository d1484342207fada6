use Rattle.sending.specs.Finish.{asked_by}
use Rattle.peers.proofs.Promising.{raw-sent-promised}
use Rattle.peers.proofs.peers_send_entry.Goals as goal

pub returns : goal.returns
unfolding asked_by
returns c = raw-sent-promised _ c.from.ensures c.send_lent.ensures
