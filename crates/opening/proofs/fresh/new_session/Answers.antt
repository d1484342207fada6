use Rattle.std.proofs.Common.{rules}
use Rattle.session.specs.Session.{no_binding}
use Rattle.opening.proofs.fresh.Making.{session-made}
use Rattle.opening.proofs.fresh.new_session.Goals as goal

pub returns : goal.returns
unfolding no_binding
returns c = session-made _ _ _ _ _ _ _ _ _ c.name_array.ensures c.name_array-2.ensures (search rules) c.nothing_sent.ensures
