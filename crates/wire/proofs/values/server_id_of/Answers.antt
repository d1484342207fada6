use Rattle.wire.proofs.values.Server.{id-is}
use Rattle.wire.proofs.values.server_id_of.Goals as goal

pub returns : goal.returns
returns c = id-is c.args.v _ _ c.ranges.v.fits c.ok.ensures.value _ c.cast_signed.ensures c.try_from.ensures
