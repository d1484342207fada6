use Rattle.wire.proofs.values.Server.{word-is}
use Rattle.wire.proofs.values.server_id_word.Goals as goal

pub returns : goal.returns
returns c = word-is c.args.id _ _ c.ranges.id c.from.ensures c.cast_unsigned.ensures
