use Rattle.std.proofs.Common.{rules}
use Rattle.store.proofs.Rules.{slot-past}
use Rattle.store.proofs.types.slot_type.Goals as goal

pub returns-in-None : goal.returns-in-None
returns-in-None c = search (rules, slot-past)
