use mathlib.Core.Path.{refl}
use Rattle.lists.proofs.Walking.{copied-cleared}
use Rattle.lists.proofs.pad.Goals as goal

pub returns : goal.returns
returns c = copied-cleared _ _ _ _ _ _ c.min-n.ensures c.copy_from_slice.ensures.after refl (c.fill.ensures.after (λ y e. e))
