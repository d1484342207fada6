use Rattle.std.proofs.Common.{◌≡◌, length, rules}
use Rattle.store_soundness.proofs.names.Naming.{free_apart, held_apart}
use Rattle.store_soundness.proofs.names.table_apart.Goals as goal

pub returns-then-t-ne1 : goal.returns-then-t-ne1
returns-then-t-ne1 c = free_apart _ _ c.if-t-ne1.true

pub returns-else-t-ne1 : goal.returns-else-t-ne1
returns-else-t-ne1 c =
    let l : length c.args.t.name ≡ 32 = search rules in
    held_apart _ _ _ _ c.if-t-ne1.false l c.min-n.ensures c.name_apart.ensures
