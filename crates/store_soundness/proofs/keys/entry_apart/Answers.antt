use Rattle.std.proofs.Common.{◌≡◌, length, rules}
use Rattle.store_soundness.proofs.keys.Keying.{free_apart, held_apart}
use Rattle.store_soundness.proofs.keys.entry_apart.Goals as goal

pub returns-then-e-ne1 : goal.returns-then-e-ne1
returns-then-e-ne1 c = free_apart _ _ c.if-e-ne1.true

pub returns-else-e-ne1 : goal.returns-else-e-ne1
returns-else-e-ne1 c =
    let l : length c.args.e.now.key ≡ 64 = search rules in
    held_apart _ _ _ _ c.if-e-ne1.false l c.min-n.ensures c.key_apart.ensures
