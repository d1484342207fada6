use Rattle.std.proofs.Common.{arith, rules, ◌≡◌, length, sym}
use Rattle.store.proofs.Lookup.{long-key}
use Rattle.store_soundness.proofs.keys.entry_keyed.Goals as goal

pub returns-then-n-gt-KEY_MAX : goal.returns-then-n-gt-KEY_MAX
returns-then-n-gt-KEY_MAX c =
    let l : length c.args.e.now.key ≡ 64 = search rules in
    sym (long-key c.args.e.now c.args.table c.args.key.now (omega (arith, l, c.if-n-gt-KEY_MAX.true)))
