use Rattle.std.proofs.Common.{rules}
use mathlib.Core.Path.{ap}
use mathlib.Core.List.{List, ◌++◌}
use lib.ListN.{length}
use Prim.Native.Nat.{ℕ}
use Rattle.wire.specs.Integer.{encode_int}
use Rattle.wire.proofs.Writing.{writes-joined, writes-as}
use Rattle.body.proofs.writing.WritingLaws.{name-taken}
use Rattle.body.proofs.writing.put_named.Goals as goal

pub returns : goal.returns
returns c =
    let same = name-taken c.args.table c.min-n.result c.min-n.ensures (search rules) in
    writes-joined c.int.ensures (writes-as (ap (λ (l : List ℕ). encode_int (length l) ++ l) same) c.put_counted.ensures)
