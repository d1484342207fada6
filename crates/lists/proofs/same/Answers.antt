use Rattle.std.proofs.Common.{arith, sym, ◌∙◌}
use Rattle.lists.proofs.Bytes.{bytes-longer, bytes-stop, bytes_next, bytes-end}
use Rattle.lists.proofs.same.Goals as goal

pub returns-then-a-b : goal.returns-then-a-b
returns-then-a-b c = sym (bytes-longer c.args.a.now c.args.b.now c.if-a-b.true)

pub returns-then-a-i : goal.returns-then-a-i
returns-then-a-i c =
    sym
    (c.loop-i.invariant
    ∙ bytes-stop c.args.a.now c.args.b.now c.loop-i.i c.loop-i-test.true (omega (arith, c.loop-i-test.true, c.if-a-b.false)) c.if-a-i.true)

pub loop-i-preserved : goal.loop-i-preserved
loop-i-preserved c =
    c.loop-i.invariant
    ∙ bytes_next c.args.a.now c.args.b.now c.loop-i.i c.loop-i-test.true (omega (arith, c.loop-i-test.true, c.if-a-b.false)) c.if-a-i.false

pub returns : goal.returns
returns c =
    sym
    (c.loop-i.invariant
    ∙ bytes-end c.args.a.now c.args.b.now c.loop-i.i (omega (arith, c.loop-i-test.false)) (omega (arith, c.loop-i-test.false, c.if-a-b.false)))
