use Rattle.std.proofs.Common.{refl, ap, ◌∙◌, arith, List, ℕ}
use Rattle.session.proofs.Basics.{told-true, told-false}
use Rattle.reassembly.specs.Pieces.{take_piece}
use Rattle.reassembly.proofs.Taking.{unfinished-few, all-taken}
use Rattle.reassembly.proofs.piece.Skipping.{begins, judged-on, ends-here, skips-on}
use Rattle.reassembly.proofs.piece.take_piece.Goals as goal
use Rattle.reassembly.proofs.piece.take_piece.Goals.{then-until-len+else-not-bytes_wait, else-until-len}

pub loop-i-init : goal.loop-i-init
loop-i-init c = begins _ _ _ (unfinished-few c.args.session _ c.unfinished_bytes-bytes.ensures)

pub returns-then-not-bytes_wait : goal.returns-then-not-bytes_wait
returns-then-not-bytes_wait c =
    ends-here c.loop-i.invariant _ refl c.loop-i-test.true _ (c.push.ensures.whole (omega (arith, c.loop-i.invariant.state.few))) _ c.as_slice-u.ensures.value _ c.bytes_wait.ensures
    (told-false refl c.if-not-bytes_wait.true)
    ∙ ap (λ (u : List ℕ). take_piece c.args.session.connection u c.args.piece.now) c.unfinished_bytes-bytes.ensures

pub loop-i-preserved : goal.loop-i-preserved
loop-i-preserved c =
    elim c.if-until-len.branch [
      | then-until-len+else-not-bytes_wait w ↦
          rw w.until-is
          (judged-on c.loop-i.invariant _ refl c.loop-i-test.true _ (c.push.ensures.whole (omega (arith, c.loop-i.invariant.state.few))) _ w.as_slice-u.ensures.value _ w.bytes_wait.ensures
          (told-true refl w.if-not-bytes_wait.false) _ w.waits_until-until.ensures)
      | else-until-len w ↦ rw w.until-is (skips-on c.loop-i.invariant _ refl c.loop-i-test.true _ (c.push.ensures.whole (omega (arith, c.loop-i.invariant.state.few))) _ c.len.ensures.value w.if-until-len.false)
    ]

pub returns : goal.returns
returns c =
    all-taken c.loop-i.invariant.state _ refl (omega (arith, c.loop-i.auto.i-end, c.loop-i-test.false))
    ∙ ap (λ (u : List ℕ). take_piece c.args.session.connection u c.args.piece.now) c.unfinished_bytes-bytes.ensures
