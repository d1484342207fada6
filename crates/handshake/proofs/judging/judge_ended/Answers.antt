use Rattle.handshake.proofs.judging.ThreeLines.{handed, second-err, third-err, third-end}
use Rattle.handshake.proofs.judging.judge_ended.Goals as goal

pub returns-in_err-q : goal.returns-in_err-q
returns-in_err-q c =
    handed _ _ _ c.from_residual-in_err-q.ensures (second-err _ _ _ _ c.line_end.ensures _ c.in_ok-p.was _ c.line_end-2.ensures _ c.in_err-q.was)

pub returns-in_err-e : goal.returns-in_err-e
returns-in_err-e c =
    handed _ _ _ c.from_residual-in_err-e.ensures
    (third-err _ _ _ _ c.line_end.ensures _ c.in_ok-p.was _ c.line_end-2.ensures _ c.in_ok-q.was _ c.line_end-3.ensures _ c.in_err-e.was)

pub returns : goal.returns
returns c =
    third-end _ _ _ _ c.line_end.ensures _ c.in_ok-p.was _ c.line_end-2.ensures _ c.in_ok-q.was _ c.line_end-3.ensures _ _ c.in_ok-e.was c.judge_lines.ensures
