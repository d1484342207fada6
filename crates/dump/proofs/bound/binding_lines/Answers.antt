use Rattle.session.specs.Session.{is_bound, is_updated}
use Rattle.wire.proofs.Writing.{writes-joined}
use Rattle.dump.specs.RecordLines.{binding_lines}
use Rattle.dump.proofs.bound.binding_lines.Goals as goal

pub returns : goal.returns
unfolding binding_lines is_bound is_updated
returns c = writes-joined c.flagged_line.ensures c.flagged_line-2.ensures
