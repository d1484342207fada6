use Rattle.wire.proofs.Writing.{writes-joined}
use Rattle.dump.specs.RecordLines.{record_lines}
use Rattle.dump.proofs.record_lines.put_record.Goals as goal

pub returns : goal.returns
unfolding record_lines
returns c =
    writes-joined c.phase_line.ensures
    (writes-joined c.unfinished_line.ensures (writes-joined c.current_line.ensures (writes-joined c.sending_lines.ensures c.bindings_lines.ensures)))
