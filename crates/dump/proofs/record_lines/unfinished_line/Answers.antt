use Rattle.text.proofs.LineWords.{line_of}
use Rattle.dump.specs.RecordLines.{unfinished_line}
use Rattle.dump.proofs.record_lines.unfinished_line.Goals as goal

pub returns : goal.returns
unfolding unfinished_line
returns c = line_of _ c.put.ensures c.put_unfinished.ensures c.put-2.ensures
