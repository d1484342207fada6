use Rattle.text.proofs.LineWords.{line_of}
use Rattle.dump.proofs.sending.number_line.Goals as goal

pub returns : goal.returns
returns c = line_of _ c.put.ensures c.put_number_or_none.ensures c.put-2.ensures
