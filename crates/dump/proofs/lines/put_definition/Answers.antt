use Rattle.text.proofs.LineWords.{words}
use Rattle.dump.proofs.lines.put_definition.Goals as goal

pub returns : goal.returns
returns c = words _ _ c.put_name.ensures (words _ _ c.put_types.ensures c.put_times.ensures)
