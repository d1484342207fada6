use Rattle.dump.proofs.record_lines.RecordWords.{unfinishing}
use Rattle.dump.proofs.record_lines.put_unfinished.Goals as goal

pub returns : goal.returns
returns c = search unfinishing
