use Rattle.text.proofs.LineWords.{line_of}
use Rattle.dump.specs.StoreLines.{counts_line}
use Rattle.dump.proofs.counts.put_counts.Goals as goal

pub returns : goal.returns
unfolding counts_line
returns c = line_of _ c.put.ensures c.put_numbers.ensures c.put-2.ensures
