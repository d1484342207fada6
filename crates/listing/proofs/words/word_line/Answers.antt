use Rattle.text.proofs.LineWords.{line_0}
use Rattle.listing.proofs.words.word_line.Goals as goal

pub returns : goal.returns
returns c = line_0 c.put.ensures c.put-2.ensures
