use Rattle.text.proofs.LineWords.{line_of}
use Rattle.listing.proofs.words.number_line.Goals as goal

pub returns : goal.returns
returns c = line_of _ c.put.ensures c.put_decimal_word.ensures c.put-2.ensures
