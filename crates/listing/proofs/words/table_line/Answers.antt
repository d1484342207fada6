use Rattle.text.proofs.LineWords.{line_of, words}
use Rattle.listing.proofs.words.table_line.Goals as goal

pub returns : goal.returns
returns c = line_of _ c.put.ensures (words _ _ c.put_decimal_word.ensures c.put_name.ensures) c.put-2.ensures
