use Rattle.text.proofs.LineWords.{words}
use Rattle.listing.proofs.words.put_numbers.Goals as goal

pub returns : goal.returns
returns c = words _ _ c.put_decimal_word.ensures c.put_decimal_word-2.ensures
