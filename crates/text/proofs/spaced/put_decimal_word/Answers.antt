use Rattle.text.proofs.spaced.SpacedWords.{a_word}
use Rattle.text.proofs.spaced.put_decimal_word.Goals as goal

pub returns : goal.returns
returns c = a_word _ c.put.ensures c.put_decimal.ensures
