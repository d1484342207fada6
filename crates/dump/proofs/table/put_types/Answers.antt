use Rattle.text.proofs.LineWords.{words}
use Rattle.dump.proofs.table.put_types.Goals as goal

pub returns : goal.returns
returns c = words _ _ (rw c.from.ensures at c.put_decimal_word.ensures) (words _ _ (rw c.from-2.ensures at c.put_decimal_word-2.ensures) (rw c.from-3.ensures at c.put_decimal_word-3.ensures))
