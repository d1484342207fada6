use Rattle.dump.proofs.table.DefinitionWords.{no-times, times}
use Rattle.dump.proofs.table.put_times.Goals as goal

pub returns-then-t-eq1 : goal.returns-then-t-eq1
returns-then-t-eq1 c = times _ c.if-t-eq1.true (rw c.from.ensures at c.put_decimal_word.ensures) c.put_periods.ensures

pub returns-else-t-eq1 : goal.returns-else-t-eq1
returns-else-t-eq1 c = no-times _ c.if-t-eq1.false c.put_word.ensures
