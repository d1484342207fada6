use Rattle.dump.proofs.entry.EntryWords.{no-time, a-time}
use Rattle.dump.proofs.entry.put_time.Goals as goal

pub returns-then-e-eq1 : goal.returns-then-e-eq1
returns-then-e-eq1 c = a-time _ c.if-e-eq1.true c.put.ensures (rw c.from.ensures at c.put_decimal.ensures)

pub returns-else-e-eq1 : goal.returns-else-e-eq1
returns-else-e-eq1 c = no-time _ c.if-e-eq1.false c.put_word.ensures
