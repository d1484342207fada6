use borrow.Author.Tests.{eq-eqb, ne_eqb}
use Rattle.dump.specs.RecordLines.{number_or_none, sent_line}
use Rattle.dump.proofs.sending.sent_line.Goals as goal

pub returns-then-x-eq1 : goal.returns-then-x-eq1
unfolding sent_line number_or_none
returns-then-x-eq1 c = rw (eq-eqb c.args.x.sent 1 c.if-x-eq1.true) (rw c.from.ensures at c.number_line.ensures)

pub returns-else-x-eq1 : goal.returns-else-x-eq1
unfolding sent_line number_or_none
returns-else-x-eq1 c = rw (ne_eqb c.args.x.sent 1 c.if-x-eq1.false) c.number_line-else-x-eq1.ensures
