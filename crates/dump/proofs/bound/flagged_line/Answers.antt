use borrow.Author.Tests.{eq-eqb, ne_eqb}
use Rattle.wire.proofs.Writing.{writes-nothing}
use Rattle.text.proofs.LineWords.{where_true, where_false, line_of, words}
use Rattle.dump.proofs.bound.flagged_line.Goals as goal

pub returns-then-flag-eq1 : goal.returns-then-flag-eq1
returns-then-flag-eq1 c = where_true _ (eq-eqb _ _ c.if-flag-eq1.true) (line_of _ c.put.ensures (words _ _ c.put_decimal_word.ensures (rw c.from.ensures at c.put_decimal_word-then-flag-eq1.ensures)) c.put-then-flag-eq1.ensures)

pub returns-else-flag-eq1 : goal.returns-else-flag-eq1
returns-else-flag-eq1 c = where_false _ (ne_eqb _ _ c.if-flag-eq1.false) (writes-nothing _)
