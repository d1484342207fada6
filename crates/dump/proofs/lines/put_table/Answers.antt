use borrow.Author.Tests.{eq-eqb, ne_eqb}
use Rattle.store.specs.Store.{table_held}
use Rattle.wire.proofs.Writing.{writes-nothing}
use Rattle.text.proofs.LineWords.{where_true, where_false, line_of, words}
use Rattle.dump.specs.StoreLines.{table_line}
use Rattle.dump.proofs.lines.put_table.Goals as goal

pub returns-then-t-eq1 : goal.returns-then-t-eq1
unfolding table_line table_held
returns-then-t-eq1 c = where_true _ (eq-eqb _ _ c.if-t-eq1.true) (line_of _ c.put.ensures (words _ _ c.put_decimal_word.ensures c.put_definition.ensures) c.put-then-t-eq1.ensures)

pub returns-else-t-eq1 : goal.returns-else-t-eq1
unfolding table_line table_held
returns-else-t-eq1 c = where_false _ (ne_eqb _ _ c.if-t-eq1.false) (writes-nothing _)
