use borrow.Author.Tests.{eq-eqb, ne_eqb}
use Rattle.store.specs.Store.{entry_held}
use Rattle.wire.proofs.Writing.{writes-nothing}
use Rattle.text.proofs.LineWords.{where_true, where_false, line_of, words}
use Rattle.dump.specs.StoreLines.{entry_line}
use Rattle.dump.proofs.lines.put_entry.Goals as goal

pub returns-then-e-eq1 : goal.returns-then-e-eq1
unfolding entry_line entry_held
returns-then-e-eq1 c = where_true _ (eq-eqb _ _ c.if-e-eq1.true) (line_of _ c.put.ensures (words _ _ c.put_decimal_word.ensures c.put_content.ensures) c.put-then-e-eq1.ensures)

pub returns-else-e-eq1 : goal.returns-else-e-eq1
unfolding entry_line entry_held
returns-else-e-eq1 c = where_false _ (ne_eqb _ _ c.if-e-eq1.false) (writes-nothing _)
