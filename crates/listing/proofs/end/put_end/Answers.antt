use borrow.Author.Tests.{eq-eqb, ne_eqb}
use Rattle.session.specs.Session.{is_closed}
use Rattle.text.proofs.LineWords.{where_true, where_false}
use Rattle.listing.specs.EndLines.{end_line}
use Rattle.listing.proofs.end.put_end.Goals as goal

pub returns-then-connection-eq1 : goal.returns-then-connection-eq1
unfolding end_line is_closed
returns-then-connection-eq1 c = where_true _ (eq-eqb _ _ c.if-connection-eq1.true) (rw c.from.ensures at c.end_line.ensures)

pub returns-else-connection-eq1 : goal.returns-else-connection-eq1
unfolding end_line is_closed
returns-else-connection-eq1 c = where_false _ (ne_eqb _ _ c.if-connection-eq1.false) c.end_line-else-connection-eq1.ensures
