use borrow.Author.Tests.{eq-eqb, ne_eqb}
use mathlib.Core.Path.{sym}
use Rattle.wire.proofs.Writing.{writes-joined}
use Rattle.body.specs.Encodings.{times_bytes}
use Rattle.body.proofs.writing.WritingLaws.{put-there, put-none}
use Rattle.body.proofs.writing.put_times.Goals as goal

pub returns-then-table-eq1 : goal.returns-then-table-eq1
unfolding times_bytes
returns-then-table-eq1 c = put-there _ (sym (eq-eqb _ _ c.if-table-eq1.true)) (writes-joined c.int.ensures c.put_pairs.ensures)

pub returns-else-table-eq1 : goal.returns-else-table-eq1
unfolding times_bytes
returns-else-table-eq1 c = put-none _ (sym (ne_eqb _ _ c.if-table-eq1.false))
