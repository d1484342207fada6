use mathlib.Core.Path.{sym, ◌∙◌}
use borrow.Author.Tests.{eq-eqb, ne_eqb}
use Rattle.session.specs.Answers.{answer_number}
use Rattle.wire.proofs.Writing.{writes-joined, writes-nothing}
use Rattle.text.proofs.LineWords.{where_true, where_false}
use Rattle.listing.specs.CallLines.{call_lines}
use Rattle.listing.proofs.put_call.Goals as goal

pub returns-then-answer_number-ne256 : goal.returns-then-answer_number-ne256
unfolding call_lines answer_number
returns-then-answer_number-ne256 c = where_false _ (ne_eqb _ _ (λ e. c.if-answer_number-ne256.true (c.answer_number.ensures ∙ e))) (writes-joined c.put_answer.ensures c.put_reply.ensures)

pub returns-else-answer_number-ne256 : goal.returns-else-answer_number-ne256
unfolding call_lines answer_number
returns-else-answer_number-ne256 c = where_true _ (eq-eqb _ _ (sym c.answer_number.ensures ∙ c.if-answer_number-ne256.false)) (writes-nothing _)
