use Rattle.listing.specs.AnswerLines.{answer_line}
use Rattle.listing.proofs.answer.put_answer.Goals as goal

pub returns-in-More : goal.returns-in-More
unfolding answer_line
returns-in-More c = rw c.in-More.is c.word_line.ensures

pub returns-in-Hello : goal.returns-in-Hello
unfolding answer_line
returns-in-Hello c = rw c.in-Hello.is c.hello_line.ensures

pub returns-in-Status : goal.returns-in-Status
unfolding answer_line
returns-in-Status c = rw c.in-Status.is c.word_line-in-Status.ensures

pub returns-in-Request : goal.returns-in-Request
unfolding answer_line
returns-in-Request c = rw c.in-Request.is c.word_line-in-Request.ensures

pub returns-in-Finished : goal.returns-in-Finished
unfolding answer_line
returns-in-Finished c = rw c.in-Finished.is c.word_line-in-Finished.ensures

pub returns-in-Partial : goal.returns-in-Partial
unfolding answer_line
returns-in-Partial c = rw c.in-Partial.is c.word_line-in-Partial.ensures

pub returns-in-Confirmed : goal.returns-in-Confirmed
unfolding answer_line
returns-in-Confirmed c = rw c.in-Confirmed.is c.word_line-in-Confirmed.ensures

pub returns-in-Heartbeat : goal.returns-in-Heartbeat
unfolding answer_line
returns-in-Heartbeat c = rw c.in-Heartbeat.is c.word_line-in-Heartbeat.ensures

pub returns-in-Error : goal.returns-in-Error
unfolding answer_line
returns-in-Error c = rw c.in-Error.is (rw c.from.ensures at c.number_line.ensures)

pub returns-in-Table : goal.returns-in-Table
unfolding answer_line
returns-in-Table c = rw (c.in-Table.is, ← c.table_at.ensures) c.table_line.ensures

pub returns-in-Switch : goal.returns-in-Switch
unfolding answer_line
returns-in-Switch c = rw c.in-Switch.is c.number_line-in-Switch.ensures

pub returns-in-Update : goal.returns-in-Update
unfolding answer_line
returns-in-Update c = rw c.in-Update.is c.update_line.ensures

pub returns-in-Acknowledgement : goal.returns-in-Acknowledgement
unfolding answer_line
returns-in-Acknowledgement c = rw c.in-Acknowledgement.is (rw (c.from-in-Acknowledgement.ensures, c.from-in-Acknowledgement-2.ensures) at c.numbers_line.ensures)

pub returns-in-Skipped : goal.returns-in-Skipped
unfolding answer_line
returns-in-Skipped c = rw c.in-Skipped.is (rw c.from-in-Skipped.ensures at c.number_line-in-Skipped.ensures)

pub returns-in-Refused : goal.returns-in-Refused
unfolding answer_line
returns-in-Refused c = rw c.in-Refused.is (rw c.from-in-Refused.ensures at c.number_line-in-Refused.ensures)

pub returns-in-RefusedAt : goal.returns-in-RefusedAt
unfolding answer_line
returns-in-RefusedAt c = rw c.in-RefusedAt.is c.refused_at_line.ensures
