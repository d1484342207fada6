-- What document 01's "The listing" shows of one call.
use Rattle.std.specs.Prelude.{ℕ, List, [], ◌++◌, cond, eqb}
use Rattle.store.specs.declared.Table.{Table}
use Rattle.session.specs.declared.Connection.{Connection}
use Rattle.session.specs.declared.Answer.{Answer}
use Rattle.session.specs.declared.Answer.TheVariants as answer
use Rattle.session.specs.Answers.{answer_number}
use Rattle.listing.specs.AnswerLines.{answer_line}
use Rattle.listing.specs.ReplyLines.{reply_line}

-- what the listing shows of one call: nothing while more is wanted
unfoldable pub call_lines : Connection → List Table → Answer → List ℕ → List ℕ
call_lines c tables a reply = cond (eqb (answer_number a) (answer_number answer.More)) [] (answer_line c tables a ++ reply_line reply)
