use Rattle.wire.proofs.Writing.{writes-as, writes-nothing}
use Rattle.text.proofs.LineWords.{line_of}
use Rattle.listing.proofs.reply.ReplyWords.{no_reply, some_reply}
use Rattle.listing.proofs.reply.reply_line.Goals as goal

pub returns-then-reply-ne0 : goal.returns-then-reply-ne0
returns-then-reply-ne0 c = writes-as (some_reply _ c.if-reply-ne0.true) (line_of _ c.put.ensures c.put_hex_word.ensures c.put-then-reply-ne0.ensures)

pub returns-else-reply-ne0 : goal.returns-else-reply-ne0
returns-else-reply-ne0 c = writes-as (no_reply _ c.if-reply-ne0.false) (writes-nothing _)
