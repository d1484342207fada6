use Rattle.std.proofs.Common.{rules}
use Rattle.body.proofs.writing.WritingLaws.{written}
use Rattle.sending.proofs.messages.Messages.{message_put}
use Rattle.sending.proofs.messages.put_message.Goals as goal

pub returns : goal.returns
returns c =
    let all = message_put c.args.kind c.args.body.now c.put.ensures c.int.ensures c.put-2.ensures in
    written all (search (rules, all.same))
