use Rattle.handshake.proofs.writing.Putting.{hello_written}
use Rattle.handshake.proofs.writing.put_hello.Goals as goal

pub returns : goal.returns
returns c = hello_written _ _ _ c.put_line.ensures c.put_line-2.ensures c.put.ensures c.put_spaced.ensures c.put_spaced-2.ensures c.put-2.ensures
