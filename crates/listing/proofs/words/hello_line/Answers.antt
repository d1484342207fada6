use Rattle.text.proofs.LineWords.{line_of, words}
use Rattle.listing.proofs.words.hello_line.Goals as goal

pub returns : goal.returns
returns c = line_of _ c.put.ensures (words _ _ c.put_peer.ensures (rw (c.from.ensures, c.from-2.ensures) at c.put_numbers.ensures)) c.put-2.ensures
