use Rattle.text.proofs.LineWords.{line_of, words}
use Rattle.listing.proofs.update.update_line.Goals as goal

pub returns : goal.returns
returns c = line_of _ c.put.ensures (words _ _ (rw c.from.ensures at c.put_numbers.ensures) c.put_commit_at.ensures) c.put-2.ensures
