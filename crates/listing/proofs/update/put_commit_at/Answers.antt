use Rattle.text.proofs.LineWords.{words}
use Rattle.listing.proofs.update.put_commit_at.Goals as goal

pub returns : goal.returns
returns c = words _ _ c.put_decimal_word.ensures c.put_commit.ensures
