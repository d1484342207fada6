use borrow.Author.Rules.{rules}
use Rattle.session.proofs.Unfinished.{how-many}
use Rattle.session.proofs.unfinished_len.Goals as goal

pub returns : goal.returns
returns c = how-many c.args.session (search rules) _ c.min.ensures
