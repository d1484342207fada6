use Rattle.std.proofs.Common.{rules}
use Rattle.text.proofs.spaced.SpacedWords.{a_signed}
use Rattle.text.proofs.spaced.put_signed_word.Goals as goal

pub returns : goal.returns
returns c = a_signed c.args.n (search rules) c.put.ensures c.put_integer.ensures
