use Rattle.session.proofs.answers.Given.{padded}
use Rattle.session.proofs.answers.values.Goals as goal

pub returns : goal.returns
returns c = padded _ _ c.copy_from_slice.ensures.after c.requires
