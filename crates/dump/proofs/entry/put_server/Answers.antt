use Rattle.std.proofs.Common.{rules}
use mir.Facts.{to_z-of_z}
use mir.Syntax.{w32}
use Rattle.text.specs.Text.{signed}
use Rattle.dump.proofs.PresentValues.{there, gone}
use Rattle.dump.proofs.entry.put_server.Goals as goal

pub returns-then-present : goal.returns-then-present
returns-then-present c = there _ _ _ signed c.if-present.ensures (rw (to_z-of_z {w = w32} {z = c.args.id} (search rules)) at c.put_signed_word.ensures)

pub returns-else-present : goal.returns-else-present
returns-else-present c = gone _ _ _ signed c.if-present.ensures
