use Rattle.std.proofs.Common.{rules}
use mir.Facts.{to_z-of_z}
use mir.Syntax.{w32}
use Rattle.dump.proofs.entry.EntryWords.{values-are}
use Rattle.dump.proofs.entry.put_values.Goals as goal

pub returns : goal.returns
returns c = values-are _ c.args.e (rw (to_z-of_z {w = w32} {z = c.args.e.server_id} (search rules)) at c.put_server.ensures) c.put_slots.ensures
