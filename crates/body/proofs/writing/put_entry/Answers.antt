use Rattle.std.proofs.Common.{rules}
use mir.Facts.{to_z-of_z}
use mir.Syntax.{w32}
use Rattle.wire.proofs.Writing.{writes-joined}
use Rattle.body.specs.Encodings.{entry_bytes, data_bytes}
use Rattle.body.proofs.writing.put_entry.Goals as goal

pub returns : goal.returns
unfolding entry_bytes data_bytes
returns c = writes-joined c.put_key.ensures (writes-joined (rw (to_z-of_z {w = w32} {z = c.args.entry.server_id} (search rules)) at c.put_server.ensures) c.put_values.ensures)
