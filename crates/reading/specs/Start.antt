-- What a reading call comes to before the entries of its store are looked at.
use Rattle.std.specs.Prelude.{ℕ, ◌≡◌, List, true, ◌&&◌}
use Rattle.lists.specs.Lists.{every, distinct}
use Rattle.store.specs.declared.Table.{Table}
use Rattle.store.specs.Sound.{sound_table, same_name}
use Rattle.session.specs.declared.Session.{Session}
use Rattle.session.specs.Session.{unfinished}
use Rattle.session.specs.Shape.{SessionShape}
use Rattle.session_soundness.specs.Sound.{sound_session}
use Rattle.reassembly.specs.Pieces.{take_piece}
use Rattle.reassembly.specs.Judge.{judge_bytes, asks_of}
use Rattle.receiver.specs.Model.{is_byte}
use Rattle.reading.specs.declared.start.Started.{Started}

-- whether tables and record are sound; the bytes taken; what they ask for on a store with these tables
pub record Starts (s : Session) (tables : List Table) (piece : List ℕ) (r : Started) : Type 0 where
  pub sound : r.sound ≡ ((every sound_table tables && distinct same_name tables) && sound_session tables s)
  pub taken : r.part ≡ take_piece s.connection (unfinished s) piece
  pub asks : r.asked ≡ asks_of s.connection (judge_bytes s.connection tables r.part.bytes)
  -- the shape of what came in
  pub session : SessionShape s
  pub bytes : every is_byte piece ≡ true
