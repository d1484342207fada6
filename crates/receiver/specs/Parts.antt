-- The model's call, for what was taken of a piece in one go. No claim speaks of it: a law says that it is the byte model's.
use Rattle.std.specs.Prelude.{ℕ, List, [], cond}
use Rattle.store.specs.declared.Store.{Store}
use Rattle.session.specs.declared.Connection.{Connection}
use Rattle.session.specs.declared.Answer.{Answer}
use Rattle.session.specs.declared.Answer.TheVariants as answer
use Rattle.message.specs.Changes.{changed}
use Rattle.message.specs.declared.Effect.{Effect}
use Rattle.reassembly.specs.Judge.{Judged, waiting, settled, judge}
use Rattle.reassembly.specs.Pieces.{Part}
use Rattle.streams.specs.Calls.{Call}
use Rattle.receiver.specs.Model.{State}

-- "no byte stays unfinished" after an answer; without one the bytes stay
unfoldable pub judged_call : Connection → Store → List ℕ → ℕ → Judged Effect → Call State Answer
judged_call c s u taken waiting = record { taken = taken; answer = answer.More; reply = []; state = record { connection = c; unfinished = u; store = s } }
judged_call c s u taken (settled e) =
    record { taken = taken; answer = e.answer; reply = e.reply; state = record { connection = e.connection; unfinished = []; store = changed s e.change } }

unfoldable pub part_call : Connection → Store → Part → Call State Answer
part_call c s a = judged_call c s a.bytes a.taken (cond a.ended (judge c s a.bytes) waiting)
