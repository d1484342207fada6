-- How a reading call ends, by what its start and the scan of the entries said.
use Rattle.std.specs.Prelude.{ℕ, List, cond, eqb, ltb, Option, None, Some}
use Rattle.session.specs.declared.Session.{Session}
use Rattle.session.specs.declared.Answer.{Answer}
use Rattle.session.specs.declared.Answer.TheVariants as answer
use Rattle.session.specs.Session.{is_closed}
use Rattle.message.specs.Effects.{Effect}
use Rattle.message.specs.Structs.{finished}
use Rattle.reassembly.specs.Pieces.{Part}
use Rattle.reading.specs.declared.results.StepChange.{StepChange}
use Rattle.reading.specs.Results.{stays, waits, gives, replied}
use Rattle.reading.specs.Counts.{answered_counts}
use Rattle.receiver.specs.Model.{reply_room}
use Rattle.store.specs.declared.entries.Place.{Place}
use Rattle.reading.specs.declared.start.Started.{Started}
use Rattle.reading.specs.declared.finish.Finished.{Finished}

-- how a call ends: nothing is taken, the bytes taken end no message, or they do, and this is what they do
pub data End : Type 0 where
  staying : Answer → End
  waiting : End
  answering : Effect → End

-- how it ends where the room is large enough and tables and record are sound; the scan told a place if the entries are sound too
unfoldable pub end_at : Session → Started → (Option Place) → End
end_at s x None = staying (answer.Refused 4)
end_at s x (Some place) =
    cond (is_closed s.connection) (staying (answer.Refused 2))
    (cond (eqb x.part.taken 0) (staying answer.More)
    (cond x.part.ended (answering (finished s.connection place x.asked)) waiting))

-- "A call tests 1, then 4, then 2". Then, where nothing of the piece was taken, as where it is empty, more is wanted. Where the bytes taken end
-- a message, what they ask for is done, with a committed entry at the place that the scan told
unfoldable pub end_of : Session → Started → (Option Place) → ℕ → End
end_of s x y room =
    cond (ltb room reply_room) (staying (answer.Refused 1))
    (cond x.sound (end_at s x y) (staying (answer.Refused 4)))

-- what is returned
unfoldable pub end_step : Session → Part → End → StepChange
end_step s x (staying a) = stays s a
end_step s x waiting = waits s.sending s.connection x.bytes x.taken
end_step s x (answering e) = gives s.sending x.taken e

-- the final room
unfoldable pub end_room : List ℕ → End → List ℕ
end_room room (staying a) = room
end_room room waiting = room
end_room room (answering e) = replied e.reply room

-- what is returned, the counts, and the change of the store
unfoldable pub finished_as : List ℕ → StepChange → Finished
finished_as counts m = record {
  outcome = m.outcome;
  session = m.session;
  counts = answered_counts m.outcome.answer counts;
  change = m.change;
}
