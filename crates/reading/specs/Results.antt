-- What a reading call gives back, for each way that it ends, and the reply in the room.
use Rattle.std.specs.Prelude.{ℕ, List, [], cond, ltb, length}
use Rattle.wire.specs.Room.{put_room}
use Rattle.store.specs.declared.Store.{Store}
use Rattle.session.specs.declared.Connection.{Connection}
use Rattle.session.specs.declared.Sending.{Sending}
use Rattle.session.specs.declared.Session.{Session}
use Rattle.session.specs.declared.Answer.{Answer}
use Rattle.session.specs.declared.Answer.TheVariants as answer
use Rattle.session.specs.Session.{holding}
use Rattle.message.specs.Effects.{Effect}
use Rattle.message.specs.Changes.{no_change, changed}
use Rattle.streams.specs.Calls.{Call}
use Rattle.receiver.specs.Model.{State}
use Rattle.receiver.specs.Promise.{outcome_of, session_of}
use Rattle.reading.specs.declared.results.Step.{Step}
use Rattle.reading.specs.declared.results.StepChange.{StepChange}

-- nothing is taken
unfoldable pub stays : Session → Answer → StepChange
stays s a = record { outcome = record { taken = 0; reply_len = 0; answer = a }; session = s; change = no_change }

-- the whole piece is taken, and more is wanted; the sending state stays, here and below
unfoldable pub waits : Sending → Connection → List ℕ → ℕ → StepChange
waits k c u count = record { outcome = record { taken = count; reply_len = 0; answer = answer.More }; session = holding k c u; change = no_change }

-- the step on a store
unfoldable pub applied : Store → StepChange → Step
applied t r = record { outcome = r.outcome; session = r.session; store = changed t r.change }

-- what a message did is answered, after so many bytes
unfoldable pub gives : Sending → ℕ → Effect → StepChange
gives k count e = record {
  outcome = record { taken = count; reply_len = length e.reply; answer = e.answer };
  session = holding k e.connection [];
  change = e.change;
}

-- the room with a reply at its front; a reply of more than twelve bytes, or than the room has, is not put
unfoldable pub replied : List ℕ → List ℕ → List ℕ
replied reply room = cond (ltb 12 (length reply)) room (put_room room 0 reply)

-- outcome, record and store of the model's call
unfoldable pub step_of : Session → Call State Answer → Step
step_of s c = record { outcome = outcome_of c; session = session_of s c; store = c.state.store }
