-- Reading and the sending state: a reading call leaves it, and comes to the same with another.
use mathlib.Core.Path.{◌≡◌, refl}
use mathlib.Core.Bool.{Bool, true, false, cond}
use lib.Dec.{eqb}
use Rattle.session.specs.declared.Sending.{Sending}
use Rattle.session.specs.declared.Session.{Session}
use Rattle.session.specs.Session.{unfinished, holding, with_sending}
use Rattle.receiver.specs.Model.{held_by}
use Rattle.receiver.specs.Promise.{call_of, session_of}
use Rattle.receiver.specs.Corollaries.{SendingStays, ReadsAlike}
use Rattle.receiver.proofs.OneRead.{sending-kept}

pub sending-stays : SendingStays
sending-stays = sending-kept

either-alike : (b : Bool) (s z : Session) (x : Sending) → cond b (with_sending s x) (with_sending z x) ≡ with_sending (cond b s z) x
either-alike true s z x = refl
either-alike false s z x = refl

pub reads-alike : ReadsAlike
unfolding call_of session_of held_by with_sending unfinished holding
reads-alike s t x piece room f g = record {
  call = rw (f, g);
  session = λ c. either-alike (eqb c.taken 0) s (holding s.sending c.state.connection c.state.unfinished) x;
}
