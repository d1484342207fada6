-- What unfinished bytes come to, by document 01's rules of the handshake and of messages.
use Rattle.std.specs.Prelude.{ℕ, ◌-◌, List, [], cond, take, drop, eqb}
use Rattle.store.specs.declared.Table.{Table}
use Rattle.store.specs.declared.Entry.{Entry}
use Rattle.store.specs.declared.Store.{Store}
use Rattle.handshake.specs.declared.Hello.{Hello}
use Rattle.handshake.specs.declared.Hello.TheVariants as hello
use Rattle.handshake.specs.declared.Status.{Status}
use Rattle.handshake.specs.declared.Status.TheVariants as status
use Rattle.handshake.specs.Handshake.{judge_hello, judge_status, hello_reply}
use Rattle.frame.specs.declared.Frame.{Frame}
use Rattle.frame.specs.declared.Frame.TheVariants as frame
use Rattle.frame.specs.Frame.{judge_frame}
use Rattle.session.specs.declared.Connection.{Connection}
use Rattle.session.specs.declared.Answer.TheVariants as answer
use Rattle.session.specs.Session.{local_name, remote_name, establish, awaiting_hello, awaiting_status}
use Rattle.message.specs.Effects.{Effect, Asks, does, refuse, refusal, note, control, peer_error, stick_table, done}

-- what unfinished bytes come to: they end nothing and show no refusal, or "the rules here give answer, reply and new state"
pub data Judged (A : Type 0) : Type 0 where
  waiting : Judged A
  settled : A → Judged A

-- ---- before the entries are looked at

-- "Accepted: reply `200` LF."
unfoldable pub hello_judged : Connection → Hello → Judged Effect
hello_judged c hello.Waiting = waiting
hello_judged c (hello.Accepted process relative) =
    settled (note (establish c) (answer.Hello process relative) (hello_reply (hello.Accepted process relative)))
hello_judged c (hello.Refused n) = settled (refuse c n)

unfoldable pub status_judged : Connection → Status → Judged Effect
status_judged c status.Waiting = waiting
status_judged c status.Accepted = settled (note (establish c) answer.Status [])
status_judged c (status.Refused n) = settled (refuse c n)

-- a hello and a status ask nothing of the entries
unfoldable pub asks_none : Judged Effect → Judged Asks
asks_none waiting = waiting
asks_none (settled e) = settled (does e)

-- the body stands from `start` up to `end`
unfoldable pub frame_judged : Connection → List Table → List ℕ → Frame → Judged Asks
frame_judged c tables u frame.Waiting = waiting
frame_judged c tables u (frame.Control type) = settled (does (control c type))
frame_judged c tables u (frame.Error type) = settled (does (peer_error c type))
frame_judged c tables u (frame.Body kind start end) = settled (stick_table c tables kind (take (end - start) (drop start u)))
frame_judged c tables u (frame.Refused n) = settled (refusal c n)

-- a hello's bytes, a status's or a message's, by the phase
unfoldable pub judge_bytes : Connection → List Table → List ℕ → Judged Asks
judge_bytes c tables u =
    cond (eqb c.phase awaiting_hello) (asks_none (hello_judged c (judge_hello (local_name c) (remote_name c) u)))
    (cond (eqb c.phase awaiting_status) (asks_none (status_judged c (judge_status u))) (frame_judged c tables u (judge_frame u)))

-- where bytes end nothing and show no refusal: "more wanted, with no reply", and connection and store stay
unfoldable pub effect_of : Connection → Judged Effect → Effect
effect_of c waiting = note c answer.More []
effect_of c (settled e) = e

unfoldable pub asks_of : Connection → Judged Asks → Asks
asks_of c waiting = does (note c answer.More [])
asks_of c (settled a) = a

-- ---- with the entries

unfoldable pub done_of : Connection → List Entry → Judged Asks → Judged Effect
done_of c entries waiting = waiting
done_of c entries (settled a) = settled (done c entries a)

unfoldable pub judge : Connection → Store → List ℕ → Judged Effect
judge c s u = done_of c s.entries (judge_bytes c s.tables u)
