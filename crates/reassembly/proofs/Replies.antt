-- No reply that unfinished bytes come to is longer than twelve bytes.
use Rattle.std.proofs.Common.{ℕ, ◌≤◌, ◌-◌, List, [], length, take, drop, eqb, arith}
use Rattle.lists.proofs.Cases.{by-test}
use Rattle.store.specs.declared.Table.{Table}
use Rattle.handshake.specs.declared.Hello.{Hello}
use Rattle.handshake.specs.declared.Hello.TheVariants as hello
use Rattle.handshake.specs.declared.Status.{Status}
use Rattle.handshake.specs.declared.Status.TheVariants as status
use Rattle.handshake.specs.Handshake.{judge_hello, judge_status, hello_reply}
use Rattle.frame.specs.declared.Frame.{Frame}
use Rattle.frame.specs.declared.Frame.TheVariants as frame
use Rattle.frame.specs.Frame.{judge_frame}
use Rattle.session.specs.declared.Connection.{Connection}
use Rattle.session.specs.declared.Answer.TheVariants as answer
use Rattle.session.specs.Session.{local_name, remote_name, awaiting_hello, awaiting_status}
use Rattle.session.proofs.Replies.{accepted-short}
use Rattle.message.specs.Effects.{Effect, note, control, peer_error}
use Rattle.message.proofs.Replies.{ShortAsk, done-short, refuse-short, refusal-asked, controlled-short, error-short, stick-table-short}
use Rattle.reassembly.specs.Judge.{Judged, waiting, settled, hello_judged, status_judged, asks_none, frame_judged, judge_bytes, effect_of, asks_of}

module _ (c : Connection) where
  pub more-short : length (note c answer.More []).reply ≤ 12
  unfolding note
  more-short = omega arith

  pub hello-effect-short : (h : Hello) → length (effect_of c (hello_judged c h)).reply ≤ 12
  unfolding effect_of hello_judged note hello_reply
  hello-effect-short hello.Waiting = more-short
  hello-effect-short (hello.Accepted process relative) = omega (arith, accepted-short)
  hello-effect-short (hello.Refused n) = refuse-short c n

  pub status-effect-short : (s : Status) → length (effect_of c (status_judged c s)).reply ≤ 12
  unfolding effect_of status_judged note
  status-effect-short status.Waiting = more-short
  status-effect-short status.Accepted = omega arith
  status-effect-short (status.Refused n) = refuse-short c n

  asks-none-short : (j : Judged Effect) → length (effect_of c j).reply ≤ 12 → ShortAsk (asks_of c (asks_none j))
  unfolding asks_of asks_none effect_of
  asks-none-short waiting l = done-short (note c answer.More []) l
  asks-none-short (settled e) l = done-short e l

  frame-short : (tables : List Table) (u : List ℕ) (f : Frame) → ShortAsk (asks_of c (frame_judged c tables u f))
  unfolding asks_of frame_judged
  frame-short tables u frame.Waiting = done-short (note c answer.More []) more-short
  frame-short tables u (frame.Control type) = done-short (control c type) (controlled-short c type)
  frame-short tables u (frame.Error type) = done-short (peer_error c type) (error-short c type)
  frame-short tables u (frame.Body kind start end) = stick-table-short c tables kind (take (end - start) (drop start u))
  frame-short tables u (frame.Refused n) = refusal-asked c n

  pub judged-short : (tables : List Table) (u : List ℕ) → ShortAsk (asks_of c (judge_bytes c tables u))
  unfolding judge_bytes
  judged-short tables u =
      let h = judge_hello (local_name c) (remote_name c) u in
      let s = judge_status u in
      by-test (eqb c.phase awaiting_hello)
      (λ a. rw a (asks-none-short (hello_judged c h) (hello-effect-short h)))
      (λ a.
      rw a
      (by-test (eqb c.phase awaiting_status)
      (λ b. rw b (asks-none-short (status_judged c s) (status-effect-short s)))
      (λ b. rw b (frame-short tables u (judge_frame u)))))
