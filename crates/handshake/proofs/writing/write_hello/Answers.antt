use Rattle.std.proofs.Common.{rules, ◌≤◌, length}
use Rattle.wire.proofs.buffer.Reach.{wrote-front, wrote-long}
use Rattle.handshake.specs.Handshake.{hello_bytes}
use Rattle.handshake.proofs.writing.Putting.{rest-written, rest-room, hello-fits, whole-written, whole_room}
use Rattle.handshake.proofs.writing.write_hello.Goals as goal
use Rattle.handshake.proofs.writing.write_hello.Goals.{Else-left-digits}

pub returns-then-left-digits-clause-length : goal.returns-then-left-digits-clause-length
returns-then-left-digits-clause-length c =
    let s = c.args in
    rest-written s.room.now s.remote.now s.local.now s.process s.relative _ c.in_ok-checked_sub.ensures.1 c.in_ok-checked_sub.ensures.0 _ _ _ c.in_ok-left.ensures.1 c.in_ok-left.ensures.0 c.count_digits.ensures.0 c.count_digits-2.ensures.0 c.if-left-digits.true

pub returns-then-left-digits-clause-content : goal.returns-then-left-digits-clause-content
returns-then-left-digits-clause-content c =
    let s = c.args in
    rest-room s.room.now s.remote.now s.local.now s.process s.relative _ c.in_ok-checked_sub.ensures.1 c.in_ok-checked_sub.ensures.0 _ _ _ c.in_ok-left.ensures.1 c.in_ok-left.ensures.0 c.count_digits.ensures.0 c.count_digits-2.ensures.0 c.if-left-digits.true

-- the hello is no longer than the room
fits : (c : Else-left-digits) → length (hello_bytes c.args.remote.now c.args.local.now c.args.process c.args.relative) ≤ length c.args.room.now
fits c =
    let s = c.args in
    hello-fits s.room.now s.remote.now s.local.now s.process s.relative _ c.in_ok-checked_sub.ensures.1 c.in_ok-checked_sub.ensures.0 _ _ _ c.in_ok-left.ensures.1 c.in_ok-left.ensures.0 c.count_digits.ensures.0 c.count_digits-2.ensures.0 c.if-left-digits.false

pub returns-clause-length : goal.returns-clause-length
returns-clause-length c =
    let f = fits (goal.at.returns-clause-length c).Else-left-digits in
    whole-written _ _ _ f (wrote-long c.put_hello.ensures.wrote f)

pub returns-clause-content : goal.returns-clause-content
returns-clause-content c =
    let f = fits (goal.at.returns-clause-content c).Else-left-digits in
    whole_room _ _ _ c.put_hello.new.w.room.now f (search rules) (wrote-front c.put_hello.ensures.wrote f)
