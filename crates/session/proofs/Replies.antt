-- No reply to a hello or to a refusal is longer than four bytes.
use Prim.Native.Nat.{ℕ, ◌≤◌}
use native.Mathlib.Omega.{arith}
use lib.ListN.{length}
use lib.Dec.{eqb}
use Rattle.lists.proofs.Cases.{by-test}
use Rattle.handshake.specs.Bytes as hb
use Rattle.handshake.specs.declared.Hello.{Hello}
use Rattle.handshake.specs.declared.Hello.TheVariants as hello
use Rattle.handshake.specs.Handshake.{refusal_line, status_line, hello_reply, lf}
use Rattle.session.specs.Answers.{refusal_reply, is_size_limit, is_protocol_error}

pub line-short : (n : ℕ) → length (refusal_line n) ≤ 4
unfolding refusal_line status_line hb.decimal hb.decimal_in lf
line-short n =
    by-test (eqb n 10)
    (λ a. rw a (omega arith))
    (λ a.
    rw a
    (by-test (eqb n 11)
    (λ b. rw b (omega arith))
    (λ b. rw b (by-test (eqb n 12) (λ d. rw d (omega arith)) (λ d. rw d (by-test (eqb n 13) (λ e. rw e (omega arith)) (λ e. rw e (omega arith))))))))

pub refusal-short : (n : ℕ) → length (refusal_reply n) ≤ 4
unfolding refusal_reply
refusal-short n =
    by-test (is_size_limit n) (λ a. rw a (omega arith)) (λ a. rw a (by-test (is_protocol_error n) (λ b. rw b (omega arith)) (λ b. rw b (line-short n))))

pub accepted-short : length (status_line 200) ≤ 4
unfolding status_line hb.decimal hb.decimal_in lf
accepted-short = omega arith

pub hello-short : (h : Hello) → length (hello_reply h) ≤ 4
unfolding hello_reply
hello-short hello.Waiting = omega arith
hello-short (hello.Accepted process relative) = accepted-short
hello-short (hello.Refused n) = line-short n
