-- Opening a session as answerer or caller.
use Rattle.std.specs.Prelude.{ℕ, List, [], cond, ◌&&◌, length, ltb, Option, Some, None}
use Rattle.lists.specs.Lists.{front}
use Rattle.handshake.specs.Handshake.{name_ok, hello_bytes}
use Rattle.session.specs.declared.Session.{Session}
use Rattle.session.specs.declared.Answer.{Answer}
use Rattle.session.specs.declared.Answer.TheVariants as answer
use Rattle.opening.specs.declared.Opened.{Opened}
use Rattle.session.specs.Session.{holding, nothing_sent, awaiting_hello, awaiting_status}
-- a connection with these names: nothing bound, no current table
unfoldable pub use Rattle.opening.specs.New.{new_connection}

-- "opening asks for 101 bytes of room in either role"
abbrev pub opening_room : ℕ
opening_room = 101

-- "A session is opened as answerer (it reads a hello) or caller (it writes a hello, reads a status)"
pub data Role : Type 0 where
  answerer : Role
  caller : (process relative : ℕ) → Role

abbrev pub first_phase : Role → ℕ
first_phase answerer = awaiting_hello
first_phase (caller process relative) = awaiting_status

-- a new session with our name and the accepted peer's, nothing unfinished and nothing sent
unfoldable pub opened : Role → List ℕ → List ℕ → Session
opened role local remote = holding nothing_sent (new_connection (first_phase role) 0 0 local remote) []

-- "1 and 3 in opening return a closed record with that number, all else empty or zero"
unfoldable pub refused_opening : ℕ → Session
refused_opening n = holding nothing_sent (new_connection awaiting_hello 1 n [] []) []

-- "The caller's hello": the addressed peer is the accepted one
abbrev pub opening_reply : Role → List ℕ → List ℕ → List ℕ
opening_reply answerer local remote = []
opening_reply (caller process relative) local remote = hello_bytes remote local process relative

-- what opening gives: the record, the answer and the reply
pub record Opening : Type 0 where
  pub session : Session
  pub answer : Answer
  pub reply : List ℕ

abbrev pub refuse_opening : ℕ → Opening
refuse_opening n = record { session = refused_opening n; answer = answer.Refused n; reply = [] }

abbrev pub accept : Role → List ℕ → List ℕ → Opening
accept role local remote = record { session = opened role local remote; answer = answer.More; reply = opening_reply role local remote }

-- "A call tests 1, then 4, then 2; opening 1, then 3."
unfoldable pub «open» : Role → List ℕ → List ℕ → ℕ → Opening
«open» role local remote room =
    cond (ltb room opening_room) (refuse_opening 1)
    (cond (name_ok local && name_ok remote) (accept role local remote) (refuse_opening 3))

-- the number of the refusal, where there is one
unfoldable pub opening_refusal : List ℕ → List ℕ → ℕ → Option ℕ
opening_refusal local remote room = cond (ltb room opening_room) (Some 1) (cond (name_ok local && name_ok remote) None (Some 3))

-- the room afterwards: the reply at its front, and the rest as it came
unfoldable pub open_room : Role → List ℕ → List ℕ → List ℕ → List ℕ
open_room role local remote room = front («open» role local remote (length room)).reply room

-- what a function of opening returns: no bytes are taken
unfoldable pub opened_of : Opening → Opened
opened_of o = record { session = o.session; outcome = record { taken = 0; reply_len = length o.reply; answer = o.answer } }
