-- The numbers and values of answers, and the replies to refusals.
use Rattle.std.specs.Prelude.{ℕ, List, [], ◌∷◌, Bool, cond, ◌||◌, eqb, length}
use Rattle.std.proofs.Math.Option.{Option, some, none}
use Rattle.lists.specs.Lists.{pad_to}
use Rattle.handshake.specs.Handshake.{refusal_line}
use Rattle.session.specs.declared.Values.{Values}
use Rattle.lists.specs.declared.inline.Bytes.{Bytes}
use Rattle.session.specs.declared.Commit.{Commit}
use Rattle.session.specs.declared.Commit.TheVariants as commit
use Rattle.session.specs.declared.Answer.{Answer}
use Rattle.session.specs.declared.Answer.TheVariants as answer

-- "Where an answer is an enum, a definition gives this paper's number and values for each of the enum's cases."
-- A refusal has its own number; the others go from 256 on.
unfoldable pub answer_number : Answer → ℕ
answer_number answer.More = 256
answer_number (answer.Hello process relative) = 257
answer_number answer.Status = 258
answer_number answer.Request = 259
answer_number answer.Finished = 260
answer_number answer.Partial = 261
answer_number answer.Confirmed = 262
answer_number answer.Heartbeat = 263
answer_number (answer.Error type) = 264
answer_number (answer.Table place) = 265
answer_number (answer.Switch place) = 266
answer_number (answer.Update table id entry how) = 267
answer_number (answer.Acknowledgement id update) = 268
answer_number (answer.Skipped type) = 269
answer_number (answer.Refused number) = number
answer_number (answer.RefusedAt number offset) = number

abbrev pub commit_number : Commit → ℕ
commit_number commit.New = 0
commit_number commit.Replaced = 1

-- "The numbers on its line, and new or replaced, are an answer's fields."; request 10: "refusals 23, 24 and 30 give the offset in the body"
unfoldable pub answer_values : Answer → List ℕ
answer_values answer.More = []
answer_values (answer.Hello process relative) = process ∷ relative ∷ []
answer_values answer.Status = []
answer_values answer.Request = []
answer_values answer.Finished = []
answer_values answer.Partial = []
answer_values answer.Confirmed = []
answer_values answer.Heartbeat = []
answer_values (answer.Error type) = type ∷ []
answer_values (answer.Table place) = place ∷ []
answer_values (answer.Switch place) = place ∷ []
answer_values (answer.Update table id entry how) = table ∷ id ∷ entry ∷ commit_number how ∷ []
answer_values (answer.Acknowledgement id update) = id ∷ update ∷ []
answer_values (answer.Skipped type) = type ∷ []
answer_values (answer.Refused number) = []
answer_values (answer.RefusedAt number offset) = offset ∷ []

-- the number of a refusal, with an offset or without; no other answer has one
unfoldable pub refusal_of : Answer → Option ℕ
refusal_of answer.More = none
refusal_of (answer.Hello process relative) = none
refusal_of answer.Status = none
refusal_of answer.Request = none
refusal_of answer.Finished = none
refusal_of answer.Partial = none
refusal_of answer.Confirmed = none
refusal_of answer.Heartbeat = none
refusal_of (answer.Error type) = none
refusal_of (answer.Table place) = none
refusal_of (answer.Switch place) = none
refusal_of (answer.Update table id entry how) = none
refusal_of (answer.Acknowledgement id update) = none
refusal_of (answer.Skipped type) = none
refusal_of (answer.Refused number) = some number
refusal_of (answer.RefusedAt number offset) = some number

-- an answer's values in an array of four places, zeros after them
unfoldable pub values_of : Answer → Values
values_of a = record { numbers = pad_to 4 (answer_values a); count = length (answer_values a) }

-- ---- the table of refusals, its replies

-- "22 | body over 1,024 bytes | `01 01`", "26 | new name, 8 tables held | `01 01`", "29 | new key and no free entry | `01 01`"
unfoldable pub is_size_limit : ℕ → Bool
is_size_limit n = eqb n 22 || (eqb n 26 || eqb n 29)

-- 20, 21, 23, 24, 25, 27, 28: `01 00`; request 8: "Refusals: 30, reply `01 00`"
unfoldable pub is_protocol_error : ℕ → Bool
is_protocol_error n = eqb n 20 || (eqb n 21 || (eqb n 23 || (eqb n 24 || (eqb n 25 || (eqb n 27 || (eqb n 28 || eqb n 30))))))

-- 10 to 13: the status line; 1 to 4, 14 and 15: none
unfoldable pub refusal_reply : ℕ → List ℕ
refusal_reply n = cond (is_size_limit n) (0x01 ∷ 0x01 ∷ []) (cond (is_protocol_error n) (0x01 ∷ 0x00 ∷ []) (refusal_line n))

-- bytes of a reply
abbrev pub reply_of : List ℕ → Bytes 16
reply_of bytes = bytes
