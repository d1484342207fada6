-- Replies, answers and bindings at worked examples.
use Rattle.std.specs.Prelude.{◌≡◌, refl, [], ◌∷◌, map}
use Rattle.handshake.specs.Bytes.{ascii, decimal, decimal_in}
use Rattle.handshake.specs.Handshake.{refusal_line, status_line, lf}
use Rattle.session.specs.declared.Commit.TheVariants as commit
use Rattle.session.specs.declared.Answer.TheVariants as answer
use Rattle.session.specs.Answers.{refusal_reply, is_size_limit, is_protocol_error, answer_number, answer_values}
use Rattle.session.specs.Session.{is_bound, bound_to, no_binding, unbind, bind_to, rebind, rebind_from, current_of}

-- the table of refusals
no-replies : map refusal_reply (1 ∷ 2 ∷ 3 ∷ 4 ∷ 14 ∷ 15 ∷ []) ≡ [] ∷ [] ∷ [] ∷ [] ∷ [] ∷ [] ∷ []
unfolding refusal_reply is_size_limit is_protocol_error refusal_line
no-replies = refl

-- `501`, `502`, `503`, `504`, each with LF
status-replies : map refusal_reply (10 ∷ 11 ∷ 12 ∷ 13 ∷ [])
    ≡ ascii "501\n" ∷ ascii "502\n" ∷ ascii "503\n" ∷ ascii "504\n" ∷ []
unfolding refusal_reply is_size_limit is_protocol_error refusal_line status_line decimal decimal_in lf
status-replies = refl

error-replies : map refusal_reply (20 ∷ 21 ∷ 22 ∷ 23 ∷ 24 ∷ 25 ∷ 26 ∷ 27 ∷ 28 ∷ 29 ∷ 30 ∷ [])
    ≡ (0x01 ∷ 0x00 ∷ [])
    ∷ (0x01 ∷ 0x00 ∷ [])
    ∷ (0x01 ∷ 0x01 ∷ [])
    ∷ (0x01 ∷ 0x00 ∷ [])
    ∷ (0x01 ∷ 0x00 ∷ [])
    ∷ (0x01 ∷ 0x00 ∷ [])
    ∷ (0x01 ∷ 0x01 ∷ [])
    ∷ (0x01 ∷ 0x00 ∷ [])
    ∷ (0x01 ∷ 0x00 ∷ [])
    ∷ (0x01 ∷ 0x01 ∷ [])
    ∷ (0x01 ∷ 0x00 ∷ [])
    ∷ []
unfolding refusal_reply is_size_limit is_protocol_error
error-replies = refl

-- `update 0 4294967295 0 new`
update-values : answer_number (answer.Update 0 4294967295 0 commit.New) ∷ answer_values (answer.Update 0 4294967295 0 commit.New)
    ≡ 267 ∷ 0 ∷ 4294967295 ∷ 0 ∷ 0 ∷ []
unfolding answer_number answer_values
update-values = refl

-- ID 7 goes from place 0 to place 1, which had 8 and keeps its previous ID
rebinding : rebind_from 0 1 7
    (record { bound = 1; updated = 1; id = 7; previous = 5 } ∷ record { bound = 1; updated = 1; id = 8; previous = 6 } ∷ no_binding ∷ [])
    ≡ record { bound = 0; updated = 1; id = 0; previous = 5 } ∷ record { bound = 1; updated = 1; id = 7; previous = 6 } ∷ no_binding ∷ []
unfolding rebind_from rebind bind_to unbind bound_to is_bound no_binding
rebinding = refl

current-places : current_of 0 ∷ current_of 7 ∷ current_of 8 ∷ [] ≡ 1 ∷ 8 ∷ 0 ∷ []
unfolding current_of
current-places = refl

-- `refused 24 4`, and `refused 22`
refusal-values : answer_number (answer.RefusedAt 24 4) ∷ answer_values (answer.RefusedAt 24 4) ≡ 24 ∷ 4 ∷ []
unfolding answer_number answer_values
refusal-values = refl

no-values : answer_number (answer.Refused 22) ∷ answer_values (answer.Refused 22) ≡ 22 ∷ []
unfolding answer_number answer_values
no-values = refl
