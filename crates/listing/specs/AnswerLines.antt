-- The line of an answer, of document 01's "The listing".
use Rattle.std.specs.Prelude.{ℕ, List, [], ◌∷◌, get_or}
use Rattle.store.specs.declared.Table.{Table}
use Rattle.store.specs.Store.{name_of, no_table}
use Rattle.handshake.specs.Bytes.{ascii, decimal}
use Rattle.session.specs.declared.Connection.{Connection}
use Rattle.session.specs.declared.Commit.{Commit}
use Rattle.session.specs.declared.Commit.TheVariants as commit
use Rattle.session.specs.declared.Answer.{Answer}
use Rattle.session.specs.declared.Answer.TheVariants as answer
use Rattle.session.specs.Session.{remote_name}
use Rattle.text.specs.Text.{hex, line}

-- ".. and new or replaced"
unfoldable pub commit_word : Commit → List ℕ
commit_word commit.New = ascii "new"
commit_word commit.Replaced = ascii "replaced"

-- "hello west 7 0", "table 0 7431", "update 0 4294967295 0 new", "finished"; "Other lines: `status`, `request`, `partial`, `confirm`,
-- `heartbeat`, `error` and its type, `switch` and the table place, `ack` with ID and update ID, `skipped` and the type. An update shows
-- table place, update ID and entry place. Numbers are decimal, table names and replies hex. .. A refusal prints `refused` and its number"; request 10:
-- "`peerlist` prints that number [the offset] after the refusal's".
-- A hello's name is the accepted peer's, a table's that of the table at its place. More wanted is no line of the listing; its word is `more`.
unfoldable pub answer_line : Connection → List Table → Answer → List ℕ
answer_line c tables answer.More = line (ascii "more") []
answer_line c tables (answer.Hello process relative) = line (ascii "hello") (remote_name c ∷ decimal process ∷ decimal relative ∷ [])
answer_line c tables answer.Status = line (ascii "status") []
answer_line c tables answer.Request = line (ascii "request") []
answer_line c tables answer.Finished = line (ascii "finished") []
answer_line c tables answer.Partial = line (ascii "partial") []
answer_line c tables answer.Confirmed = line (ascii "confirm") []
answer_line c tables answer.Heartbeat = line (ascii "heartbeat") []
answer_line c tables (answer.Error kind) = line (ascii "error") (decimal kind ∷ [])
answer_line c tables (answer.Table place) = line (ascii "table") (decimal place ∷ hex (name_of (get_or tables place no_table)) ∷ [])
answer_line c tables (answer.Switch place) = line (ascii "switch") (decimal place ∷ [])
answer_line c tables (answer.Update table id entry how) = line (ascii "update") (decimal table ∷ decimal id ∷ decimal entry ∷ commit_word how ∷ [])
answer_line c tables (answer.Acknowledgement id update) = line (ascii "ack") (decimal id ∷ decimal update ∷ [])
answer_line c tables (answer.Skipped kind) = line (ascii "skipped") (decimal kind ∷ [])
answer_line c tables (answer.Refused number) = line (ascii "refused") (decimal number ∷ [])
answer_line c tables (answer.RefusedAt number offset) = line (ascii "refused") (decimal number ∷ decimal offset ∷ [])
