-- Request 9: the number of held entries of each table after a message.
use Rattle.std.specs.Prelude.{ℕ, List}
use Rattle.store.specs.Store.{raised}
use Rattle.session.specs.declared.Commit.{Commit}
use Rattle.session.specs.declared.Commit.TheVariants as commit
use Rattle.session.specs.declared.Answer.{Answer}
use Rattle.session.specs.declared.Answer.TheVariants as answer

-- a new entry adds one to its table, one that replaces leaves the counts
unfoldable pub committed_counts : ℕ → Commit → List ℕ → List ℕ
committed_counts table commit.New counts = raised table counts
committed_counts table commit.Replaced counts = counts

-- by the answer: only a committed entry can change them
unfoldable pub answered_counts : Answer → List ℕ → List ℕ
answered_counts (answer.Update table id entry how) counts = committed_counts table how counts
answered_counts answer.More counts = counts
answered_counts (answer.Hello process relative) counts = counts
answered_counts answer.Status counts = counts
answered_counts answer.Request counts = counts
answered_counts answer.Finished counts = counts
answered_counts answer.Partial counts = counts
answered_counts answer.Confirmed counts = counts
answered_counts answer.Heartbeat counts = counts
answered_counts (answer.Error type) counts = counts
answered_counts (answer.Table place) counts = counts
answered_counts (answer.Switch place) counts = counts
answered_counts (answer.Acknowledgement id update) counts = counts
answered_counts (answer.Skipped kind) counts = counts
answered_counts (answer.Refused n) counts = counts
answered_counts (answer.RefusedAt n offset) counts = counts
