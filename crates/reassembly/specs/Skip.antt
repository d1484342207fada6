-- How far waiting bytes wait on, whatever comes behind them: nothing ends or is refused inside a body.
use Rattle.std.specs.Prelude.{ℕ, ◌+◌, List, cond, ltb, eqb, Err, Ok, Result}
use Rattle.wire.specs.declared.IntError.{IntError}
use Rattle.wire.specs.declared.IntError.TheVariants as int
use Rattle.wire.specs.Integer.{read_int}
use Rattle.frame.specs.Frame.{body_max}
use Rattle.session.specs.Session.{established}

-- how many bytes a message has, by the encoded length behind its header; 0 where the length isn't there, or is refused
unfoldable pub message_end : Result (ℕ × ℕ) IntError → ℕ
message_end (Err (int.Short looked)) = 0
message_end (Err (int.Overflow looked)) = 0
message_end (Ok (n, start)) = cond (ltb body_max n) 0 (start + n)

-- waiting bytes wait on while they are fewer than this; a hello and a status have no length
unfoldable pub waits_until : ℕ → List ℕ → ℕ
waits_until phase u = cond (eqb phase established) (message_end (read_int u 2)) 0
