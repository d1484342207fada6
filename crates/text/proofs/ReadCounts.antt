-- What one read answered.
use Rattle.std.proofs.Common.{◌≡◌, ℕ, ◌≤◌, Result, Ok}
use Rattle.text.specs.declared.input.ReadError.{ReadError}
use Rattle.text.specs.System.{ReadAnswer}

-- a count of the buffer's bytes
pub read_count : (size k : ℕ) (r : Result ℕ ReadError) → r ≡ Ok k → k ≤ size → ReadAnswer size r
unfolding ReadAnswer
read_count size k r e l = rw e l
