-- What a host in C or Rust is told: numbers for the answer.
use Rattle.std.specs.Prelude.{ℕ, ◌%◌, ◌^◌, length, Result, Ok, Err}
use Rattle.lists.specs.Lists.{pad_to}
use Rattle.session.specs.declared.Outcome.{Outcome}
use Rattle.session.specs.Answers.{answer_number, answer_values}
use Rattle.opening.specs.declared.Opened.{Opened}
use Rattle.peers.specs.declared.numbers.RawOutcome.{RawOutcome}
use Rattle.peers.specs.declared.numbers.RawOpened.{RawOpened}
use Rattle.peers.specs.declared.numbers.RawSent.{RawSent}

-- "It returns the bytes taken, the reply's length and the answer"; "a definition gives this paper's number and values for each of the
-- enum's cases. The promises use that definition." The values stand at the front of four, zeros after them.
unfoldable pub raw_outcome : Outcome → RawOutcome
raw_outcome o = record {
  taken = o.taken;
  reply_len = o.reply_len;
  number = answer_number o.answer;
  count = length (answer_values o.answer);
  values = pad_to 4 (answer_values o.answer);
}

unfoldable pub raw_opened : Opened → RawOpened
raw_opened o = record { session = o.session; outcome = raw_outcome o.outcome }

-- 0 and the message's length, or the refusal's number and 0; a length as 32 bits hold it
unfoldable pub sent_numbers : Result ℕ ℕ → RawSent
sent_numbers (Ok n) = record { number = 0; len = n % 2 ^ 32 }
sent_numbers (Err n) = record { number = n; len = 0 }
