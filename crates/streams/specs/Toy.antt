-- A small receiver, to try the definitions on: a message is a length byte of at most 8 and that many bytes.
-- State 0 is closed, 1 is between messages, 1 + k awaits k bytes of a message. States over 9 are not sound, those from 20 on closed.
use Rattle.std.specs.Prelude.{ℕ, ◌+◌, ◌-◌, ◌≡◌, List, [], ◌∷◌, Bool, true, false, cond, ◌&&◌, ◌||◌, ltb, leb, eqb}
use Rattle.streams.specs.Model.{Fed, quiet, answered, Receiver}

pub data Answer : Type 0 where
  More Message : Answer
  Refused : ℕ → Answer

-- One byte fewer is to come, unless the next one is the last
pub data Event : Type 0 where
  shorter : Event

abbrev pub closed_toy : ℕ → Bool
closed_toy s = eqb s 0 || leb 20 s

abbrev pub reply_toy : Answer → List ℕ
reply_toy More = []
reply_toy Message = 6 ∷ []
reply_toy (Refused n) = 1 ∷ 1 ∷ []

abbrev pub begun : ℕ → Fed ℕ Answer
begun b = cond (eqb b 0) (answered Message (6 ∷ []) 1) (cond (leb b 8) (quiet (1 + b)) (answered (Refused 22) (1 ∷ 1 ∷ []) 0))

abbrev pub feed_toy : ℕ → ℕ → Fed ℕ Answer
feed_toy s b = cond (closed_toy s) (quiet s) (cond (eqb s 1) (begun b) (cond (eqb s 2) (answered Message (6 ∷ []) 1) (quiet (s - 1))))

abbrev pub ends_toy : Answer → Bool
ends_toy More = false
ends_toy Message = true
ends_toy (Refused n) = leb 10 n

abbrev pub act_toy : Event → ℕ → ℕ
act_toy shorter s = cond (leb 3 s && ltb s 20) (s - 1) s

abbrev pub toy : Receiver ℕ Answer Event
toy = record {
  feed = feed_toy;
  closed = closed_toy;
  sound = λ s. leb s 9;
  more = More;
  refused = Refused;
  ends = ends_toy;
  least = 12;
  is_byte = λ b. ltb b 256;
  act = act_toy;
}

abbrev pub GoodToy : ℕ → Type 0
GoodToy s = leb s 9 ≡ true
