-- A receiver of bytes and its byte model over a timeline, for any states, answers and events.
use Rattle.std.specs.Prelude.{ℕ, List, [], ◌∷◌, ◌++◌, map, Bool}

-- What one byte does: it gives no answer, or an answer and a reply; either way a new state.
-- "If these now end a message (hello and status too) or show a refusal, the rules here give answer, reply and new state"
pub data Fed (S A : Type 0) : Type 0 where
  quiet : S → Fed S A
  answered : A → List ℕ → S → Fed S A

-- States S, answers A, and events E: steps other than a reading call
pub record Receiver (S A E : Type 0) : Type 0 where
  -- "It starts from what a sound record and store hold and is fed bytes one at a time."
  pub feed : S → ℕ → Fed S A
  pub closed : S → Bool
  pub sound : S → Bool
  -- "more wanted, one of the message kinds with its fields, or a refusal", a refusal by its number
  pub more : A
  pub refused : ℕ → A
  -- the answers that end a message or close the session
  pub ends : A → Bool
  -- the least room: "reply room under 12" is refusal 1
  pub least : ℕ
  pub is_byte : ℕ → Bool
  -- what an event does
  pub act : E → S → S

-- A timeline: bytes and events in order
pub data Item (E : Type 0) : Type 0 where
  byte : ℕ → Item E
  event : E → Item E

abbrev pub bytes : {E : Type 0} → List ℕ → List (Item E)
bytes xs = map byte xs

-- The bytes of a timeline, without its events
unfoldable pub bytes_in : {E : Type 0} → List (Item E) → List ℕ
bytes_in [] = []
bytes_in (byte b ∷ rest) = b ∷ bytes_in rest
bytes_in (event e ∷ rest) = bytes_in rest

-- A message that ended: all of its bytes, the unfinished ones included, and what the model gave at its last byte
pub record Ended (A : Type 0) : Type 0 where
  pub message : List ℕ
  pub answer : A
  pub reply : List ℕ

-- What the byte model came to: the messages that ended, in order, and the end state
pub record Ran (S A : Type 0) : Type 0 where
  pub ended : List (Ended A)
  pub state : S

-- The message that byte b ends, after the unfinished bytes u
abbrev pub ended_by : {A : Type 0} → List ℕ → ℕ → A → List ℕ → Ended A
ended_by u b a r = record { message = u ++ (b ∷ []); answer = a; reply = r }

module _ {S A : Type 0} where
  abbrev pub state_of : Fed S A → S
  state_of (quiet t) = t
  state_of (answered a r t) = t

  abbrev pub ending : Ended A → Ran S A → Ran S A
  ending e r = record { ended = e ∷ r.ended; state = r.state }

module _ {S A E : Type 0} (R : Receiver S A E) where
  -- The byte model over a timeline, where u are the bytes unfinished at its start. "On an open one it joins the unfinished bytes.
  -- If these now end a message [..] or show a refusal, the rules here give answer, reply and new state, and no byte stays unfinished."
  unfoldable pub feed_all : S → List ℕ → List (Item E) → Ran S A
  feed_all s u [] = record { ended = []; state = s }
  feed_all s u (byte b ∷ rest) =
      elim (R.feed s b) [
        | quiet t ↦ feed_all t (u ++ (b ∷ [])) rest
        | answered a r t ↦ ending (ended_by u b a r) (feed_all t [] rest)
      ]
  feed_all s u (event e ∷ rest) = feed_all (R.act e s) u rest

  -- The bytes after the last answer. On a closed session they belong to no message
  unfoldable pub unfinished : S → List ℕ → List (Item E) → List ℕ
  unfinished s u [] = u
  unfinished s u (byte b ∷ rest) =
      elim (R.feed s b) [
        | quiet t ↦ unfinished t (u ++ (b ∷ [])) rest
        | answered a r t ↦ unfinished t [] rest
      ]
  unfinished s u (event e ∷ rest) = unfinished (R.act e s) u rest
