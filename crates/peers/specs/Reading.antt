-- What the exported reading call promises: what `read` does, with numbers for the answer.
use Rattle.std.specs.Prelude.{ℕ, ◌≡◌, List, true, length}
use Rattle.lists.specs.Lists.{front, every}
use Rattle.store.specs.declared.Store.{Store}
use Rattle.session.specs.declared.Session.{Session}
use Rattle.receiver.specs.Model.{is_byte}
use Rattle.receiver.specs.Promise.{call_of, outcome_of, session_of, Shaped}
use Rattle.peers.specs.declared.numbers.RawOutcome.{RawOutcome}
use Rattle.peers.specs.Numbers.{raw_outcome}

-- one call: its piece, its reply room, the numbers that it returned, and record, store and room afterwards
pub record RawMade : Type 0 where
  pub piece : List ℕ
  pub room : List ℕ
  pub outcome : RawOutcome
  pub session : Session
  pub store : Store
  pub final : List ℕ

-- the promise of `peers_read`, on a record and a store
pub record RawPromise (s : Session) (t : Store) (m : RawMade) : Type 0 where
  pub outcome : m.outcome ≡ raw_outcome (outcome_of (call_of s t m.piece (length m.room)))
  pub session : m.session ≡ session_of s (call_of s t m.piece (length m.room))
  pub store : m.store ≡ (call_of s t m.piece (length m.room)).state.store
  -- "Reply room past the reply stays as it came, in every call."
  pub final : m.final ≡ front (call_of s t m.piece (length m.room)).reply m.room
  -- the shape of what came in
  pub shaped : Shaped s t
  pub bytes : every is_byte m.piece ≡ true
