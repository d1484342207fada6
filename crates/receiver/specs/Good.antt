-- What holds of every state that the byte model reaches from a sound record and store: it is sound, and its values have their types' shape.
use Rattle.std.specs.Prelude.{ℕ, ◌<◌, ◌^◌, ◌≡◌, true, get_or}
use Rattle.store.specs.Shape.{StoreShape}
use Rattle.session.specs.Shape.{ConnectionShape}
use Rattle.receiver.specs.Model.{State, sound_state}

pub record Good (s : State) : Type 0 where
  pub sound : sound_state s ≡ true
  pub connection : ConnectionShape s.connection
  pub unfinished : (i : ℕ) → get_or s.unfinished i 0 < 2 ^ 8
  pub store : StoreShape s.store
