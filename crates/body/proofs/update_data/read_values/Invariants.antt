use mathlib.Core.Path.{◌≡◌}
use Rattle.body.proofs.Filling.{Filling}
use Rattle.store.specs.Limits.{slot_types}
use Rattle.body.specs.Bodies.{slot_field}
use Rattle.body.proofs.update_data.read_values.Given as goal

abbrev pub invariant-loop-slot : goal.invariant-loop-slot
invariant-loop-slot l = Filling (slot_field l.types) slot_types 34 l.initial.r.body.now l.initial.r.at l.place-items l.r.at l.slot × (l.r.body.now ≡ l.initial.r.body.now)
