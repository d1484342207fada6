use mathlib.Core.Path.{◌≡◌}
use Rattle.body.proofs.Filling.{Filling}
use Rattle.store.specs.Limits.{rate_types}
use Rattle.body.specs.Bodies.{period_field}
use Rattle.body.proofs.times.read_periods.Given as goal

abbrev pub invariant-loop-i : goal.invariant-loop-i
invariant-loop-i l = Filling (period_field l.types) rate_types 8 l.initial.r.body.now l.initial.r.at l.place-items l.r.at l.i × (l.r.body.now ≡ l.initial.r.body.now)
