use Rattle.store.specs.Limits.{rate_types}
use Rattle.body.specs.Encodings.{period_bytes}
use Rattle.body.proofs.writing.WritingLaws.{Each}
use Rattle.body.proofs.writing.put_pairs.Given as goal

abbrev pub invariant-loop-i : goal.invariant-loop-i
invariant-loop-i l = Each (period_bytes l.types) rate_types l.period-items l.initial.w l.w l.i
