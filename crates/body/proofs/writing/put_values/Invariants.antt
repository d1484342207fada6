use Rattle.store.specs.Limits.{slot_types}
use Rattle.body.specs.Encodings.{value_bytes}
use Rattle.body.proofs.writing.WritingLaws.{Each}
use Rattle.body.proofs.writing.put_values.Given as goal

abbrev pub invariant-loop-slot : goal.invariant-loop-slot
invariant-loop-slot l = Each (value_bytes l.types) slot_types l.value-items l.initial.w l.w l.slot
