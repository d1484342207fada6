-- What a function that reads through a `BodyReader` promises.
use Rattle.std.specs.Prelude.{◌≡◌, ℕ, Result, Ok, Err}
use Rattle.body.specs.declared.Fault.{Fault}
use Rattle.body.specs.declared.reader.BodyReader.{BodyReader}
use Rattle.body.specs.Fields.{Read, got, failed, Reader}

module _ {A : Type 0} where
  -- what was read up to a position
  abbrev pub up_to : ℕ → Result A Fault → Read A
  up_to next (Ok a) = got a next
  up_to next (Err f) = failed f

  -- The field is read where the reader stands: its value, and the reader stands behind it; or its fault. The body is the one that was lent.
  abbrev pub Reads : Reader A → BodyReader → BodyReader → Result A Fault → Type 0
  Reads field old new result = (up_to new.at result ≡ field old.body.now old.at) × (new.body.now ≡ old.body.now)
