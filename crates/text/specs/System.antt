-- What holds of what the system answers. The contract of `Read::read` bounds its count, that of `Print::write_all` says nothing, and none says
-- which bytes were moved: so the rest, named at each definition, is free.
use Rattle.std.specs.Prelude.{ℕ, ◌≤◌, ◌<◌, ◌≡◌, Bool, true, false, cond, eqb, Option, Some, None, Result, Ok, Err}
use Rattle.text.specs.declared.input.ReadError.{ReadError}
use Rattle.text.specs.declared.input.ReadError.TheVariants as read
use Rattle.text.specs.declared.input.InputError.{InputError}
use Rattle.text.specs.declared.input.InputError.TheVariants as input
use Rattle.text.specs.Room.{fits_behind}

-- a read into a buffer of some size: a count of its bytes, or it failed or was interrupted; free: which, and the bytes
unfoldable pub ReadAnswer : ℕ → Result ℕ ReadError → Type 0
ReadAnswer size (Ok k) = k ≤ size
ReadAnswer size (Err e) = Unit {0}

-- what follows a read into a buffer that isn't empty, by its answer: no byte is the end of the input, and after an interruption it is made again
unfoldable pub next_of : Result ℕ ReadError → Result (Option ℕ) InputError
next_of (Ok k) = cond (eqb k 0) (Err input.End) (Ok (Some k))
next_of (Err read.Interrupted) = Ok None
next_of (Err read.Failed) = Err input.Failed

-- how filling a buffer of some size ended: an empty one is whole; free: how another ended, and the bytes
unfoldable pub FillAnswer : ℕ → Result Unit InputError → Type 0
FillAnswer size (Ok u) = Unit {0}
FillAnswer size (Err e) = 0 < size

-- whether all is written after a write of the first n bytes of a room of some size: only if all was before and there are so many; free:
-- whether it is then
unfoldable pub WrittenAfter : ℕ → ℕ → Bool → Bool → Type 0
WrittenAfter size n before true = (before ≡ true) × (n ≤ size)
WrittenAfter size n before false = Unit {0}

-- the same of a page with room for a text of at most so many bytes: as before where it fits behind `next`, else after a write up to there
unfoldable pub WrittenFor : ℕ → ℕ → ℕ → Bool → Bool → Type 0
WrittenFor size next most before after = cond (fits_behind size next most) (after ≡ before) (WrittenAfter size next before after)
