-- Fields of a body, read one after another: "In every body the fields go in wire order, each 23 before 24."
use Rattle.std.specs.Prelude.{ℕ, ◌+◌, ◌^◌, List, [], ◌∷◌, Bool, cond, ◌&&◌, length, take, drop, ltb, leb, ℤ, Option, Some, None, Result, Ok, Err}
use Rattle.body.specs.declared.Failure.{Failure}
use Rattle.body.specs.declared.Fault.{Fault}
use Rattle.body.specs.declared.Failure.TheVariants as failure
use Rattle.wire.specs.declared.IntError.{IntError}
use Rattle.wire.specs.declared.values.FieldError.{FieldError}
use Rattle.wire.specs.declared.IntError.TheVariants as int
use Rattle.wire.specs.declared.values.FieldError.TheVariants as wire-field
use Rattle.wire.specs.Integer.{read_int}
use Rattle.wire.specs.Number.{read_number}
use Rattle.wire.specs.Server.{read_server_id}
pub use Rattle.body.specs.declared.Span.{Span}

-- what reading at a position gives: a value and the position after it; or why it fails and, by request 10, "the offset in the body, from 0, at
-- which the failing field starts, a field being one integer or a name's or key's bytes"
abbrev pub Read : Type 0 → Type 0
Read A = Result (A × ℕ) Fault

pattern abbrev pub got : {A : Type 0} → A → ℕ → Read A
got value next = Ok (value, next)

pattern abbrev pub failed : {A : Type 0} → Fault → Read A
failed f = Err f

abbrev pub fault : Failure → ℕ → Fault
fault f start = record { failure = f; start = start }

module _ {A : Type 0} where
  -- "body ends before a field is whole"
  abbrev pub short : ℕ → Read A
  short start = failed (fault failure.Short start)

  -- "field overflows or is out of range"
  abbrev pub outside : ℕ → Read A
  outside start = failed (fault failure.OutOfRange start)

  -- a name with another byte than "letters, digits, `.`, `_`, `-`, `/` and `:`"
  abbrev pub unplain : ℕ → Read A
  unplain start = failed (fault failure.NotPlain start)

-- what reads at a position of a body
abbrev pub Reader : Type 0 → Type 0
Reader A = List ℕ → ℕ → Read A

module _ {A B : Type 0} where
  -- the next field, from the value and the position that the last one gave; the first failure is the whole's
  abbrev pub and_then : Read A → (A → ℕ → Read B) → Read B
  and_then (got a at) g = g a at
  and_then (failed f) g = failed f

-- a field for each of the types ts, in their order
unfoldable pub for_each : (ℕ → Reader ℕ) → List ℕ → Reader (List ℕ)
for_each field [] body at = got [] at
for_each field (t ∷ ts) body at =
    and_then (field t body at) λ value at₁.
    and_then (for_each field ts body at₁) λ values at₂.
    got (value ∷ values) at₂

-- why a field fails by how its integer on the wire does
abbrev pub failure_of : FieldError → Failure
failure_of wire-field.Short = failure.Short
failure_of wire-field.OutOfRange = failure.OutOfRange

-- what was read on the wire at a position
module _ {A : Type 0} where
  unfoldable pub field_read : ℕ → Result (A × ℕ) FieldError → Read A
  field_read start (Ok (a, next)) = got a next
  field_read start (Err e) = failed (fault (failure_of e) start)

-- a value that was read at a position, if it passes its test
unfoldable pub accepted : Bool → ℕ → ℕ → ℕ → Read ℕ
accepted ok v start next = cond ok (got v next) (outside start)

-- an encoded integer that passes the test, and starts at a position
unfoldable pub tested : (ℕ → Bool) → ℕ → Result (ℕ × ℕ) IntError → Read ℕ
tested ok start (Ok (v, next)) = cond (ok v) (got v next) (outside start)
tested ok start (Err (int.Short looked)) = short start
tested ok start (Err (int.Overflow looked)) = outside start

unfoldable pub integer : (ℕ → Bool) → Reader ℕ
integer ok body at = tested ok at (read_int body at)

-- from low up to high
unfoldable pub between : ℕ → ℕ → ℕ → Bool
between low high n = leb low n && leb n high

-- an encoded integer of k bits
unfoldable pub integer_of : ℕ → Reader ℕ
integer_of k = integer λ v. ltb v (2 ^ k)

-- the bytes of a part of a body: `len` of them from position `start` on
unfoldable pub span_in : List ℕ → Span → List ℕ
span_in body span = take span.len (drop span.start body)

-- n bytes
unfoldable pub bytes : ℕ → Reader Span
bytes n body at = cond (leb (at + n) (length body)) (got (record { start = at; len = n }) (at + n)) (short at)

-- a 4-byte big-endian number
unfoldable pub number_read : ℕ → Option (ℕ × ℕ) → Read ℕ
number_read start (Some (v, next)) = got v next
number_read start None = short start

unfoldable pub number4 : Reader ℕ
number4 body at = number_read at (read_number body at)

-- a server ID
unfoldable pub server_id : Reader ℤ
server_id body at = field_read at (read_server_id body at)
