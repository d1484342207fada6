-- "Messages", first part, of document 01: the header's two bytes and the encoded body length.
use Rattle.std.specs.Prelude.{ℕ, ◌+◌, List, cond, ◌&&◌, ltb, leb, eqb, length, get_or, Err, None, Ok, Option, Result, Some}
use Rattle.frame.specs.declared.Header.{Header}
use Rattle.wire.specs.declared.IntError.{IntError}
use Rattle.wire.specs.declared.IntError.TheVariants as int
use Rattle.wire.specs.Integer.{read_int}
use Rattle.frame.specs.declared.Header.TheVariants as header
use Rattle.frame.specs.declared.Frame.{Frame}
use Rattle.frame.specs.declared.Frame.TheVariants as frame

-- ---- classes and types of messages

-- "class 10 with types from 128 up"
abbrev pub stick_table_class : ℕ
stick_table_class = 10

-- "Types: 128 update, 129 incremental update, 130 definition, 131 switch, .."; request 2: "numbers the acknowledgement 132, a timed update 133
-- and a timed incremental one 134"
abbrev pub update_type : ℕ
update_type = 128

abbrev pub incremental_type : ℕ
incremental_type = 129

abbrev pub definition_type : ℕ
definition_type = 130

abbrev pub switch_type : ℕ
switch_type = 131

abbrev pub acknowledgement_type : ℕ
acknowledgement_type = 132

abbrev pub timed_type : ℕ
timed_type = 133

abbrev pub timed_incremental_type : ℕ
timed_incremental_type = 134

-- ---- a message's first bytes

-- "The header's two bytes decide among these: class 0 with type 0 request, 1 finished, 2 partial, 3 confirmed, 4 heartbeat; class 1 with
-- type 0 protocol error, 1 size limit; class 10 with types from 128 up. All else is refusal 20"
unfoldable pub header_of : ℕ → ℕ → Option Header
header_of class type =
    cond (eqb class 0 && leb type 4) (Some (header.Control type))
    (cond (eqb class 1 && leb type 1) (Some (header.Error type))
    (cond (eqb class stick_table_class && leb update_type type) (Some (header.StickTable type)) None))

-- "22 | body over 1,024 bytes"
abbrev pub body_max : ℕ
body_max = 1024

-- "Class 10 continues with the encoded body length, judged at its last byte (21 at the byte that shows an overflow), then the body, judged
-- when whole."
unfoldable pub with_length : ℕ → List ℕ → Result (ℕ × ℕ) IntError → Frame
with_length kind u (Err (int.Short looked)) = frame.Waiting
with_length kind u (Err (int.Overflow looked)) = frame.Refused 21
with_length kind u (Ok (n, start)) =
    cond (ltb body_max n) (frame.Refused 22)
    (cond (ltb (length u) (start + n)) frame.Waiting (frame.Body kind start (start + n)))

unfoldable pub with_header : List ℕ → Option Header → Frame
with_header u (Some (header.Control type)) = frame.Control type
with_header u (Some (header.Error type)) = frame.Error type
with_header u (Some (header.StickTable type)) = with_length type u (read_int u 2)
with_header u None = frame.Refused 20

-- ".. refusal 20, shown at the second byte."
unfoldable pub judge_frame : List ℕ → Frame
judge_frame u = cond (ltb (length u) 2) frame.Waiting (with_header u (header_of (get_or u 0 0) (get_or u 1 0)))
