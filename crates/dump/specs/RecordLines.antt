-- The lines in which `replay` shows a session record.
use Rattle.std.specs.Prelude.{ℕ, ◌+◌, ◌-◌, List, [], ◌∷◌, ◌++◌, cond, eqb, Option, Some, None}
use Rattle.handshake.specs.Bytes.{ascii, decimal}
use Rattle.session.specs.declared.Binding.{Binding}
use Rattle.session.specs.declared.Connection.{Connection}
use Rattle.session.specs.declared.Sending.{Sending}
use Rattle.session.specs.declared.Session.{Session}
use Rattle.session.specs.Session.{is_closed, is_bound, is_updated, unfinished, established}
use Rattle.text.specs.Text.{hex_or_none, line}

-- a number, `-` for none
unfoldable pub number_or_none : Option ℕ → List ℕ
number_or_none (Some n) = decimal n
number_or_none None = ascii "-"

-- the place that is one less than a number, none for 0
unfoldable pub place_before : ℕ → Option ℕ
place_before n = cond (eqb n 0) None (Some (n - 1))

-- `session handshake`, `session open` or `session closed N`
unfoldable pub phase_line : Connection → List ℕ
phase_line c =
    cond (is_closed c)
    (line (ascii "session") (ascii "closed" ∷ decimal c.number ∷ []))
    (line (ascii "session") (cond (eqb c.phase established) (ascii "open") (ascii "handshake") ∷ []))

-- `unfinished HEX`
unfoldable pub unfinished_line : Session → List ℕ
unfinished_line s = line (ascii "unfinished") (hex_or_none (unfinished s) ∷ [])

-- `current P`, `-` for none
unfoldable pub current_line : Connection → List ℕ
current_line c = line (ascii "current") (cond (eqb c.current 0) (ascii "-") (decimal (c.current - 1)) ∷ [])

-- request 3: `defined P`, `-` where no table was defined; `sent ID`, `-` where no entry was sent since
unfoldable pub defined_line : Sending → List ℕ
defined_line x = line (ascii "defined") (cond (eqb x.defined 0) (ascii "-") (decimal (x.defined - 1)) ∷ [])

unfoldable pub sent_line : Sending → List ℕ
sent_line x = line (ascii "sent") (cond (eqb x.sent 1) (decimal x.last) (ascii "-") ∷ [])

unfoldable pub sending_lines : Sending → List ℕ
sending_lines x = defined_line x ++ sent_line x

-- `bound P ID` and `previous P ID`, where the place has them
unfoldable pub binding_lines : ℕ → Binding → List ℕ
binding_lines place b =
    cond (is_bound b) (line (ascii "bound") (decimal place ∷ decimal b.id ∷ [])) []
    ++ cond (is_updated b) (line (ascii "previous") (decimal place ∷ decimal b.previous ∷ [])) []

-- by place, the list's first having this one
unfoldable pub bindings_lines : ℕ → List Binding → List ℕ
bindings_lines place [] = []
bindings_lines place (b ∷ bs) = binding_lines place b ++ bindings_lines (place + 1) bs

unfoldable pub record_lines : Session → List ℕ
record_lines s =
    phase_line s.connection
    ++ (unfinished_line s ++ (current_line s.connection ++ (sending_lines s.sending ++ bindings_lines 0 s.connection.bindings)))
