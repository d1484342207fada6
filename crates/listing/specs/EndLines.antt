-- The last line of document 01's "The listing".
use Rattle.std.specs.Prelude.{ℕ, List, [], ◌∷◌, cond}
use Rattle.handshake.specs.Bytes.{ascii, decimal}
use Rattle.session.specs.declared.Session.{Session}
use Rattle.session.specs.Session.{is_closed}
use Rattle.text.specs.Text.{line}

-- "end open 0": "The last number counts unfinished bytes." "A closed session ends with `end closed` and its number."
unfoldable pub end_line : Session → List ℕ
end_line s =
    cond (is_closed s.connection)
    (line (ascii "end") (ascii "closed" ∷ decimal s.connection.number ∷ []))
    (line (ascii "end") (ascii "open" ∷ decimal s.len ∷ []))
