-- The line of a reply, of document 01's "The listing".
use Rattle.std.specs.Prelude.{ℕ, List, [], ◌∷◌}
use Rattle.handshake.specs.Bytes.{ascii}
use Rattle.text.specs.Text.{hex, line}

-- "reply 3230300A"; ".. its reply line if any"
unfoldable pub reply_line : List ℕ → List ℕ
reply_line [] = []
reply_line (b ∷ s) = line (ascii "reply") (hex (b ∷ s) ∷ [])
