use Rattle.text.proofs.spaced.SpacedWords.{no_bytes, some_bytes}
use Rattle.text.proofs.spaced.put_hex_or_none.Goals as goal

pub returns-then-bytes-eq0 : goal.returns-then-bytes-eq0
returns-then-bytes-eq0 c = no_bytes _ c.if-bytes-eq0.true c.put_word.ensures

pub returns-else-bytes-eq0 : goal.returns-else-bytes-eq0
returns-else-bytes-eq0 c = some_bytes _ c.if-bytes-eq0.false c.put_hex_word.ensures
