use Rattle.handshake.specs.Bytes.{decimal}
use Rattle.dump.proofs.PresentValues.{there, gone}
use Rattle.dump.proofs.present_words.put_present.Goals as goal

pub returns-then-present : goal.returns-then-present
returns-then-present c = there _ _ _ decimal c.if-present.ensures c.put_decimal_word.ensures

pub returns-else-present : goal.returns-else-present
returns-else-present c = gone _ _ _ decimal c.if-present.ensures
