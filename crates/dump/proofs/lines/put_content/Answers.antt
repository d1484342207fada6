use Rattle.text.proofs.LineWords.{words}
use Rattle.dump.proofs.lines.put_content.Goals as goal

pub returns : goal.returns
returns c = words _ _ c.put_decimal_word.ensures (words _ _ c.put_key.ensures (words _ _ c.put_time.ensures c.put_values.ensures))
