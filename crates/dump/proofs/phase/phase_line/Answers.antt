use Rattle.dump.proofs.phase.PhaseWords.{phase-closed, phase-open, phase-handshake}
use Rattle.dump.proofs.phase.phase_line.Goals as goal

pub returns-then-c-eq1 : goal.returns-then-c-eq1
returns-then-c-eq1 c = phase-closed _ c.if-c-eq1.true c.put.ensures (rw c.from.ensures at c.put_decimal_word.ensures) c.put-then-c-eq1.ensures

pub returns-then-c-eq-ESTABLISHED : goal.returns-then-c-eq-ESTABLISHED
returns-then-c-eq-ESTABLISHED c = phase-open _ c.if-c-eq1.false c.if-c-eq-ESTABLISHED.true c.put-then-c-eq-ESTABLISHED.ensures

pub returns-else-c-eq-ESTABLISHED : goal.returns-else-c-eq-ESTABLISHED
returns-else-c-eq-ESTABLISHED c = phase-handshake _ c.if-c-eq1.false c.if-c-eq-ESTABLISHED.false c.put-else-c-eq-ESTABLISHED.ensures
