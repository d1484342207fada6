-- The line of the phase, for each way through the function that puts it.
use mathlib.Core.Path.{◌≡◌, sym, ◌∙◌}
use mathlib.Core.List.{[], ◌∷◌}
use lib.Dec.{eqb}
use borrow.Author.Tests.{eq-eqb, ne_eqb}
use Rattle.lists.proofs.Cases.{cond-false}
use Rattle.handshake.specs.Bytes.{ascii, decimal}
use Rattle.session.specs.declared.Connection.{Connection}
use Rattle.session.specs.Session.{is_closed}
use Rattle.text.specs.Text.{spaced, line}
use Rattle.wire.specs.declared.writer.Writer.{Writer}
use Rattle.wire.specs.Writing.{Writes}
use Rattle.wire.proofs.Writing.{writes-as}
use Rattle.text.proofs.LineWords.{where_true, line_of}
use Rattle.dump.specs.RecordLines.{phase_line}

module _ (c : Connection) {a b : Writer} where
  pub phase-closed : {x y : Writer} → c.closed ≡ 1 → Writes (ascii "session closed") a b → Writes (spaced (decimal c.number ∷ [])) b x → Writes (10 ∷ []) x y
      → Writes (phase_line c) a y
  unfolding phase_line is_closed line spaced
  phase-closed e p q r = where_true _ (eq-eqb c.closed 1 e) (line_of (decimal c.number ∷ []) p q r)

  pub phase-open : (c.closed ≡ 1 → ⊥) → c.phase ≡ 2 → Writes (ascii "session open\n") a b → Writes (phase_line c) a b
  unfolding phase_line is_closed line spaced
  phase-open f e w = writes-as (sym (cond-false (eqb c.closed 1) _ _ (ne_eqb c.closed 1 f) ∙ rw (eq-eqb c.phase 2 e))) w

  pub phase-handshake : (c.closed ≡ 1 → ⊥) → (c.phase ≡ 2 → ⊥) → Writes (ascii "session handshake\n") a b → Writes (phase_line c) a b
  unfolding phase_line is_closed line spaced
  phase-handshake f g w = writes-as (sym (cond-false (eqb c.closed 1) _ _ (ne_eqb c.closed 1 f) ∙ rw (ne_eqb c.phase 2 g))) w
