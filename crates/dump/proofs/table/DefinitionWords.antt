-- The words of a table's times, for each way through the function that puts them.
use mathlib.Core.Path.{◌≡◌}
use mathlib.Core.List.{[], ◌∷◌, map}
use borrow.Author.Tests.{eq-eqb, ne_eqb}
use Rattle.handshake.specs.Bytes.{ascii, decimal}
use Rattle.store.specs.declared.Table.{Table}
use Rattle.text.specs.Text.{spaced}
use Rattle.wire.specs.declared.writer.Writer.{Writer}
use Rattle.wire.specs.Writing.{Writes}
use Rattle.text.proofs.LineWords.{words}
use Rattle.dump.specs.StoreLines.{periods_of, times_words}

module _ (t : Table) {a b : Writer} where
  pub no-times : (t.timed ≡ 1 → ⊥) → Writes (spaced (ascii "-" ∷ [])) a b → Writes (spaced (times_words t)) a b
  unfolding times_words
  no-times f w = rw (ne_eqb t.timed 1 f) w

  pub times : {c : Writer} → t.timed ≡ 1 → Writes (spaced (decimal t.expiry ∷ [])) a b → Writes (spaced (map decimal (periods_of t))) b c
      → Writes (spaced (times_words t)) a c
  unfolding times_words
  times e p q = rw (eq-eqb t.timed 1 e) (words (decimal t.expiry ∷ []) (map decimal (periods_of t)) p q)
