-- Text by a test, words one after the other, and a line of them: its first word, its other words, its LF.
use Prim.Native.Nat.{ℕ}
use mathlib.Core.Path.{◌≡◌, refl, ap, ◌∙◌}
use mathlib.Core.Bool.{Bool, true, false, cond}
use mathlib.Core.List.{List, [], ◌∷◌, ◌++◌, append_assoc}
use Rattle.wire.specs.declared.writer.Writer.{Writer}
use Rattle.wire.specs.Writing.{Writes}
use Rattle.wire.proofs.Writing.{writes-joined, writes-as, writes-nothing}
use Rattle.text.specs.Text.{spaced, line}

-- ---- text by a test
module _ {test : Bool} {a b : Writer} where
  pub where_true : {s : List ℕ} (t : List ℕ) → test ≡ true → Writes s a b → Writes (cond test s t) a b
  where_true t e p = rw e p

  pub where_false : (s : List ℕ) {t : List ℕ} → test ≡ false → Writes t a b → Writes (cond test s t) a b
  where_false s e p = rw e p

-- ---- words one after the other
pub spaced-append : (ws vs : List (List ℕ)) → spaced ws ++ spaced vs ≡ spaced (ws ++ vs)
unfolding spaced
spaced-append [] vs = refl
spaced-append (w ∷ ws) vs = ap (λ (l : List ℕ). 32 ∷ l) (append_assoc w (spaced ws) (spaced vs) ∙ ap (λ (l : List ℕ). w ++ l) (spaced-append ws vs))

module _ {a b c : Writer} where
  pub words : (ws vs : List (List ℕ)) → Writes (spaced ws) a b → Writes (spaced vs) b c → Writes (spaced (ws ++ vs)) a c
  words ws vs p q = writes-as (spaced-append ws vs) (writes-joined p q)

pub no_words : (a : Writer) → Writes (spaced []) a a
unfolding spaced
no_words a = writes-nothing a

-- ---- a line: its first word, its other words, its LF
module _ {first : List ℕ} {a b c : Writer} where
  pub line_0 : Writes first a b → Writes (10 ∷ []) b c → Writes (line first []) a c
  unfolding line spaced
  line_0 p r = writes-joined p r

  pub line_of : (ws : List (List ℕ)) {d : Writer} → Writes first a b → Writes (spaced ws) b c → Writes (10 ∷ []) c d → Writes (line first ws) a d
  unfolding line
  line_of ws p q r = writes-joined p (writes-joined q r)
