-- The words of an entry's remaining time and values, for each way through the functions that put them.
use Prim.Native.Nat.{ℕ}
use mathlib.Core.Path.{◌≡◌, refl, sym, ap, ◌∙◌}
use mathlib.Core.List.{List, [], ◌∷◌, ◌++◌, map, append-nil}
use lib.IntN.{pos}
use borrow.Author.Tests.{eq-eqb, ne_eqb}
use Rattle.handshake.specs.Bytes.{ascii, decimal}
use Rattle.store.specs.declared.Entry.{Entry}
use Rattle.store.specs.Limits.{slot_types}
use Rattle.text.specs.Text.{signed, spaced}
use Rattle.wire.specs.declared.writer.Writer.{Writer}
use Rattle.wire.specs.Writing.{Writes}
use Rattle.wire.proofs.Writing.{writes-joined, writes-as}
use Rattle.text.proofs.LineWords.{words}
use Rattle.dump.specs.StoreLines.{present_among, values_of, time_word}
use Rattle.dump.proofs.PresentValues.{map-append}

-- ---- the remaining time
module _ (e : Entry) {a b : Writer} where
  pub no-time : (e.timed ≡ 1 → ⊥) → Writes (spaced (ascii "-" ∷ [])) a b → Writes (spaced (time_word e ∷ [])) a b
  unfolding time_word
  no-time f w = rw (ne_eqb e.timed 1 f) w

  pub a-time : {c : Writer} → e.timed ≡ 1 → Writes (ascii " T") a b → Writes (decimal e.remaining) b c → Writes (spaced (time_word e ∷ [])) a c
  unfolding time_word spaced
  a-time h p q = rw (eq-eqb e.timed 1 h) (writes-as (ap (λ (l : List ℕ). ascii " T" ++ l) (sym (append-nil (decimal e.remaining)))) (writes-joined p q))

-- ---- the values
signed-pos : (ns : List ℕ) → map signed (map pos ns) ≡ map decimal ns
unfolding signed
signed-pos [] = refl
signed-pos (n ∷ ns) = ap (λ l. decimal n ∷ l) (signed-pos ns)

module _ (types : ℕ) (e : Entry) {a b c : Writer} where
  pub values-are : Writes (spaced (map signed (present_among types (0 ∷ []) (e.server_id ∷ [])))) a b
      → Writes (spaced (map decimal (present_among types slot_types e.values))) b c → Writes (spaced (map signed (values_of types e))) a c
  unfolding values_of
  values-are p q =
      let ids = present_among types (0 ∷ []) (e.server_id ∷ []) in
      let vs = present_among types slot_types e.values in
      writes-as
      (ap spaced (ap (λ l. map signed ids ++ l) (sym (signed-pos vs)) ∙ sym (map-append signed ids (map pos vs))))
      (words (map signed ids) (map decimal vs) p q)
