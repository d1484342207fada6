-- A definition and an update written: a law for each way through the functions that put their parts.
use Prim.Native.Nat.{ℕ, ◌+◌, ◌≤◌, ◌<◌, min}
use native.Mathlib.Omega.{arith}
use native.Mathlib.Numerals.{add-one}
use mathlib.Core.Path.{◌≡◌, refl, sym, ap, ◌∙◌}
use mathlib.Core.List.{List, [], ◌∷◌, ◌++◌, append_assoc, append-nil}
use mathlib.Core.Bool.{Bool, true, false, cond}
use lib.ListN.{length, take, get_or}
use lib.Seq.{take_all, take-suc, length-take-le}
use Rattle.lists.proofs.Cases.{cond-true, cond-false}
use Rattle.lists.proofs.Prefix.{prefix-shorter}
use Rattle.wire.specs.Room.{Wrote}
use Rattle.wire.specs.declared.writer.Writer.{Writer}
use Rattle.wire.specs.Writing.{Writes}
use Rattle.wire.proofs.Writing.{writes-nothing, writes-joined, writes-as}
use Rattle.store.specs.declared.Table.{Table}
use Rattle.store.specs.declared.Entry.{Entry}
use Rattle.store.specs.Limits.{slot_types, rate_types}
use Rattle.store.specs.Store.{name_of, key_of}
use Rattle.store.proofs.Rules.{slot-count, rate-count}
use Rattle.body.specs.Encodings.{each_bytes, value_bytes, period_bytes}

-- ---- bytes that stand by a test, where the code's test gave true, or false
module _ {t : Bool} {u : Writer} (bytes : List ℕ) where
  pub put-there : true ≡ t → {v : Writer} → Writes bytes u v → Writes (cond t bytes []) u v
  put-there e w = writes-as (sym (cond-true t bytes [] (sym e))) w

  pub put-none : false ≡ t → Writes (cond t bytes []) u u
  put-none e = writes-as (sym (cond-false t bytes [] (sym e))) (writes-nothing u)

-- ---- a value for each of the types ts, in a loop: those of the first i are put
each_snoc : (encode : ℕ → ℕ → List ℕ) (ts vs : List ℕ) (t v : ℕ) → length ts ≡ length vs
    → each_bytes encode ts vs ++ encode t v ≡ each_bytes encode (ts ++ (t ∷ [])) (vs ++ (v ∷ []))
unfolding each_bytes
each_snoc encode [] [] t v e = sym (append-nil (encode t v))
each_snoc encode [] (x ∷ vs) t v e = absurd (omega arith)
each_snoc encode (s ∷ ts) [] t v e = absurd (omega arith)
each_snoc encode (s ∷ ts) (x ∷ vs) t v e =
    append_assoc (encode s x) (each_bytes encode ts vs) (encode t v)
    ∙ ap (λ (l : List ℕ). encode s x ++ l) (each_snoc encode ts vs t v (omega arith))

each_nil : (encode : ℕ → ℕ → List ℕ) → each_bytes encode [] [] ≡ []
unfolding each_bytes
each_nil encode = refl

pub record Each (encode : ℕ → ℕ → List ℕ) (ts vs : List ℕ) (u v : Writer) (i : ℕ) : Type 0 where
  pub paired : length vs ≡ length ts
  pub up : i ≤ length ts
  pub wrote : Writes (each_bytes encode (take i ts) (take i vs)) u v

each_start : (encode : ℕ → ℕ → List ℕ) (ts vs : List ℕ) (u : Writer) → length vs ≡ length ts → Each encode ts vs u u 0
each_start encode ts vs u e = record {
  paired = e;
  up = omega arith;
  wrote = writes-as (sym (each_nil encode)) (writes-nothing u);
}

module _ {encode : ℕ → ℕ → List ℕ} {ts vs : List ℕ} {u v : Writer} {i : ℕ} (p : Each encode ts vs u v i) where
  pub each_turn : (t : ℕ) {w : Writer} → i < length ts → t ≡ get_or ts i 0 → Writes (encode t (get_or vs i 0)) v w → Each encode ts vs u w (i + 1)
  each_turn t h e w =
      let b : i < length vs = omega (arith, p.paired) in
      let j : length (take i ts) ≡ length (take i vs) = length-take-le i ts (omega arith) ∙ sym (length-take-le i vs (omega arith)) in
      record {
        paired = p.paired;
        up = omega arith;
        wrote =
            rw (add-one i, take-suc ts i 0 h, take-suc vs i 0 b)
            (writes-as (each_snoc encode (take i ts) (take i vs) (get_or ts i 0) (get_or vs i 0) j) (writes-joined p.wrote (rw e at w)));
      }

  pub each-end : length ts ≤ i → Writes (each_bytes encode ts vs) u v
  each-end h = writes-as (rw (take_all i ts h, take_all i vs (omega (arith, p.paired)))) p.wrote

pub pairs_start : (types : ℕ) (vs : List ℕ) (u : Writer) → length vs ≡ 8 → Each (period_bytes types) rate_types vs u u 0
pairs_start types vs u e = each_start (period_bytes types) rate_types vs u (e ∙ sym rate-count)

pub values-start : (types : ℕ) (vs : List ℕ) (u : Writer) → length vs ≡ 34 → Each (value_bytes types) slot_types vs u u 0
values-start types vs u e = each_start (value_bytes types) slot_types vs u (e ∙ sym slot-count)

pub ruleset each_laws = (each-end, rate-count, slot-count)

-- ---- the name and the key in their arrays
pub name-taken : (t : Table) (n : ℕ) → n ≡ min t.name_len 32 → length t.name ≡ 32 → take n t.name ≡ name_of t
unfolding name_of
name-taken t n e h = ap (λ (k : ℕ). take k t.name) e ∙ prefix-shorter t.name t.name_len 32 h

pub key-taken : (e : Entry) (n : ℕ) → n ≡ min e.key_len 64 → length e.key ≡ 64 → take n e.key ≡ key_of e
unfolding key_of
key-taken e n q h = ap (λ (k : ℕ). take k e.key) q ∙ prefix-shorter e.key e.key_len 64 h

-- ---- what was written through a writer over a room stands in the room, where that has the content of the writer's
pub written : {bytes final : List ℕ} {u v : Writer} → Writes bytes u v → v.room.now ≡ final → Wrote u.room.now u.at bytes final v.at
written p e = rw e at p.wrote
