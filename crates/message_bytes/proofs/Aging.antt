-- What passing calls leave of an entry, one call after another.
use Prim.Native.Nat.{ℕ, ◌+◌, ◌-◌, ◌≤◌, ◌<◌}
use native.Mathlib.Omega.{arith}
use mathlib.Core.Path.{◌≡◌, refl, sym, ap, subst, ◌∙◌}
use mathlib.Core.Logic.{inl, inr, ⊎_elim}
use mathlib.Core.Bool.{true, false}
use mathlib.Core.List.{List, [], ◌∷◌, ◌++◌}
use lib.ListN.{length, get_or}
use lib.Dec.{eqb}
use borrow.Author.Tests.{eq-eqb, ne_eqb}
use Rattle.lists.proofs.Cases.{by-test, never, cond-true, cond-false, lt-or-le}
use Rattle.store.specs.declared.Entry.{Entry}
use Rattle.store.specs.declared.Store.{Store}
use Rattle.store.specs.Store.{no_entry}
use Rattle.store.specs.Time.{entry_timed, lowered, pass_entry, Passed, PassPromise}
use Rattle.store.proofs.Passing.{pass-stays, pass-removes, pass-lowers, no-entry-timed, lowered-timed, lowered-left, lowered-twice, entry-passes}
use Rattle.receiver.proofs.OnePass.{refused-pass-untouched}
use Rattle.message_bytes.specs.LastUpdates.{passed_in, NonePasses, Since, same, less, removed}

-- ---- the sum

passed_none : (p : Passed) (times : List Passed) → (p.number ≡ 0 → ⊥) → passed_in (p ∷ times) ≡ passed_in times
unfolding passed_in
passed_none p times f =
    ap (λ (n : ℕ). n + passed_in times) (cond-false (eqb p.number 0) p.milliseconds 0 (ne_eqb p.number 0 f)) ∙ (omega arith)

passed-more : (p : Passed) (times : List Passed) → p.number ≡ 0 → passed_in (p ∷ times) ≡ p.milliseconds + passed_in times
unfolding passed_in
passed-more p times n = ap (λ (n : ℕ). n + passed_in times) (cond-true (eqb p.number 0) p.milliseconds 0 (eq-eqb p.number 0 n))

nothing-passed : (times : List Passed) → NonePasses times → passed_in times ≡ 0
unfolding NonePasses
nothing-passed [] h = unfold passed_in in refl
nothing-passed (p ∷ times) h = passed_none p times h.0 ∙ nothing-passed times h.1

-- ---- no call

lowered_none : (x : Entry) → lowered 0 x ≡ x
unfolding lowered
lowered_none x = let q : x.remaining - 0 ≡ x.remaining = omega arith in rw q

no_call : (before : List Passed) (p : Passed) (after : List Passed) → [] ≡ before ++ (p ∷ after) → ⊥
no_call [] p after e = let l = ap length e in omega (arith, l)
no_call (q ∷ before) p after e = let l = ap length e in omega (arith, l)

pub none-since : (x y : Entry) → Since [] x y → y ≡ x
unfolding passed_in
none-since x y (same h) = refl
none-since x y (less t l) = lowered_none x
none-since x y (removed t r) = absurd (no_call r.before r.call r.after r.among)

-- ---- a call that was refused

refused-since : (p : Passed) → (p.number ≡ 0 → ⊥) → (times : List Passed) (x y : Entry) → Since times x y → Since (p ∷ times) x y
unfolding NonePasses
refused-since p f times x y (same h) = same (⊎_elim inl (λ k. inr (f, k)) h)
refused-since p f times x y (less t l) =
    let q = passed_none p times f in
    subst (λ (k : ℕ). Since (p ∷ times) x (lowered k x)) q (less t (rw q l))
refused-since p f times x y (removed t r) =
    let q = passed_none p r.before f in
    removed t
    (record {
      before = p ∷ r.before;
      call = r.call;
      after = r.after;
      among = ap (p ∷◌) r.among;
      passed = r.passed;
      left = ⊎_elim (λ l. inl (rw q l)) (λ k. inr (f, k)) r.left;
      gone = rw q r.gone;
    })

-- ---- a call that passes time

-- an entry without a time stays
untimed-same : (times : List Passed) (x y : Entry) → entry_timed x ≡ false → Since times x y → y ≡ x
untimed-same times x y f (same h) = refl
untimed-same times x y f (less t l) = never t f
untimed-same times x y f (removed t r) = never t f

module _ (p : Passed) (n : p.number ≡ 0) (times : List Passed) (x : Entry) where
  abbrev e : ℕ
  e = p.milliseconds

  removed-now : (y : Entry) → entry_timed x ≡ true → x.remaining ≤ e → y ≡ no_entry → Since (p ∷ times) x y
  unfolding passed_in NonePasses
  removed-now y t l q =
      subst (Since (p ∷ times) x) (sym q)
      (removed t (record { before = []; call = p; after = times; among = refl; passed = n; left = inr tt; gone = omega arith }))

  lowered-since : (y : Entry) → entry_timed x ≡ true → e < x.remaining → Since times (lowered e x) y → Since (p ∷ times) x y
  lowered-since y t l (same h) =
      ⊎_elim
      (λ f. never (lowered-timed e x ∙ t) f)
      (λ k.
      let q : passed_in (p ∷ times) ≡ e = omega (arith, passed-more p times n, nothing-passed times k) in
      subst (λ (k : ℕ). Since (p ∷ times) x (lowered k x)) q (less t (omega arith)))
      h
  lowered-since y t l (less u m) =
      let q = passed-more p times n in
      let r = lowered-left e x in
      subst (Since (p ∷ times) x) (ap (λ (k : ℕ). lowered k x) q ∙ sym (lowered-twice e (passed_in times) x)) (less t (omega arith))
  lowered-since y t l (removed u r) =
      let q = passed-more p r.before n in
      let w = lowered-left e x in
      let g = r.gone in
      removed t
      (record {
        before = p ∷ r.before;
        call = r.call;
        after = r.after;
        among = ap (p ∷◌) r.among;
        passed = r.passed;
        left = inl (⊎_elim (λ m. omega arith) (λ k. omega (arith, nothing-passed r.before k)) r.left);
        gone = omega arith;
      })

  passing-since : (y : Entry) → Since times (pass_entry e x) y → Since (p ∷ times) x y
  passing-since y h =
      by-test (entry_timed x)
      (λ t.
      ⊎_elim
      (λ l. lowered-since y t l (subst (λ (z : Entry). Since times z y) (pass-lowers e x t l) h))
      (λ l. removed-now y t l (untimed-same times no_entry y no-entry-timed (subst (λ (z : Entry). Since times z y) (pass-removes e x t l) h)))
      (lt-or-le e x.remaining))
      (λ f.
      subst (Since (p ∷ times) x) (sym (untimed-same times x y f (subst (λ (z : Entry). Since times z y) (pass-stays e x f) h)))
      (same (inl f)))

pub passed-since : (t : Store) (p : Passed) (place : ℕ) (times : List Passed) (y : Entry) → PassPromise t p
    → Since times (get_or p.store.entries place no_entry) y → Since (p ∷ times) (get_or t.entries place no_entry) y
passed-since t p place times y promise h =
    let k = refused-pass-untouched t p promise in
    let x = get_or t.entries place no_entry in
    ⊎_elim
    (λ n.
    passing-since p n times x y
    (subst (λ (z : Entry). Since times z y)
    (ap (λ (z : Store). get_or z.entries place no_entry) (k.passed n) ∙ entry-passes p.milliseconds t place) h))
    (λ n.
    refused-since p (λ z. let w : ◌≡◌ {A = ℕ} 4 0 = sym n ∙ z in omega arith) times x y
    (subst (λ (z : Entry). Since times z y) (ap (λ (z : Store). get_or z.entries place no_entry) (k.refused n)) h))
    k.number
