-- Which refusals a call gives before it reads, and in which order; where the body broke, of the refusals that say it.
use Prim.Native.Nat.{ℕ, ◌≤◌, ◌<◌}
use native.Mathlib.Omega.{arith}
use mathlib.Core.Path.{◌≡◌, refl, sym, ap, ◌∙◌, subst}
use mathlib.Core.Logic.{inl, inr, ⊎_elim}
use mathlib.Core.Option.{some}
use mathlib.Core.Bool.{true, false}
use lib.ListN.{length}
use lib.Dec.{ltb}
use borrow.Author.Tests.{ltb-false, ltb-true}
use Rattle.lists.proofs.Cases.{by-test, never}
use Rattle.store.specs.declared.Store.{Store}
use Rattle.session.specs.declared.Session.{Session}
use Rattle.session.specs.declared.Answer.{Answer}
use Rattle.session.specs.declared.Answer.TheVariants as answer
use Rattle.session.specs.Answers.{refusal_of, answer_number, answer_values}
use Rattle.session.specs.Session.{is_closed}
use Rattle.session.proofs.answers.Refusals.{no_number, same_number, refused-is}
use Rattle.session_soundness.specs.Sound.{sound}
use Rattle.message.specs.declared.Effect.{Effect}
use Rattle.message.specs.Effects.{refuse_with}
use Rattle.streams.specs.Calls.{Call, stay}
use Rattle.receiver.specs.Model.{State, held_by}
use Rattle.receiver.specs.Promise.{Made, ReadPromise, call_of}
use Rattle.receiver.specs.Corollaries.{message_of, closes, gives_offset, OffsetGiven, RefusedAtField, TestedInOrder, TestsInOrder}
use Rattle.receiver.proofs.Acknowledging.{judged}
use Rattle.receiver.proofs.CallCases.{call-short, call-unsound, call-closed, call-open}
use Rattle.receiver.proofs.SettledLaws.{settled-refused}
use Rattle.receiver.proofs.Ways.{Way, Early, staying, waiting-on, judging, open-way, ways, answer-is}

-- 1, 2 and 4 neither close nor have an offset
none-closes : (n : ℕ) → Early n → closes n ≡ false
unfolding closes
none-closes n h = ⊎_elim (λ e. rw e) (λ r. ⊎_elim (λ e. rw e) (λ e. rw e) r) h

none-offset : (n : ℕ) → Early n → gives_offset n ≡ false
unfolding gives_offset
none-offset n h = ⊎_elim (λ e. rw e) (λ r. ⊎_elim (λ e. rw e) (λ e. rw e) r) h

module _ (s : Session) (t : Store) (m : Made) (p : ReadPromise s t m) where
  abbrev call : Call State Answer
  call = call_of s t m.piece (length m.room)

  -- ---- the offset

  by_way : (n : ℕ) → refusal_of m.outcome.answer ≡ some n → Way s t m.piece call
      → OffsetGiven s.connection t (message_of s m) n (answer_values m.outcome.answer)
  unfolding refusal_of answer_values refuse_with
  by_way n a (staying k h q) =
      let r = answer-is s t m p ∙ ap (λ (x : Call State Answer). x.answer) q in
      let e : k ≡ n = same_number k n (sym (ap refusal_of r) ∙ a) in
      rw (none-offset n (subst Early e h)) (ap answer_values r)
  by_way n a (waiting-on w) = absurd (no_number n (sym (ap refusal_of (answer-is s t m p ∙ w.answer)) ∙ a))
  by_way n a (judging e j) =
      let r = answer-is s t m p ∙ j.answer in
      let k = settled-refused s.connection t (message_of s m) e (judged s t m p e j) n (sym (ap refusal_of r) ∙ a) in
      let same = r ∙ ap (λ (x : Effect). x.answer) k.effect in
      subst (λ (x : Answer). OffsetGiven s.connection t (message_of s m) n (answer_values x)) (sym same) k.offset

  -- ---- the order

  stayed : (n : ℕ) → call ≡ stay (held_by s t) (answer.Refused n) → answer_number m.outcome.answer ≡ n
  unfolding answer_number
  stayed n q = ap answer_number (answer-is s t m p ∙ ap (λ (x : Call State Answer). x.answer) q)

  module _ (l : 12 ≤ length m.room) (f : sound s t ≡ true) (o : is_closed s.connection ≡ false) where
    -- a call that reads refuses with a number that closes
    reads_on : (n : ℕ) → refusal_of m.outcome.answer ≡ some n → closes n ≡ true
    unfolding refusal_of
    reads_on n a =
        let q = answer-is s t m p ∙ ap (λ (x : Call State Answer). x.answer) (call-open s t m.piece m.room l f o) in
        ⊎_elim
        (λ w. absurd (no_number n (sym (ap refusal_of (q ∙ w.answer)) ∙ a)))
        (λ k. (settled-refused s.connection t _ k.0 k.1.judged n (sym (ap refusal_of (q ∙ k.1.answer)) ∙ a)).closes)
        (open-way s t m.piece p.shaped f o)

    not-early : (n : ℕ) → Early n → n < 256 → answer_number m.outcome.answer ≡ n → ⊥
    not-early n h b e =
        let a = m.outcome.answer in
        never (reads_on n (refused-is a (omega (arith, b, e)) ∙ ap some e)) (none-closes n h)

  tested : TestedInOrder s t (length m.room) (answer_number m.outcome.answer)
  tested =
      by-test (ltb (length m.room) 12)
      (λ a. rw a (stayed 1 (call-short s t m.piece m.room (ltb-true (length m.room) 12 a))))
      (λ a.
      let l = ltb-false (length m.room) 12 a in
      rw a
      (by-test (sound s t)
      (λ f.
      rw f
      (by-test (is_closed s.connection)
      (λ o. rw o (stayed 2 (call-closed s t m.piece m.room l f o)))
      (λ o.
      let early = not-early l f o in
      rw o (early 1 (inl refl) (omega arith), (early 4 (inr (inr refl)) (omega arith), early 2 (inr (inl refl)) (omega arith))))))
      (λ f. rw f (stayed 4 (call-unsound s t m.piece m.room l f)))))

pub refused-at-field : RefusedAtField
refused-at-field s t m n p a = by_way s t m p n a (ways s t m p)

pub tests-in-order : TestsInOrder
tests-in-order = tested
