-- One store and several records: a call on one record leaves every other record sound with the store. And an answer is known from its number.
use Prim.Native.Nat.{ℕ, ◌<◌}
use native.Mathlib.Omega.{arith}
use mathlib.Core.Path.{◌≡◌, refl, sym, ap, ◌∙◌, subst}
use mathlib.Core.Logic.{⊎_elim}
use mathlib.Core.Bool.{true, ◌&&◌}
use mathlib.Core.List.{List}
use lib.ListN.{length}
use lib.Dec.{leb}
use borrow.Author.Tests.{leb-true}
use Rattle.lists.proofs.Cases.{by-test, and_second, or-false}
use Rattle.store.specs.declared.Table.{Table}
use Rattle.store.specs.declared.Store.{Store}
use Rattle.store.proofs.Facts.{facts-sound}
use Rattle.session.specs.declared.Session.{Session}
use Rattle.session.specs.declared.Answer.{Answer}
use Rattle.session.specs.declared.Answer.TheVariants as answer
use Rattle.session.proofs.answers.OneToOne.{RefusedByte, answers-one-to-one}
use Rattle.session_soundness.specs.Sound.{sound, sound_session, is_refused_opening}
use Rattle.session_soundness.proofs.Facts.{held_at, connection-facts, facts-connection}
use Rattle.session_soundness.proofs.Keeping.{held_keeps, sending-keeps}
use Rattle.session_soundness.proofs.Records.{sound-session, sound-both, record-refused, record-sound, session-parts}
use Rattle.message.specs.Changes.{changed}
use Rattle.streams.specs.Calls.{Call, stay}
use Rattle.receiver.specs.Model.{State, held_by}
use Rattle.receiver.specs.Promise.{Made, ReadPromise, call_of}
use Rattle.receiver.specs.Corollaries.{closes, AnswersByNumber, OtherRecordsSound}
use Rattle.receiver.proofs.Acknowledging.{right, refused-untouched}
use Rattle.receiver.proofs.Ways.{Way, staying, waiting-on, judging, ways}
use Rattle.receiver.proofs.SettledLaws.{settled-grows}

-- ---- a record with more held tables

session-grows : (ts us : List Table) (s : Session) → ((i : ℕ) → held_at ts i ≡ true → held_at us i ≡ true) → sound_session ts s ≡ true → sound_session us s ≡ true
session-grows ts us s g h =
    by-test (is_refused_opening s)
    (λ a. record-refused us s a)
    (λ a.
    let k = session-parts ts s a h in
    record-sound us s (facts-connection (held_keeps g (connection-facts ts s.connection k.connection))) k.unfinished
    (sending-keeps ts us s.sending g k.sending))

stays-store : (s : Session) (t : Store) (a : Answer) → (stay (held_by s t) a).state.store ≡ t
unfolding held_by
stays-store s t a = refl

others-sound : (s : Session) (t : Store) (m : Made) (other : Session) → ReadPromise s t m → sound other t ≡ true
    → Way s t m.piece (call_of s t m.piece (length m.room)) → sound other m.store ≡ true
others-sound s t m other p f (staying n h q) =
    subst (λ (x : Store). sound other x ≡ true) (sym (p.store ∙ (ap (λ (k : Call State Answer). k.state.store) q ∙ stays-store s t (answer.Refused n)))) f
others-sound s t m other p f (waiting-on w) = subst (λ (x : Store). sound other x ≡ true) (sym (p.store ∙ ap (λ (k : State). k.store) w.state)) f
others-sound s t m other p f (judging e j) =
    subst (λ (x : Store). sound other x ≡ true) (sym (p.store ∙ ap (λ (k : State). k.store) j.state))
    (sound-both other (changed t e.change) (facts-sound (changed t e.change) (right s t m p e j).kept.store)
    (session-grows t.tables (changed t e.change).tables other (settled-grows s.connection t _ e j.judged) (sound-session other t f)))

pub other-records-sound : OtherRecordsSound
other-records-sound s t m other p f = others-sound s t m other p f (ways s t m p)

-- ---- numbers of answers

closes-below : (n : ℕ) → closes n ≡ true → n < 256
unfolding closes
closes-below n h =
    by-test (leb 10 n && leb n 15)
    (λ a. let b = leb-true n 15 (and_second (leb 10 n) (leb n 15) a) in omega arith)
    (λ a. let b = leb-true n 30 (and_second (leb 20 n) (leb n 30) (sym (or-false (leb 10 n && leb n 15) _ a) ∙ h)) in omega arith)

-- a refusal's number is below 256
pub refused-byte : (s : Session) (t : Store) (m : Made) → ReadPromise s t m → RefusedByte m.outcome.answer
refused-byte s t m p n a =
    ⊎_elim
    (λ k. ⊎_elim (λ e. omega (arith, e)) (λ r. ⊎_elim (λ e. omega (arith, e)) (λ e. omega (arith, e)) r) k.0)
    (λ k. closes-below n k.0)
    (refused-untouched s t m n p a)

pub answers-by-number : AnswersByNumber
answers-by-number s t m s' t' m' p p' e f = answers-one-to-one m.outcome.answer m'.outcome.answer (refused-byte s t m p) (refused-byte s' t' m' p') e f
