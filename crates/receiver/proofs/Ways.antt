-- How a call that kept its promise ended, on any record and store: it took nothing, its bytes wait, or they came to an answer.
use Prim.Native.Nat.{ℕ, ◌≤◌}
use mathlib.Core.Path.{◌≡◌, refl, sym, ap, ◌∙◌}
use mathlib.Core.Logic.{◌⊎◌, inl, inr, ⊎_elim}
use mathlib.Core.Bool.{true, false}
use mathlib.Core.List.{List, [], ◌++◌}
use lib.ListN.{length, take, drop}
use lib.Dec.{ltb, eqb}
use borrow.Author.Tests.{ltb-true, ltb-false, eq-eqb, ne_eqb}
use Rattle.lists.proofs.Cases.{by-test, cond-true, cond-false, never}
use Rattle.lists.proofs.Bytes.{front-take, front-drop}
use Rattle.store.specs.declared.Store.{Store}
use Rattle.session.specs.declared.Session.{Session}
use Rattle.session.specs.declared.Answer.{Answer}
use Rattle.session.specs.declared.Answer.TheVariants as answer
use Rattle.session.specs.declared.Outcome.{Outcome}
use Rattle.session.specs.Session.{unfinished, is_closed, holding}
use Rattle.session_soundness.specs.Sound.{sound, waits}
use Rattle.message.specs.Changes.{changed}
use Rattle.message.specs.declared.Effect.{Effect}
use Rattle.reassembly.specs.Judge.{settled, judge}
use Rattle.reassembly.specs.Pieces.{Part, take_piece}
use Rattle.reassembly.proofs.Taking.{part_bytes, part_none, part-ended}
use Rattle.streams.specs.Calls.{Call, stay, scan}
use Rattle.receiver.specs.Model.{State, held_by, peers}
use Rattle.receiver.specs.Promise.{Made, Shaped, ReadPromise, call_of, outcome_of, session_of}
use Rattle.receiver.specs.Parts.{judged_call, part_call}
use Rattle.receiver.specs.Demand3.{reply_in}
use Rattle.receiver.proofs.Held.{state-fits}
use Rattle.receiver.proofs.Piece.{judged-as, judged-settled, scan-takes, waited-call, settled-call}
use Rattle.receiver.proofs.Chained.{good-held}
use Rattle.receiver.proofs.CallCases.{call-short, call-unsound, call-closed, call-open}

-- sound, open, and the message's bytes came to this effect
pub record Judging (s : Session) (t : Store) (piece : List ℕ) (c : Call State Answer) (e : Effect) : Type 0 where
  pub sound : sound s t ≡ true
  pub opened : is_closed s.connection ≡ false
  pub some : c.taken ≡ 0 → ⊥
  pub judged : judge s.connection t (unfinished s ++ take c.taken piece) ≡ settled e
  pub reply : c.reply ≡ e.reply
  pub answer : c.answer ≡ e.answer
  pub state : c.state ≡ record { connection = e.connection; unfinished = []; store = changed t e.change }

-- sound, open, and the bytes wait
pub record Waiting (s : Session) (t : Store) (piece : List ℕ) (c : Call State Answer) : Type 0 where
  pub sound : sound s t ≡ true
  pub reply : c.reply ≡ []
  pub answer : c.answer ≡ answer.More
  pub state : c.state ≡ record { connection = s.connection; unfinished = unfinished s ++ take c.taken piece; store = t }

-- the refusals that take nothing
abbrev pub Early : ℕ → Type 0
Early n = (n ≡ 1) ⊎ ((n ≡ 2) ⊎ (n ≡ 4))

pub data Way (s : Session) (t : Store) (piece : List ℕ) (c : Call State Answer) : Type 0 where
  staying : (n : ℕ) → Early n → c ≡ stay (held_by s t) (answer.Refused n) → Way s t piece c
  waiting-on : Waiting s t piece c → Way s t piece c
  judging : (e : Effect) → Judging s t piece c e → Way s t piece c

module _ (s : Session) (t : Store) (piece : List ℕ) where
  module _ (sh : Shaped s t) (f : sound s t ≡ true) (o : is_closed s.connection ≡ false) where
    abbrev part : Part
    part = take_piece s.connection (unfinished s) piece

    few : length (unfinished s) ≤ 1027
    unfolding held_by
    few = state-fits (held_by s t) (good-held s t sh f).sound

    is-part : scan peers (held_by s t) piece ≡ part_call s.connection t part
    unfolding held_by
    is-part = scan-takes s.connection (unfinished s) t piece o

    abbrev scanned : Call State Answer
    scanned = scan peers (held_by s t) piece

    message-is : scanned.taken ≡ part.taken → unfinished s ++ take scanned.taken piece ≡ part.bytes
    message-is n = ap (λ (k : ℕ). unfinished s ++ take k piece) n ∙ sym (part_bytes s.connection (unfinished s) piece)

    waited-way : part.ended ≡ false → Waiting s t piece scanned
    unfolding judged_call
    waited-way z =
        let q = is-part ∙ waited-call s t part z in
        let n = ap (λ (k : Call State Answer). k.taken) q in
        record {
          sound = f;
          reply = ap (λ (k : Call State Answer). k.reply) q;
          answer = ap (λ (k : Call State Answer). k.answer) q;
          state =
              ap (λ (k : Call State Answer). k.state) q
              ∙ ap (λ (u : List ℕ). record { connection = s.connection; unfinished = u; store = t }) (sym (message-is n));
        }

    some-taken : part.ended ≡ true → part.taken ≡ 0 → ⊥
    some-taken z n = never z (ap (λ (a : Part). a.ended) (part_none s.connection (unfinished s) piece few n))

    settled-way : part.ended ≡ true → (e : Effect) × Judging s t piece scanned e
    unfolding judged_call
    settled-way z =
        let j = judged-settled (waits s.connection part.bytes) (judge s.connection t part.bytes) (judged-as s.connection t part.bytes) (part-ended s.connection (unfinished s) piece few z) in
        let q = is-part ∙ settled-call s t part j.0 z j.1 in
        let n = ap (λ (k : Call State Answer). k.taken) q in (
          j.0,
          record {
            sound = f;
            opened = o;
            some = λ k. some-taken z (sym n ∙ k);
            judged = ap (judge s.connection t) (message-is n) ∙ j.1;
            reply = ap (λ (k : Call State Answer). k.reply) q;
            answer = ap (λ (k : Call State Answer). k.answer) q;
            state = ap (λ (k : Call State Answer). k.state) q;
          },
        )

    -- with room enough: the bytes wait, or they came to an answer
    pub open-way : Waiting s t piece scanned ⊎ ((e : Effect) × Judging s t piece scanned e)
    open-way = by-test part.ended (λ z. inr (settled-way z)) (λ z. inl (waited-way z))

  pub way : (room : List ℕ) → Shaped s t → Way s t piece (call_of s t piece (length room))
  way room sh =
      by-test (ltb (length room) 12)
      (λ a. staying 1 (inl refl) (call-short s t piece room (ltb-true (length room) 12 a)))
      (λ a.
      let l = ltb-false (length room) 12 a in
      by-test (sound s t)
      (λ f.
      by-test (is_closed s.connection)
      (λ o. staying 2 (inr (inl refl)) (call-closed s t piece room l f o))
      (λ o. rw (call-open s t piece room l f o) (⊎_elim (λ w. waiting-on w) (λ k. judging k.0 k.1) (open-way sh f o))))
      (λ f. staying 4 (inr (inr refl)) (call-unsound s t piece room l f)))

-- ---- what a call that kept its promise gave

module _ (s : Session) (t : Store) (m : Made) (p : ReadPromise s t m) where
  abbrev call : Call State Answer
  call = call_of s t m.piece (length m.room)

  pub ways : Way s t m.piece call
  ways = way s t m.piece m.room p.shaped

  pub answer-is : m.outcome.answer ≡ call.answer
  unfolding outcome_of
  answer-is = ap (λ (o : Outcome). o.answer) p.outcome

  pub taken_is : m.outcome.taken ≡ call.taken
  unfolding outcome_of
  taken_is = ap (λ (o : Outcome). o.taken) p.outcome

  pub count-is : m.outcome.reply_len ≡ length call.reply
  unfolding outcome_of
  count-is = ap (λ (o : Outcome). o.reply_len) p.outcome

  pub reply-is : reply_in m ≡ call.reply
  unfolding reply_in
  reply-is = rw (count-is, p.final) (front-take call.reply m.room)

  pub room-past : drop m.outcome.reply_len m.final ≡ drop m.outcome.reply_len m.room
  room-past = rw (count-is, p.final) (front-drop call.reply m.room)

  -- the record: the one that came where nothing was taken, else the one that holds the call's state
  pub record-stays : call.taken ≡ 0 → m.session ≡ s
  unfolding session_of
  record-stays z = p.session ∙ cond-true (eqb call.taken 0) _ _ (eq-eqb call.taken 0 z)

  pub record-holds : (call.taken ≡ 0 → ⊥) → m.session ≡ holding s.sending call.state.connection call.state.unfinished
  unfolding session_of
  record-holds n = p.session ∙ cond-false (eqb call.taken 0) _ _ (ne_eqb call.taken 0 n)
