-- One reading call that kept its promise is the model's call on the state that record and store hold.
use Prim.Native.Nat.{ℕ, ◌≤◌}
use native.Mathlib.Omega.{arith}
use mathlib.Core.Path.{◌≡◌, refl, sym, ap, ◌∙◌}
use mathlib.Core.List.{List, [], ◌∷◌}
use mathlib.Core.Bool.{Bool, true, false, cond}
use lib.ListN.{length, drop}
use lib.Dec.{eqb, ltb}
use borrow.Author.Tests.{eqb-true, eq-eqb, ltb-true, ltb-false}
use Rattle.lists.specs.Lists.{front}
use Rattle.lists.proofs.Cases.{by-test, cond-true, cond-false}
use Rattle.lists.proofs.Bytes.{front_length, front-take, front-drop}
use Rattle.store.specs.declared.Store.{Store}
use Rattle.session.specs.declared.Session.{Session}
use Rattle.session.specs.declared.Answer.{Answer}
use Rattle.session.specs.declared.Outcome.{Outcome}
use Rattle.session.specs.Session.{holding, is_closed}
use Rattle.session_soundness.specs.Sound.{sound}
use Rattle.streams.specs.Calls.{Call, scan, read_call}
use Rattle.streams.specs.Claim.{Lawful}
use Rattle.streams.proofs.Basics.{by-fed}
use Rattle.streams.proofs.OneCall.{scan-nil, scan-quiet, scan-answered, call-short, call-closed, call-reads, call-unsound}
use Rattle.streams.proofs.Theorem.{call-good}
use Rattle.receiver.specs.Model.{State, held_by, sound_state, feed, peers}
use Rattle.receiver.specs.Good.{Good}
use Rattle.receiver.specs.Promise.{Made, ReadPromise, call_of, outcome_of, session_of}
use Rattle.receiver.specs.Demand3.{reply_in, call_made}
use Rattle.receiver.proofs.Held.{held-holding, state-fits, sound-held, sound-sending}
use Rattle.receiver.proofs.Lawfully.{GoodWith, lawful-with}

-- the model's call on what record and store hold
abbrev pub model_call : Session → Store → Made → Call State Answer
model_call s t m = read_call peers (held_by s t) m.piece (length m.room)

pub call-is : (s : Session) (t : Store) (piece : List ℕ) (room : ℕ) → sound s t ≡ true → sound_state (held_by s t) ≡ true
    → call_of s t piece room ≡ read_call peers (held_by s t) piece room
unfolding call_of read_call held_by
call-is s t piece room h g = rw (h, g)

-- ---- a call that took nothing keeps the state

scan-zero : (s : State) (p : List ℕ) → (scan peers s p).taken ≡ 0 → (scan peers s p).state ≡ s
scan-zero s [] h = rw (scan-nil peers s)
scan-zero s (b ∷ bs) h =
    by-fed (feed s b)
    (λ t q. absurd (let z = rw (scan-quiet peers s t b bs q) at h in omega arith))
    (λ a r t q. absurd (let z = rw (scan-answered peers s t b bs a r q) at h in omega arith))

pub call-zero : (s : State) (p : List ℕ) (room : ℕ) → (read_call peers s p room).taken ≡ 0 → (read_call peers s p room).state ≡ s
call-zero s p room h =
    by-test (ltb room 12)
    (λ a. rw (call-short peers s p room (ltb-true room 12 a)))
    (λ a.
    let l = ltb-false room 12 a in
    by-test (sound_state s)
    (λ f.
    by-test (is_closed s.connection)
    (λ c. rw (call-closed peers s p room l f c))
    (λ c.
    let e = call-reads peers s p room l f c in
    rw e (scan-zero s p (ap (λ (k : Call State Answer). k.taken) (sym e) ∙ h))))
    (λ f. rw (call-unsound peers s p room l f)))

-- ---- a call that kept its promise

module _ (s : Session) (t : Store) (m : Made) (promise : ReadPromise s t m) (f : sound s t ≡ true) where
  held-sound : sound_state (held_by s t) ≡ true
  held-sound = sound-held s t promise.shaped.session.buffer.size f

  is : call_of s t m.piece (length m.room) ≡ model_call s t m
  is = call-is s t m.piece (length m.room) f held-sound

  made-outcome : m.outcome ≡ outcome_of (model_call s t m)
  made-outcome = promise.outcome ∙ ap outcome_of is

  made-session : m.session ≡ session_of s (model_call s t m)
  made-session = promise.session ∙ ap (session_of s) is

  pub made-store : m.store ≡ (model_call s t m).state.store
  made-store = promise.store ∙ ap (λ (c : Call State Answer). c.state.store) is

  made-final : m.final ≡ front (model_call s t m).reply m.room
  made-final = promise.final ∙ ap (λ (c : Call State Answer). front c.reply m.room) is

  pub made-taken : m.outcome.taken ≡ (model_call s t m).taken
  unfolding outcome_of
  made-taken = ap (λ (o : Outcome). o.taken) made-outcome

  pub made-answer : m.outcome.answer ≡ (model_call s t m).answer
  unfolding outcome_of
  made-answer = ap (λ (o : Outcome). o.answer) made-outcome

  made-length : m.outcome.reply_len ≡ length (model_call s t m).reply
  unfolding outcome_of
  made-length = ap (λ (o : Outcome). o.reply_len) made-outcome

  pub made-reply : reply_in m ≡ (model_call s t m).reply
  unfolding reply_in
  made-reply = rw (made-length, made-final) (front-take (model_call s t m).reply m.room)

  pub made-count : m.outcome.reply_len ≡ length (reply_in m)
  made-count = made-length ∙ ap length (sym made-reply)

  pub room-kept : drop m.outcome.reply_len m.final ≡ drop m.outcome.reply_len m.room
  room-kept = rw (made-length, made-final) (front-drop (model_call s t m).reply m.room)

  -- a reply of at most 12 bytes fits: there is none where the room is shorter
  pub final-length : length (model_call s t m).reply ≤ 12 → length m.final ≡ length m.room
  final-length h =
      let n = length m.room in
      let i : length (model_call s t m).reply ≤ n =
      by-test (ltb n 12)
      (λ a. rw (call-short peers (held_by s t) m.piece n (ltb-true n 12 a)) (omega arith))
      (λ a. omega (arith, ltb-false n 12 a)) in
      rw made-final (front_length (model_call s t m).reply m.room i)

  -- nothing taken, nothing changed
  pub kept : m.outcome.taken ≡ 0 → (m.session ≡ s) × (m.store ≡ t)
  unfolding session_of held_by
  kept e =
      let z = sym made-taken ∙ e in (
        made-session ∙ cond-true (eqb (model_call s t m).taken 0) _ _ (eq-eqb _ _ z),
        made-store ∙ ap (λ (k : State). k.store) (call-zero (held_by s t) m.piece (length m.room) z),
      )

  -- bytes taken: the record holds the model's state
  pub taken-session : eqb (model_call s t m).taken 0 ≡ false
      → m.session ≡ holding s.sending (model_call s t m).state.connection (model_call s t m).state.unfinished
  unfolding session_of
  taken-session e = made-session ∙ cond-false (eqb (model_call s t m).taken 0) _ _ e

  module _ (law : Lawful peers Good) (g : Good (held_by s t)) where
    next-good : Good (model_call s t m).state
    next-good = call-good peers law (held_by s t) m.piece (length m.room) g promise.bytes

    pub made-state : held_by m.session m.store ≡ (model_call s t m).state
    made-state =
        by-test (eqb (model_call s t m).taken 0)
        (λ e.
        let z = eqb-true (model_call s t m).taken 0 e in
        let k = kept (made-taken ∙ z) in
        rw (k.0, k.1) (sym (call-zero (held_by s t) m.piece (length m.room) z)))
        (λ e. rw (taken-session e, made-store) (held-holding _ _ _ _ (state-fits (model_call s t m).state next-good.sound)))

    -- with what the record knows of sending
    next-with : GoodWith s.sending (model_call s t m).state
    unfolding held_by
    next-with =
        call-good peers (lawful-with s.sending) (held_by s t) m.piece (length m.room)
        (record { good = g; known = sound-sending s t promise.shaped.session.buffer.size f })
        promise.bytes

    pub made-sound : sound m.session m.store ≡ true
    made-sound =
        by-test (eqb (model_call s t m).taken 0)
        (λ e. let k = kept (made-taken ∙ eqb-true (model_call s t m).taken 0 e) in rw (k.0, k.1) f)
        (λ e. rw (taken-session e, made-store) next-with.known)

    pub made-good : Good (held_by m.session m.store)
    made-good = rw made-state next-good

    pub made-is : call_made m ≡ model_call s t m
    made-is = λ i. record { taken = made-taken i; answer = made-answer i; reply = made-reply i; state = made-state i }

-- ---- the sending state

either-keeps : (b : Bool) (s z : Session) → z.sending ≡ s.sending → (cond b s z).sending ≡ s.sending
either-keeps true s z e = refl
either-keeps false s z e = e

session-keeps : (s : Session) (c : Call State Answer) → (session_of s c).sending ≡ s.sending
unfolding session_of holding
session-keeps s c = either-keeps (eqb c.taken 0) s (holding s.sending c.state.connection c.state.unfinished) refl

pub sending-kept : (s : Session) (t : Store) (m : Made) → ReadPromise s t m → m.session.sending ≡ s.sending
sending-kept s t m p = ap (λ (z : Session). z.sending) p.session ∙ session-keeps s (call_of s t m.piece (length m.room))
