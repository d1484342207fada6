-- One sending call: refused, or its message sent; and the call that does what its promise says.
use Prim.Native.Nat.{ℕ, ◌≤◌}
use native.Mathlib.Omega.{arith}
use mathlib.Core.Path.{◌≡◌, refl, sym, ap, subst, ◌∙◌}
use mathlib.Core.Logic.{◌⊎◌, inl, inr, ⊎_elim}
use mathlib.Core.Bool.{Bool, true, false, cond}
use mathlib.Core.List.{List, []}
use lib.ListN.{length, take, drop}
use lib.Dec.{ltb, eqb}
use borrow.Author.Tests.{eqb-true}
use Rattle.lists.specs.Lists.{front}
use Rattle.lists.proofs.Bytes.{front_length, front-take, front-drop}
use Rattle.lists.proofs.Cases.{by-test, never}
use Rattle.store.specs.declared.Store.{Store}
use Rattle.store.specs.Shape.{StoreShape}
use Rattle.session.specs.declared.Sending.{Sending}
use Rattle.session.specs.declared.Session.{Session}
use Rattle.session.specs.Session.{is_closed, established, unfinished, with_sending}
use Rattle.session.specs.Shape.{SendingShape, SessionShape}
use Rattle.session_soundness.specs.Sound.{sound}
use Rattle.sending.specs.Sending.{send_room, send_number, Asked, definition, entry, Askable, can_send, definition_message, entry_message, message_for, number_for, sent_as, session_after, room_after, SendMade, SendPromise}
use Rattle.sending.proofs.plans.Numbers.{Sends}
use Rattle.sending.proofs.finish.Ending.{held_place}
use Rattle.sending.proofs.Leaving.{sent-sound}
use Rattle.teaching.specs.Teaching.{message_most}
use Rattle.teaching.specs.ReadBack.{MessageBack}
use Rattle.peers.specs.Sending.{RawSendMade, sent_length, RawSendPromise, sent_bytes}
use Rattle.peers.specs.ExportedSending.{RawSendRefused, RawMessageSent, RawSentOrRefused, RawSentSound}
use Rattle.peers.proofs.Promising.{number-sends, sent-short, sent_back}

-- ---- a message sent

pub record WasSent (s : Session) (t : Store) (m : RawSendMade) : Type 0 where
  pub number : m.outcome.number ≡ 0
  pub len : m.outcome.len ≡ length (message_for t s.sending m.asked).bytes
  pub session : m.session ≡ with_sending s (message_for t s.sending m.asked).sending
  pub final : m.final ≡ front (message_for t s.sending m.asked).bytes m.room
  pub sends : Sends (sound s t) s (length m.room) (can_send t s.sending m.asked)
  pub short : length (message_for t s.sending m.asked).bytes ≤ message_most
  pub back : MessageBack t s.sending m.asked

pub was-sent : (s : Session) (t : Store) (m : RawSendMade) → RawSendPromise s t m → eqb (number_for s t (length m.room) m.asked) 0 ≡ true → WasSent s t m
unfolding sent_length session_after room_after
was-sent s t m p e = record {
  number = p.number ∙ eqb-true (number_for s t (length m.room) m.asked) 0 e;
  len = p.len ∙ rw e;
  session = p.session ∙ rw e;
  final = p.final ∙ rw e;
  sends = number-sends s t (length m.room) m.asked e;
  short = sent-short s t (length m.room) m.asked p.store-shape p.askable e;
  back = sent_back s t (length m.room) m.asked p.store-shape p.askable e;
}

module _ (s : Session) (t : Store) (m : RawSendMade) (w : WasSent s t m) where
  abbrev b : List ℕ
  b = (message_for t s.sending m.asked).bytes

  -- the message stands at the front
  pub sent-bytes : sent_bytes m ≡ b
  unfolding sent_bytes
  sent-bytes = ap (λ (n : ℕ). take n m.final) w.len ∙ (ap (take (length b)) w.final ∙ front-take b m.room)

  message-sent : RawMessageSent s t m
  unfolding with_sending
  message-sent = record {
    number = w.number;
    message = sent-bytes;
    back = w.back;
    session = ap (λ (z : Session). with_sending z s.sending) w.session;
    len = omega (arith, w.len, w.short);
    room =
        ap (λ (n : ℕ). drop n m.final) w.len
        ∙ (ap (drop (length b)) w.final ∙ (front-drop b m.room ∙ sym (ap (λ (n : ℕ). drop n m.room) w.len)));
    size = ap length w.final ∙ front_length b m.room (omega (arith, w.short, w.sends.wide));
  }

  pub sent-state : m.session.sending ≡ (message_for t s.sending m.asked).sending
  unfolding with_sending
  sent-state = ap (λ (z : Session). z.sending) w.session

-- ---- a refusal

abbrev Refusal : ℕ → Type 0
Refusal n = (n ≡ 4) ⊎ ((n ≡ 2) ⊎ ((n ≡ 31) ⊎ ((n ≡ 34) ⊎ (n ≡ 32))))

-- the number, by its tests
abbrev told : Bool → Bool → Bool → Bool → Bool → ℕ
told a c l p h = cond a (cond c 2 (cond l 31 (cond p (cond h 0 32) 34))) 4

told-refusal : (a c l p h : Bool) → eqb (told a c l p h) 0 ≡ false → Refusal (told a c l p h)
told-refusal false c l p h e = inl refl
told-refusal true true l p h e = inr (inl refl)
told-refusal true false true p h e = inr (inr (inl refl))
told-refusal true false false false h e = inr (inr (inr (inl refl)))
told-refusal true false false true false e = inr (inr (inr (inr refl)))
told-refusal true false false true true e = never {t = true} refl e

told-other : (c l p h : Bool) → told true c l p h ≡ 4 → ⊥
told-other true l p h e = omega (arith, e)
told-other false true p h e = omega (arith, e)
told-other false false false h e = omega (arith, e)
told-other false false true false e = omega (arith, e)
told-other false false true true e = omega (arith, e)

refusal_is : (allowed : Bool) (s : Session) (room : ℕ) (there : Bool) → eqb (send_number allowed s room there) 0 ≡ false → Refusal (send_number allowed s room there)
unfolding send_number
refusal_is allowed s room there = told-refusal allowed (is_closed s.connection) (ltb room send_room) (eqb s.connection.phase established) there

pub send-refused : (s : Session) (t : Store) (m : RawSendMade) → RawSendPromise s t m → eqb (number_for s t (length m.room) m.asked) 0 ≡ false → RawSendRefused s t m
unfolding sent_length session_after room_after number_for
send-refused s t m p e = record {
  number = subst Refusal (sym p.number) (refusal_is (sound s t) s (length m.room) (can_send t s.sending m.asked) e);
  in_order = p.number;
  len = p.len ∙ rw e;
  session = p.session ∙ rw e;
  room = p.final ∙ rw e;
}

pub refused-bytes : (s : Session) (t : Store) (m : RawSendMade) → RawSendRefused s t m → sent_bytes m ≡ []
unfolding sent_bytes
refused-bytes s t m r = ap (λ (n : ℕ). take n m.final) r.len

pub sent-or-refused : RawSentOrRefused
sent-or-refused s t m p =
    by-test (eqb (number_for s t (length m.room) m.asked) 0)
    (λ e. inl (message-sent s t m (was-sent s t m p e)))
    (λ e. inr (send-refused s t m p e))

-- ---- what every call leaves

-- the call that an exported one made
abbrev sent_by : Session → Store → RawSendMade → SendMade
sent_by s t m = record {
  asked = m.asked;
  room = m.room;
  result = sent_as (number_for s t (length m.room) m.asked) (message_for t s.sending m.asked);
  session = m.session;
  final = m.final;
}

sent-promised : (s : Session) (t : Store) (m : RawSendMade) → RawSendPromise s t m → SendPromise s t (sent_by s t m)
sent-promised s t m p = record {
  result = refl;
  session = p.session;
  final = p.final;
  session-shape = p.session-shape;
  store-shape = p.store-shape;
  askable = p.askable;
}

pub keeps-sound : RawSentSound
keeps-sound s t m p f = sent-sound s t (sent_by s t m) (sent-promised s t m p) f

module _ (s : Session) (t : Store) (m : RawSendMade) (p : RawSendPromise s t m) where
  pub sent-leaves : with_sending m.session s.sending ≡ s
  unfolding with_sending
  sent-leaves = ⊎_elim (λ w. w.session) (λ n. ap (λ (z : Session). with_sending z s.sending) n.session) (sent-or-refused s t m p)

  pub leaves-with : (x : Sending) → with_sending m.session x ≡ with_sending s x
  unfolding with_sending
  leaves-with x = ap (λ (z : Session). with_sending z x) sent-leaves

  pub leaves-connection : m.session.connection ≡ s.connection
  unfolding with_sending
  leaves-connection = ap (λ (z : Session). z.connection) sent-leaves

  pub leaves-unfinished : unfinished m.session ≡ unfinished s
  unfolding with_sending unfinished
  leaves-unfinished = ap unfinished sent-leaves

-- with a sound record and store the number isn't 4
sound-number : (s : Session) (room : ℕ) (there : Bool) → send_number true s room there ≡ 4 → ⊥
unfolding send_number
sound-number s room there = told-other (is_closed s.connection) (ltb room send_room) (eqb s.connection.phase established) there

pub sent-number : (s : Session) (t : Store) (m : RawSendMade) → RawSendPromise s t m → sound s t ≡ true → m.outcome.number ≡ 4 → ⊥
unfolding number_for
sent-number s t m p f e =
    let there = can_send t s.sending m.asked in
    sound-number s (length m.room) there (ap (λ (a : Bool). send_number a s (length m.room) there) (sym f) ∙ (sym p.number ∙ e))

-- ---- shapes

pub shape-with : (s : Session) (x : Sending) → SessionShape s → SendingShape x → SessionShape (with_sending s x)
unfolding with_sending
shape-with s x h k = record { connection = h.connection; len = h.len; buffer = h.buffer; sending = k }

state-shaped : (t : Store) (x : Sending) (a : Asked) → StoreShape t → can_send t x a ≡ true → Askable a → SendingShape x → SendingShape (message_for t x a).sending
unfolding can_send Askable message_for definition_message entry_message
state-shaped t x (definition place id) shape h fits k =
    let l = held_place t.tables place shape.tables h in
    record { defined = omega (arith, l); sent = omega arith; last = omega arith }
state-shaped t x (entry place id) shape h fits k = record { defined = k.defined; sent = omega arith; last = fits.1 }

pub sent-shaped : (s : Session) (t : Store) (m : RawSendMade) → RawSendPromise s t m → SessionShape m.session
sent-shaped s t m p =
    by-test (eqb (number_for s t (length m.room) m.asked) 0)
    (λ e.
    let w = was-sent s t m p e in
    subst SessionShape (sym w.session)
    (shape-with s (message_for t s.sending m.asked).sending p.session-shape
    (state-shaped t s.sending m.asked p.store-shape w.sends.can-send p.askable p.session-shape.sending)))
    (λ e. subst SessionShape (sym (send-refused s t m p e).session) p.session-shape)

-- ---- a call that keeps its promise: what the promise says of it is what it is

abbrev pub send_of : Session → Store → List ℕ → Asked → RawSendMade
send_of s t room a =
    let n = number_for s t (length room) a in
    let b = message_for t s.sending a in
    record { asked = a; room = room; outcome = record { number = n; len = sent_length n b }; session = session_after n s b; final = room_after n b room }

pub send-promised : (s : Session) (t : Store) (room : List ℕ) (a : Asked) → SessionShape s → StoreShape t → Askable a → RawSendPromise s t (send_of s t room a)
send-promised s t room a sh th fits = record {
  number = refl;
  len = refl;
  session = refl;
  final = refl;
  session-shape = sh;
  store-shape = th;
  askable = fits;
}
