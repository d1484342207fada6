-- What a sending call leaves as it was, and types that read back as their forms.
use Rattle.std.proofs.Common.{◌≡◌, ℕ, ◌+◌, ◌-◌, Bool, true, false, eqb, leb, length, take, drop, sym, refl, ap, ◌∙◌, subst, arith, eqb-true, le-leb, Result, Ok, Err}
use mathlib.Core.Option.{some}
use Rattle.lists.specs.Lists.{front}
use Rattle.lists.proofs.Bytes.{front-take, front-drop}
use Rattle.lists.proofs.Cases.{by-test, never, and_second, and_intro, or-second}
use Rattle.store.specs.declared.Store.{Store}
use Rattle.store.specs.Limits.{table_places}
use Rattle.store.specs.Store.{table_held}
use Rattle.store.specs.Contents.{table_at}
use Rattle.store.specs.Shape.{StoreShape}
use Rattle.session.specs.declared.Sending.{Sending}
use Rattle.session.specs.declared.Session.{Session}
use Rattle.session.specs.Session.{with_sending}
use Rattle.session_soundness.specs.Sound.{defined_ok, sending_ok, sound}
use Rattle.session_soundness.proofs.Records.{sound-store, sound-session, sound-both, open-facts, sending-sound}
use Rattle.body.specs.Bodies.{form_of}
use Rattle.sending.specs.Sending.{Message, Asked, definition, entry, number_for, definition_message, entry_message, can_send, message_for, type_of, sent_as, session_after, room_after, SendMade, SendPromise}
use Rattle.sending.specs.Leaves.{SentLeaves, RefusedLeaves, SentRoom, SentSound, TypesReadBack}
use Rattle.sending.proofs.plans.Numbers.{Sends, sends}
use Rattle.sending.proofs.finish.Ending.{held_place}

-- ---- a call was refused, or it sent its message
pub record WasRefused (s : Session) (m : SendMade) (n : ℕ) : Type 0 where
  pub result : m.result ≡ Err n
  pub session : m.session ≡ s
  pub final : m.final ≡ m.room

pub record WasSent (s : Session) (t : Store) (m : SendMade) (message : Message) : Type 0 where
  pub result : m.result ≡ Ok (length message.bytes)
  pub session : m.session ≡ with_sending s message.sending
  pub final : m.final ≡ front message.bytes m.room
  pub sends : Sends (sound s t) s (length m.room) (can_send t s.sending m.asked)

abbrev number : Session → Store → SendMade → ℕ
number s t m = number_for s t (length m.room) m.asked

module _ (s : Session) (t : Store) (m : SendMade) (p : SendPromise s t m) where
  was-refused : eqb (number s t m) 0 ≡ false → WasRefused s m (number s t m)
  unfolding sent_as session_after room_after
  was-refused e = record { result = p.result ∙ rw e; session = p.session ∙ rw e; final = p.final ∙ rw e }

  was-sent : eqb (number s t m) 0 ≡ true → WasSent s t m (message_for t s.sending m.asked)
  unfolding sent_as session_after room_after number_for
  was-sent e = record {
    result = p.result ∙ rw e;
    session = p.session ∙ rw e;
    final = p.final ∙ rw e;
    sends = sends (sound s t) s (length m.room) (can_send t s.sending m.asked) (eqb-true (number s t m) 0 e);
  }

-- ---- which of the two, by the result
is_refused : Result ℕ ℕ → Bool
is_refused (Ok n) = false
is_refused (Err n) = true

length_in : Result ℕ ℕ → ℕ
length_in (Ok n) = n
length_in (Err n) = 0

refused-one : (s : Session) (t : Store) (m : SendMade) (n : ℕ) → SendPromise s t m → m.result ≡ Err n → WasRefused s m (number s t m)
unfolding is_refused
refused-one s t m n p e =
    by-test (eqb (number s t m) 0)
    (λ y. never refl (ap is_refused (sym e ∙ (was-sent s t m p y).result)))
    (λ y. was-refused s t m p y)

-- the message, and its length
pub record SentAs (s : Session) (t : Store) (m : SendMade) (len : ℕ) : Type 0 where
  pub long : len ≡ length (message_for t s.sending m.asked).bytes
  pub was : WasSent s t m (message_for t s.sending m.asked)

sent-one : (s : Session) (t : Store) (m : SendMade) (len : ℕ) → SendPromise s t m → m.result ≡ Ok len → SentAs s t m len
unfolding is_refused length_in
sent-one s t m len p e =
    by-test (eqb (number s t m) 0)
    (λ y. let w = was-sent s t m p y in record { long = ap length_in (sym e ∙ w.result); was = w })
    (λ y. never refl (ap is_refused (sym (was-refused s t m p y).result ∙ e)))

-- ---- record and room
pub sent-leaves : SentLeaves
unfolding with_sending
sent-leaves s t m p =
    by-test (eqb (number s t m) 0)
    (λ y. ap (λ (z : Session). with_sending z s.sending) (was-sent s t m p y).session)
    (λ y. ap (λ (z : Session). with_sending z s.sending) (was-refused s t m p y).session)

pub refused-leaves : RefusedLeaves
refused-leaves s t m n p e = let w = refused-one s t m n p e in (w.session, w.final)

pub sent-room : SentRoom
sent-room s t m len p e =
    let w = sent-one s t m len p e in
    let b = (message_for t s.sending m.asked).bytes in (
      ap (λ (n : ℕ). take n m.final) w.long ∙ ap (take (length b)) w.was.final ∙ front-take b m.room,
      ap (λ (n : ℕ). drop n m.final) w.long ∙ ap (drop (length b)) w.was.final ∙ front-drop b m.room ∙ sym (ap (λ (n : ℕ). drop n m.room) w.long),
    )

-- ---- soundness

-- the table that is defined is held
defined-sound : (t : Store) (x : Sending) (asked : Asked) → StoreShape t → can_send t x asked ≡ true → sending_ok t.tables x ≡ true
    → sending_ok t.tables (message_for t x asked).sending ≡ true
unfolding can_send message_for definition_message entry_message sending_ok defined_ok
defined-sound t x (definition place id) shape h ok =
    let l = held_place t.tables place shape.tables h in
    let e : place + 1 - 1 ≡ place = omega arith in
    let k = and_intro (leb (place + 1) table_places) (table_held (table_at t (place + 1 - 1))) (le-leb (place + 1) table_places (omega (arith, l))) (rw e h) in
    or-second (eqb (place + 1) 0) _ k ∙ k
defined-sound t x (entry place id) shape h ok = and_second (leb x.sent 1) _ ok

pub sent-sound : SentSound
sent-sound s t m p h =
    by-test (eqb (number s t m) 0)
    (λ y.
    let w = was-sent s t m p y in
    let o = w.sends.is_open in
    let q = sound-session s t h in
    subst (λ (z : Session). sound z t ≡ true) (sym w.session)
    (sound-both (with_sending s (message_for t s.sending m.asked).sending) t (sound-store s t h)
    (sending-sound t.tables s (message_for t s.sending m.asked).sending o q
    (defined-sound t s.sending m.asked p.store-shape w.sends.can-send (open-facts t.tables s o q).sending))))
    (λ y. subst (λ (z : Session). sound z t ≡ true) (sym (was-refused s t m p y).session) h)

-- ---- types
pub types-read-back : TypesReadBack
unfolding form_of type_of
types-read-back form = go form.explicit form.timed refl refl
  where
    go : (x y : Bool) → form.explicit ≡ x → form.timed ≡ y → form_of (type_of form) ≡ some (record { explicit = form.explicit; timed = form.timed })
    go true true e f = rw (e, f)
    go true false e f = rw (e, f)
    go false true e f = rw (e, f)
    go false false e f = rw (e, f)
