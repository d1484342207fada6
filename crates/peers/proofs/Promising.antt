-- The promises of the exported calls, from those of the calls that they make.
use Prim.Native.Nat.{ℕ, ◌%◌, ◌^◌, ◌≤◌, ◌<◌}
use native.Mathlib.Omega.{arith}
use mathlib.Core.Path.{◌≡◌, sym, ap, ◌∙◌}
use Rattle.std.specs.Prelude.{Result, Ok, Err}
use mathlib.Core.Bool.{true, false}
use mathlib.Core.List.{List}
use lib.ListN.{length}
use lib.Dec.{eqb}
use borrow.Author.Tests.{eqb-true}
use Rattle.lists.proofs.Cases.{by-test}
use Rattle.store.specs.declared.Store.{Store}
use Rattle.store.specs.Shape.{StoreShape}
use Rattle.session.specs.declared.Session.{Session}
use Rattle.session.specs.declared.Outcome.{Outcome}
use Rattle.session_soundness.specs.Sound.{sound}
use Rattle.session_soundness.proofs.Records.{sound-store}
use Rattle.receiver.specs.Promise.{ReadPromise}
use Rattle.sending.specs.Sending.{Asked, definition, entry, Askable, Message, message_for, can_send, number_for, sent_as, SendMade, SendPromise}
use Rattle.sending.proofs.plans.Numbers.{Sends, sends}
use Rattle.teaching.specs.Teaching.{id_of, message_most}
use Rattle.teaching.specs.ReadBack.{MessageBack}
use Rattle.teaching.proofs.CanBeSent.{message-fits}
use Rattle.teaching.proofs.ReadBack.{messages-read-back}
use Rattle.peers.specs.declared.numbers.RawOutcome.{RawOutcome}
use Rattle.peers.specs.declared.numbers.RawSent.{RawSent}
use Rattle.peers.specs.Numbers.{raw_outcome, sent_numbers}
use Rattle.peers.specs.Reading.{RawPromise}
use Rattle.peers.specs.Sending.{sent_length, RawSendPromise}

pub raw-promised : {s next : Session} {t left : Store} {piece room final : List ℕ} {told : Outcome} (o : RawOutcome) → o ≡ raw_outcome told
    → ReadPromise s t (record { piece = piece; room = room; outcome = told; session = next; store = left; final = final })
    → RawPromise s t (record { piece = piece; room = room; outcome = o; session = next; store = left; final = final })
raw-promised o e p = record {
  outcome = e ∙ ap raw_outcome p.outcome;
  session = p.session;
  store = p.store;
  final = p.final;
  shaped = p.shaped;
  bytes = p.bytes;
}

-- ---- sending

-- an ID of 32 bits
asked-id : (a : Asked) → Askable a → id_of a < 2 ^ 32
unfolding Askable id_of
asked-id (definition place id) h = h.1
asked-id (entry place id) h = h.1

-- number 0 means that record and store are sound, and the place can be sent
pub number-sends : (s : Session) (t : Store) (room : ℕ) (a : Asked) → eqb (number_for s t room a) 0 ≡ true → Sends (sound s t) s room (can_send t s.sending a)
unfolding number_for
number-sends s t room a e = sends (sound s t) s room (can_send t s.sending a) (eqb-true (number_for s t room a) 0 e)

-- a message that is sent isn't longer than any, and reads back
module _ (s : Session) (t : Store) (room : ℕ) (a : Asked) (shape : StoreShape t) (fits : Askable a) (e : eqb (number_for s t room a) 0 ≡ true) where
  pub sent-short : length (message_for t s.sending a).bytes ≤ message_most
  sent-short =
      let k = number-sends s t room a e in
      message-fits t s.sending a shape (sound-store s t k.is-sound) k.can-send (asked-id a fits)

  pub sent_back : MessageBack t s.sending a
  sent_back =
      let k = number-sends s t room a e in
      messages-read-back t s.sending a shape (sound-store s t k.is-sound) k.can-send (asked-id a fits)

module _ (s : Session) (t : Store) (m : SendMade) (p : SendPromise s t m) where
  abbrev number : ℕ
  number = number_for s t (length m.room) m.asked

  abbrev message : Message
  message = message_for t s.sending m.asked

  as-sent : eqb number 0 ≡ true → m.result ≡ Ok (length message.bytes)
  unfolding sent_as
  as-sent e = p.result ∙ rw e

  as-refused : eqb number 0 ≡ false → m.result ≡ Err number
  unfolding sent_as
  as-refused e = p.result ∙ rw e

  number-told : (sent_numbers m.result).number ≡ number
  unfolding sent_numbers
  number-told =
      by-test (eqb number 0)
      (λ e. ap (λ (r : Result ℕ ℕ). (sent_numbers r).number) (as-sent e) ∙ sym (eqb-true number 0 e))
      (λ e. ap (λ (r : Result ℕ ℕ). (sent_numbers r).number) (as-refused e))

  whole_length : eqb number 0 ≡ true → length message.bytes % 2 ^ 32 ≡ length message.bytes
  whole_length e = omega (arith, sent-short s t (length m.room) m.asked p.store-shape p.askable e)

  length-told : (sent_numbers m.result).len ≡ sent_length number message
  unfolding sent_numbers sent_length
  length-told =
      by-test (eqb number 0)
      (λ e. ap (λ (r : Result ℕ ℕ). (sent_numbers r).len) (as-sent e) ∙ (whole_length e ∙ rw e))
      (λ e. ap (λ (r : Result ℕ ℕ). (sent_numbers r).len) (as-refused e) ∙ rw e)

pub raw-sent-promised : {s next : Session} {t : Store} {room final : List ℕ} {told : Result ℕ ℕ} {asked : Asked} (o : RawSent) → o ≡ sent_numbers told
    → SendPromise s t (record { asked = asked; room = room; result = told; session = next; final = final })
    → RawSendPromise s t (record { asked = asked; room = room; outcome = o; session = next; final = final })
raw-sent-promised {s} {next} {t} {room} {final} {told} {asked} o e p =
    let made : SendMade = record { asked = asked; room = room; result = told; session = next; final = final } in
    record {
      number = ap (λ (x : RawSent). x.number) e ∙ number-told s t made p;
      len = ap (λ (x : RawSent). x.len) e ∙ length-told s t made p;
      session = p.session;
      final = p.final;
      session-shape = p.session-shape;
      store-shape = p.store-shape;
      askable = p.askable;
    }
