-- The promise of a sending call, from what the store's test, the entry at the place and the call's end say.
use Rattle.std.proofs.Common.{◌≡◌, ℕ, ◌^◌, ◌<◌, Bool, cond, ◌&&◌, eqb, List, length, get_or, refl, ap, ◌∙◌, Result, Ok, Err}
use Rattle.lists.proofs.Cases.{by-test}
use Rattle.store.specs.declared.Entry.{Entry}
use Rattle.store.specs.declared.Store.{Store}
use Rattle.store.specs.Store.{no_entry}
use Rattle.store.specs.Shape.{StoreShape}
use Rattle.store.specs.Sound.{sound_store}
use Rattle.session.specs.declared.Sending.{Sending}
use Rattle.session.specs.declared.Session.{Session}
use Rattle.session.specs.Session.{with_sending}
use Rattle.session.specs.Shape.{SessionShape}
use Rattle.session_soundness.specs.Sound.{sound_session, sound}
use Rattle.sending.specs.declared.Ask.{Ask}
use Rattle.sending.specs.declared.Ask.TheVariants as ask
use Rattle.sending.specs.Sending.{Message, definition_message, entry_message, can_send, message_for, send_number, number_for, sent_as, session_after, Askable, SendPromise}
use Rattle.sending.specs.Finish.{one_entry, asked_by, place_of, asked_of_one, finished_as, Finishes}

-- the tables and the entry at the place are all of the store that a call uses
module _ (t : Store) (x : Sending) where
  abbrev e : Ask → Entry
  e a = get_or t.entries (place_of a) no_entry

  same_place : (a : Ask) → can_send (one_entry t.tables (e a)) x (asked_of_one a) ≡ can_send t x (asked_by a)
  unfolding can_send asked_of_one asked_by place_of
  same_place (ask.Definition place id) = refl
  same_place (ask.Entry place id) = refl

  same-message : (a : Ask) → message_for (one_entry t.tables (e a)) x (asked_of_one a) ≡ message_for t x (asked_by a)
  unfolding message_for asked_of_one asked_by definition_message entry_message place_of
  same-message (ask.Definition place id) = refl
  same-message (ask.Entry place id) = refl

-- a record with another `sending`, as the code stores it
abbrev pub another : Session → Sending → Session
another s x = record { connection = s.connection; len = s.len; buffer = s.buffer; sending = x }

-- what is returned of a call's end, and the record with the sending state stored
abbrev pub told : Result (ℕ × Sending) ℕ → Result ℕ ℕ
told (Ok (len, x)) = Ok len
told (Err n) = Err n

abbrev pub left_in : Session → Result (ℕ × Sending) ℕ → Session
left_in s (Ok (len, x)) = another s x
left_in s (Err n) = s

told-so : (n : ℕ) (m : Message) → told (finished_as n m) ≡ sent_as n m
unfolding finished_as sent_as
told-so n m = by-test (eqb n 0) (λ y. rw y) (λ y. rw y)

left-so : (s : Session) (n : ℕ) (m : Message) → left_in s (finished_as n m) ≡ session_after n s m
unfolding finished_as with_sending session_after
left-so s n m = by-test (eqb n 0) (λ y. rw y) (λ y. rw y)

module _ (s : Session) (t : Store) (a : Ask) (room : List ℕ) where
  abbrev number : ℕ
  number = number_for s t (length room) (asked_by a)

  abbrev message : Message
  message = message_for t s.sending (asked_by a)

  module _ (ok : Bool) (q : ok ≡ sound_store t) (e : Entry) (f : e ≡ get_or t.entries (place_of a) no_entry) where
    numbered : send_number (ok && sound_session t.tables s) s (length room) (can_send (one_entry t.tables e) s.sending (asked_of_one a)) ≡ number
    unfolding number_for sound
    numbered = rw (q, f, same_place t s.sending a)

    written : message_for (one_entry t.tables e) s.sending (asked_of_one a) ≡ message
    written = rw f (same-message t s.sending a)

    pub promised : SessionShape s → StoreShape t → Askable (asked_by a) → (r : Result (ℕ × Sending) ℕ) (final : List ℕ)
        → Finishes (ok && sound_session t.tables s) s (can_send (one_entry t.tables e) s.sending (asked_of_one a)) (message_for (one_entry t.tables e) s.sending (asked_of_one a)) room r final
        → SendPromise s t (record { asked = asked_by a; room = room; result = told r; session = left_in s r; final = final })
    promised shape shape' fits r final h =
        let d : r ≡ finished_as number message = h.finished ∙ rw (numbered, written) in
        record {
          result = ap told d ∙ told-so number message;
          session = ap (left_in s) d ∙ left-so s number message;
          final = h.content ∙ rw (numbered, written);
          session-shape = shape;
          store-shape = shape';
          askable = fits;
        }
