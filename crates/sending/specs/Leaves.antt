-- What a sending call leaves as it was, and types that read back as their forms.
use Rattle.std.specs.Prelude.{◌≡◌, ℕ, true, take, drop, Ok, Err}
use Rattle.std.proofs.Math.Option.{some}
use Rattle.store.specs.declared.Store.{Store}
use Rattle.session.specs.declared.Session.{Session}
use Rattle.session.specs.Session.{with_sending}
use Rattle.session_soundness.specs.Sound.{sound}
use Rattle.body.specs.declared.update.Form.{Form}
use Rattle.body.specs.Bodies.{form_of}
use Rattle.sending.specs.Sending.{type_of, message_for, SendMade, SendPromise}

-- "A sending call leaves the store, and all of the record that reading uses, as it was": with the sending state as before, the record is the one that
-- came. The store is lent to be read alone
abbrev pub SentLeaves : Type 0
SentLeaves = (s : Session) (t : Store) (m : SendMade) → SendPromise s t m → with_sending m.session s.sending ≡ s

-- "nothing written" by a refused call, and nothing changed
abbrev pub RefusedLeaves : Type 0
RefusedLeaves = (s : Session) (t : Store) (m : SendMade) (n : ℕ) → SendPromise s t m → m.result ≡ Err n → (m.session ≡ s) × (m.final ≡ m.room)

-- the message stands at the front, and the room past it is as it came
abbrev pub SentRoom : Type 0
SentRoom =
    (s : Session) (t : Store) (m : SendMade) (len : ℕ) → SendPromise s t m → m.result ≡ Ok len
    → (take len m.final ≡ (message_for t s.sending m.asked).bytes) × (drop len m.final ≡ drop len m.room)

-- a sound record stays sound with the store
abbrev pub SentSound : Type 0
SentSound = (s : Session) (t : Store) (m : SendMade) → SendPromise s t m → sound s t ≡ true → sound m.session t ≡ true

-- the type of an update's form reads back as that form
abbrev pub TypesReadBack : Type 0
TypesReadBack = (form : Form) → form_of (type_of form) ≡ some form
