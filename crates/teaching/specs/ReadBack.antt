-- What is written reads back, with nothing ignored: of a whole message, its frame and the fields of its body.
use Rattle.std.specs.Prelude.{ℕ, ◌-◌, ◌^◌, ◌<◌, ◌≡◌, List, ◌∷◌, ◌++◌, true, length, take, drop}
use Rattle.std.proofs.Math.Option.{some}
use Rattle.frame.specs.declared.Frame.TheVariants as frame
use Rattle.frame.specs.Frame.{judge_frame, definition_type}
use Rattle.store.specs.declared.Table.{Table}
use Rattle.store.specs.declared.Entry.{Entry}
use Rattle.store.specs.declared.Store.{Store}
use Rattle.store.specs.Shape.{StoreShape}
use Rattle.store.specs.Sound.{sound_store}
use Rattle.store.specs.Contents.{table_at, entry_at}
use Rattle.session.specs.declared.Sending.{Sending}
use Rattle.body.specs.declared.update.Form.{Form}
use Rattle.body.specs.Bodies.{form_of}
use Rattle.body.specs.Encodings.{body_start, definition_bytes, update_bytes}
use Rattle.body.specs.ReadBack.{DefinitionBack, UpdateBack}
use Rattle.message.specs.Effects.{following_id}
use Rattle.sending.specs.Sending.{Asked, definition, entry, form_for, type_of, definition_message, entry_message, can_send}
use Rattle.teaching.specs.Teaching.{id_of}

-- after each first part that isn't all of the message a reader waits; all of it is one message of this type and body, without a byte more
pub record FrameBack (kind : ℕ) (body message : List ℕ) : Type 0 where
  pub waits : (u : List ℕ) (b : ℕ) (v : List ℕ) → u ++ (b ∷ v) ≡ message → judge_frame u ≡ frame.Waiting
  pub whole : judge_frame message ≡ frame.Body kind (body_start body) (length message)
  pub body_is : take (length message - body_start body) (drop (body_start body) message) ≡ body

-- a definition: its fields are the table's
pub record DefinitionMessageBack (t : Store) (place id : ℕ) : Type 0 where
  pub frame : FrameBack definition_type (definition_bytes id (table_at t place)) (definition_message t place id).bytes
  pub fields : DefinitionBack id (table_at t place)

-- an update in this form: its fields are the entry's. An incremental one has the ID that follows the one sent last
pub record UpdateMessageBack (form : Form) (u : Table) (following id : ℕ) (e : Entry) (message : List ℕ) : Type 0 where
  pub frame : FrameBack (type_of form) (update_bytes form u id e) message
  pub form-is : form_of (type_of form) ≡ some form
  pub fields : UpdateBack form u following id e

unfoldable pub MessageBack : Store → Sending → Asked → Type 0
MessageBack t x (definition place id) = DefinitionMessageBack t place id
MessageBack t x (entry place id) =
    let e = entry_at t place in
    UpdateMessageBack (form_for x e id) (table_at t e.table) (following_id x.last) id e (entry_message t x place id).bytes

-- of a sound store, each message that can be sent, with every ID
abbrev pub MessagesReadBack : Type 0
MessagesReadBack =
    (t : Store) (x : Sending) (a : Asked) → StoreShape t → sound_store t ≡ true → can_send t x a ≡ true → id_of a < 2 ^ 32 → MessageBack t x a
