-- The ledger of update IDs: "A table's last committed update ID is that of its latest accepted update of any kind, the one acknowledged
-- included; before any, the start record's previous ID, if it has one." It is folded over the messages that ended, from the start record,
-- and looks at no later record.
use Rattle.std.specs.Prelude.{ℕ, ◌+◌, ◌-◌, ◌%◌, ◌^◌, ◌≤◌, ◌<◌, ◌≡◌, List, Bool, false, cond, ◌&&◌, length, get_or, eqb, Result, Ok, Err, Some, None}
use Rattle.std.specs.Prelude as std
use Rattle.std.proofs.Math.Option.{Option, some, none}
use Rattle.frame.specs.Frame.{stick_table_class, acknowledgement_type}
use Rattle.wire.specs.declared.IntError.{IntError}
use Rattle.wire.specs.declared.IntError.TheVariants as int
use Rattle.wire.specs.Integer.{read_int}
use Rattle.wire.specs.Number.{read_number}
use Rattle.session.specs.declared.Connection.{Connection}
use Rattle.session.specs.declared.Answer.{Answer}
use Rattle.session.specs.declared.Answer.TheVariants as answer
use Rattle.session.specs.Session.{binding_at, is_bound, is_updated}
use Rattle.body.specs.declared.update.Form.{Form}
use Rattle.body.specs.Bodies.{form_of}
use Rattle.message.specs.Effects.{acknowledge}
use Rattle.streams.specs.Model.{Ended}

-- the current table's place, and of each place its bound ID and its last committed update ID
pub record Ledger : Type 0 where
  pub current : Option ℕ
  pub bound : ℕ → Option ℕ
  pub last : ℕ → Option ℕ

-- ---- at the start

unfoldable pub start_ledger : Connection → Ledger
start_ledger c = record {
  current = cond (eqb c.current 0) none (some (c.current - 1));
  bound = λ place. cond (is_bound (binding_at c place)) (some (binding_at c place).id) none;
  last = λ place. cond (is_updated (binding_at c place)) (some (binding_at c place).previous) none;
}

-- ---- what a message of class 10 says: its type, and the position of its body, after the encoded length

unfoldable pub kind_of : List ℕ → ℕ
kind_of message = get_or message 1 0

unfoldable pub after_int : Result (ℕ × ℕ) IntError → ℕ
after_int (Ok (v, next)) = next
after_int (Err (int.Short looked)) = 0
after_int (Err (int.Overflow looked)) = 0

unfoldable pub body_start : List ℕ → ℕ
body_start message = after_int (read_int message 2)

unfoldable pub value_of : Result (ℕ × ℕ) IntError → ℕ
value_of (Ok (v, next)) = v
value_of (Err (int.Short looked)) = 0
value_of (Err (int.Overflow looked)) = 0

-- the sender's table ID that the body of a definition or of a switch begins with
unfoldable pub table_id : List ℕ → ℕ
table_id message = value_of (read_int message (body_start message))

unfoldable pub number_value : std.Option (ℕ × ℕ) → ℕ
number_value (Some (v, next)) = v
number_value None = 0

-- the 4-byte update ID of an update
unfoldable pub explicit_id : List ℕ → ℕ
explicit_id message = number_value (read_number message (body_start message))

-- "Incremental has no ID: it is the table's previous ID plus one, and 4294967295 is followed by 0."
unfoldable pub next_id : Option ℕ → Option ℕ
next_id (some id) = some ((id + 1) % 2 ^ 32)
next_id none = none

-- of an update that has an ID, timed or not, that one; of an incremental one the one after the previous
unfoldable pub id_by : Option Form → List ℕ → Option ℕ → Option ℕ
id_by (some form) message previous = cond form.explicit (some (explicit_id message)) (next_id previous)
id_by none message previous = none

unfoldable pub update_id : List ℕ → Option ℕ → Option ℕ
update_id message previous = id_by (form_of (kind_of message)) message previous

-- ---- a message

unfoldable pub at : (ℕ → Option ℕ) → Option ℕ → Option ℕ
at f (some place) = f place
at f none = none

-- "another table that had it loses it"
unfoldable pub without : ℕ → Option ℕ → Option ℕ
without id (some held) = cond (eqb held id) none (some held)
without id none = none

-- the table named by the answer becomes current, with the message's ID as its only one
unfoldable pub defines : Ledger → ℕ → ℕ → Ledger
defines l place id = record {
  current = some place;
  bound = λ p. cond (eqb p place) (some id) (without id (l.bound p));
  last = l.last;
}

unfoldable pub switches : Ledger → ℕ → Ledger
switches l place = record { current = some place; bound = l.bound; last = l.last }

-- "An accepted update is committed.": the current table has a new last committed update ID
unfoldable pub commits : Ledger → Option ℕ → Option ℕ → Ledger
commits l (some place) id = record {
  current = l.current;
  bound = l.bound;
  last = λ p. cond (eqb p place) id (l.last p);
}
commits l none id = l

unfoldable pub post : Ledger → Ended Answer → Ledger
post l e =
    elim e.answer [
      | answer.More ↦ l
      | answer.Hello process relative ↦ l
      | answer.Status ↦ l
      | answer.Request ↦ l
      | answer.Finished ↦ l
      | answer.Partial ↦ l
      | answer.Confirmed ↦ l
      | answer.Heartbeat ↦ l
      | answer.Error type ↦ l
      | answer.Table place ↦ defines l place (table_id e.message)
      | answer.Switch place ↦ switches l place
      | answer.Update table id entry how ↦ commits l l.current (update_id e.message (at l.last l.current))
      | answer.Acknowledgement id update ↦ l
      | answer.Skipped kind ↦ l
      | answer.Refused n ↦ l
      | answer.RefusedAt n offset ↦ l
    ]

-- ---- acknowledgements

-- class 10, and request 2's type 132
unfoldable pub is_acknowledgement : List ℕ → Bool
is_acknowledgement reply = eqb (get_or reply 0 0) stick_table_class && eqb (get_or reply 1 0) acknowledgement_type

-- an acknowledgement with its table's bound ID and last committed update ID: the reply to an update of this table with this ID, after which
-- the ledger is l
pub record Carried (l : Ledger) (reply : List ℕ) (table update : ℕ) : Type 0 where
  pub id : ℕ
  pub current : l.current ≡ some table
  pub bound : l.bound table ≡ some id
  pub last : l.last table ≡ some update
  pub small-id : id < 2 ^ 32
  pub small-update : update < 2 ^ 32
  pub carries : reply ≡ acknowledge id update

-- the reply doesn't begin as an acknowledgement, and is too short to hold one: an acknowledgement has at least 8 bytes
pub record NoAcknowledgement (reply : List ℕ) : Type 0 where
  pub other : is_acknowledgement reply ≡ false
  pub short : length reply ≤ 4

-- a switch goes to the table that is bound to the ID in its message
pub record Switched (l : Ledger) (message reply : List ℕ) (place : ℕ) : Type 0 where
  pub bound : l.bound place ≡ some (table_id message)
  pub none : NoAcknowledgement reply

-- "a committed update gives one acknowledgement"; no other message's reply is one
abbrev pub RightReply : Ledger → List ℕ → List ℕ → Answer → Type 0
RightReply l message reply answer.More = NoAcknowledgement reply
RightReply l message reply (answer.Hello process relative) = NoAcknowledgement reply
RightReply l message reply answer.Status = NoAcknowledgement reply
RightReply l message reply answer.Request = NoAcknowledgement reply
RightReply l message reply answer.Finished = NoAcknowledgement reply
RightReply l message reply answer.Partial = NoAcknowledgement reply
RightReply l message reply answer.Confirmed = NoAcknowledgement reply
RightReply l message reply answer.Heartbeat = NoAcknowledgement reply
RightReply l message reply (answer.Error type) = NoAcknowledgement reply
RightReply l message reply (answer.Table place) = NoAcknowledgement reply
RightReply l message reply (answer.Switch place) = Switched l message reply place
RightReply l message reply (answer.Update table id entry how) = Carried l reply table id
RightReply l message reply (answer.Acknowledgement id update) = NoAcknowledgement reply
RightReply l message reply (answer.Skipped kind) = NoAcknowledgement reply
RightReply l message reply (answer.Refused n) = NoAcknowledgement reply
RightReply l message reply (answer.RefusedAt n offset) = NoAcknowledgement reply

-- a message that ended, between the ledger before it and the ledger after it
abbrev pub Acknowledged : Ledger → Ledger → Ended Answer → Type 0
Acknowledged before after e = RightReply after e.message e.reply e.answer
