-- What a whole message does: answer, reply, the new session, and what it puts into the store.
use Rattle.std.specs.Prelude.{ℕ, ◌+◌, ◌-◌, ◌%◌, ◌^◌, Bool, cond, ◌&&◌, ◌||◌, List, [], ◌∷◌, ◌++◌, length, ◌==◌, nat_le, slice_index_or, Option, Some, None}
use Rattle.std.proofs.Math.Option as math
use Rattle.lists.specs.Lists.{first_place}
use Rattle.wire.specs.Integer.{encode_int}
use Rattle.wire.specs.Number.{encode_number}
use Rattle.frame.specs.Frame.{stick_table_class, definition_type, switch_type, acknowledgement_type}
use Rattle.store.specs.declared.Table.{Table}
use Rattle.store.specs.declared.Entry.{Entry}
use Rattle.store.specs.Store.{table_free, table_named, make_table, make_entry, no_table}
use Rattle.store.specs.declared.entries.Place.{Place}
use Rattle.store.specs.declared.entries.Place.TheVariants as place
use Rattle.session.specs.declared.Connection.{Connection}
use Rattle.session.specs.declared.Commit.{Commit}
use Rattle.session.specs.declared.Commit.TheVariants as commit
use Rattle.session.specs.declared.Answer.{Answer}
use Rattle.session.specs.declared.Answer.TheVariants as answer
use Rattle.session.specs.Answers.{refusal_reply}
use Rattle.session.specs.Session.{closed_with, make_current, bind, committed, find_bound, binding_at, is_updated}
use Rattle.body.specs.declared.Failure.{Failure}
use Rattle.body.specs.declared.Failure.TheVariants as failure
use Rattle.body.specs.declared.Fault.{Fault}
use Rattle.body.specs.declared.update.Form.{Form}
use Rattle.body.specs.Fields.{Read, got, failed, span_in}
use Rattle.body.specs.declared.definition.Definition.{Definition}
use Rattle.body.specs.declared.update.Update.{Update}
use Rattle.body.specs.Bodies.{definition_fields, switch_fields, acknowledgement_fields, update_fields, form_of}
use Rattle.message.specs.declared.Effect.{Effect as EffectStruct}
use Rattle.message.specs.declared.Asked.{Asked}
use Rattle.message.specs.declared.Asked.TheVariants as ask
use Rattle.message.specs.Changes.{no_change, table_change, entry_change}
use Rattle.message.specs.Targets.{goes_to}

-- what a message does: its answer, its reply, the new connection, and what it puts into the store
abbrev pub Effect : Type 0
Effect = EffectStruct

-- what a message comes to before the entries are looked at: what it does, or, of an update, that this entry is to be committed with this
-- update ID
abbrev pub Asks : Type 0
Asks = Asked

pattern abbrev pub does : Effect → Asks
does e = ask.Done e

pattern abbrev pub commits : ℕ → Entry → Asks
commits id e = ask.Commit id e

-- "From 10 up the record is closed with that number", with the reply of the table of refusals; the store stays
unfoldable pub refuse_with : Connection → ℕ → Answer → Effect
refuse_with c n a = record { answer = a; reply = refusal_reply n; connection = closed_with c n; change = no_change }

unfoldable pub refuse : Connection → ℕ → Effect
refuse c n = refuse_with c n (answer.Refused n)

-- an accepted message that leaves the store as it is
unfoldable pub note : Connection → Answer → List ℕ → Effect
note c a reply = record { answer = a; reply = reply; connection = c; change = no_change }

-- "23 | body ends before a field is whole", "24 | field overflows or is out of range"; request 8: "30, .. after the name is whole"
unfoldable pub failure_number : Failure → ℕ
failure_number failure.Short = 23
failure_number failure.OutOfRange = 24
failure_number failure.NotPlain = 30

-- a message whose body can't be read; request 10: "refusals 23, 24 and 30 give the offset in the body, from 0, at which the failing field
-- starts"
unfoldable pub refuse_body : Connection → Fault → Effect
refuse_body c f = let n = failure_number f.failure in refuse_with c n (answer.RefusedAt n f.start)

-- fields, then what the message does; "Bytes after the known fields are ignored."
module _ {A X : Type 0} where
  unfoldable pub fields_then : (Fault → X) → Read A → (A → X) → X
  fields_then refused (got a at) whole = whole a
  fields_then refused (failed f) whole = refused f

-- ---- control and error messages

-- "class 0 with type 0 request, 1 finished, 2 partial, 3 confirmed, 4 heartbeat"
unfoldable pub control_answer : ℕ → Answer
control_answer type =
    cond (type == 0) answer.Request
    (cond (type == 1) answer.Finished
    (cond (type == 2) answer.Partial
    (cond (type == 3) answer.Confirmed answer.Heartbeat)))

-- "Finished and partial give `00 03`. Others give none."
unfoldable pub control_reply : ℕ → List ℕ
control_reply type = cond (nat_le 1 type && nat_le type 2) (0x00 ∷ 0x03 ∷ []) []

unfoldable pub control : Connection → ℕ → Effect
control c type = note c (control_answer type) (control_reply type)

-- "A peer's error message is an accepted message, and it closes the session with number 0."
unfoldable pub peer_error : Connection → ℕ → Effect
peer_error c type = note (closed_with c 0) (answer.Error type) []

-- ---- definition

-- the table that a definition describes
unfoldable pub defined_table : List ℕ → Definition → Table
defined_table body d =
    make_table (span_in body d.name)
    (record {
      key_type = d.key_type;
      key_len = d.key_length;
      data_types = d.data_types;
      timed = d.times.timed;
      expiry = d.times.expiry;
      periods = d.times.periods;
    })

-- this table at a place: "The ID is then this table's only one, another table that had it loses it, and this table becomes current."
unfoldable pub define_at : Connection → ℕ → Table → ℕ → Effect
define_at c id t place = record { answer = answer.Table place; reply = []; connection = bind c place id; change = table_change place t }

-- "A name not held takes the lowest free of 8 table places", "26 | new name, 8 tables held"
unfoldable pub define_new : Connection → ℕ → Table → Option ℕ → Effect
define_new c id t (Some place) = define_at c id t place
define_new c id t None = refuse c 26

-- "A held name must agree in key type, key length and data types"
unfoldable pub agrees : Table → Table → Bool
agrees held t =
    (held.key_type == t.key_type)
    && (held.key_len == t.key_len && held.data_types == t.data_types)

-- "its expiry and periods are replaced, by none where the body has none", "25 | held name disagrees"
unfoldable pub define_named : Connection → List Table → ℕ → Table → Option ℕ → Effect
define_named c tables id t (Some place) = cond (agrees (slice_index_or tables place no_table) t) (define_at c id t place) (refuse c 25)
define_named c tables id t None = define_new c id t (first_place table_free tables)

-- "In a definition fields come first, then 25, then 26"
unfoldable pub definition : Connection → List Table → List ℕ → Effect
definition c tables body =
    fields_then (refuse_body c) (definition_fields body) λ d.
    define_named c tables d.id (defined_table body d) (first_place (table_named (span_in body d.name)) tables)

-- ---- switch

-- "the table bound to it becomes current", "27 | no current table; switch to an unbound ID"
unfoldable pub switch_to : Connection → Option ℕ → Effect
switch_to c (Some place) = note (make_current c place) (answer.Switch place) []
switch_to c None = refuse c 27

-- "in a switch fields, then 27"
unfoldable pub switch : Connection → List ℕ → Effect
switch c body = fields_then (refuse_body c) (switch_fields body) λ id. switch_to c (find_bound c id)

-- ---- acknowledgement and other types

unfoldable pub acknowledgement : Connection → List ℕ → Effect
acknowledgement c body = fields_then (refuse_body c) (acknowledgement_fields body) λ a. note c (answer.Acknowledgement a.id a.update) []

-- "Other types from 128 are skipped by length."
unfoldable pub skipped : Connection → ℕ → Effect
skipped c kind = note c (answer.Skipped kind) []

-- ---- updates

-- the entry that an update of the table at a place makes
unfoldable pub updated_entry : List ℕ → ℕ → Update → Entry
updated_entry body table u = make_entry table (span_in body u.key) u.server u.time.timed u.time.remaining u.values

unfoldable pub refusal : Connection → ℕ → Asks
refusal c n = does (refuse c n)

-- fields, then the entry that they make is to be committed
unfoldable pub with_fields : Connection → List ℕ → ℕ → Read Update → Asks
with_fields c body table fields = fields_then (λ f. does (refuse_body c f)) fields λ u. commits u.id (updated_entry body table u)

-- "the table's previous ID plus one, and 4294967295 is followed by 0"
unfoldable pub following_id : ℕ → ℕ
following_id id = (id + 1) % 2 ^ 32

-- "28 | incremental, no previous ID"
unfoldable pub update_of : Form → Connection → List Table → ℕ → List ℕ → Asks
update_of form c tables table body =
    cond (form.explicit || is_updated (binding_at c table))
    (with_fields c body table (update_fields form (slice_index_or tables table no_table) (following_id (binding_at c table).previous) body))
    (refusal c 28)

-- "In an update 27 comes first, then 28, then fields, then 29." `current` is 0 where there is no current table, else its place plus 1
unfoldable pub update : Form → Connection → List Table → List ℕ → Asks
update form c tables body = cond (c.current == 0) (refusal c 27) (update_of form c tables (c.current - 1) body)

-- ---- "Types: 128 update, 129 incremental update, 130 definition, 131 switch", and request 2's 132 acknowledgement, 133 and 134 timed updates

-- a message that is no update
unfoldable pub other_message : Connection → List Table → ℕ → List ℕ → Effect
other_message c tables kind body =
    cond (kind == definition_type) (definition c tables body)
    (cond (kind == switch_type) (switch c body)
    (cond (kind == acknowledgement_type) (acknowledgement c body) (skipped c kind)))

unfoldable pub by_form : Connection → List Table → ℕ → List ℕ → math.Option Form → Asks
by_form c tables kind body (math.some form) = update form c tables body
by_form c tables kind body math.none = does (other_message c tables kind body)

unfoldable pub stick_table : Connection → List Table → ℕ → List ℕ → Asks
stick_table c tables kind body = by_form c tables kind body (form_of kind)

-- ---- the entry committed

-- the acknowledgement with an ID and an update ID: encoded ID, 4-byte update ID
unfoldable pub acknowledge : ℕ → ℕ → List ℕ
acknowledge id update =
    let body = encode_int id ++ encode_number update in
    stick_table_class ∷ acknowledgement_type ∷ encode_int (length body) ++ body

-- the entry is held, and the update's ID is the table's last committed one: "a committed update gives one acknowledgement (class 10, ..)
-- with the table's bound ID and this update's ID"
unfoldable pub commit_at : Connection → ℕ → Entry → ℕ → Commit → Effect
commit_at c id e place how = record {
  answer = answer.Update e.table id place how;
  reply = acknowledge (binding_at c e.table).id id;
  connection = committed c e.table id;
  change = entry_change place e;
}

-- "A known table and key has its values replaced. Otherwise the entry takes the lowest free place.", "29 | new key and no free entry"
unfoldable pub commit_entry : Connection → ℕ → Entry → Place → Effect
commit_entry c id e (place.Held i) = commit_at c id e i commit.Replaced
commit_entry c id e (place.Free i) = commit_at c id e i commit.New
commit_entry c id e place.Full = refuse c 29

-- what was asked is done, among the entries
unfoldable pub done : Connection → List Entry → Asks → Effect
done c entries (does e) = e
done c entries (commits id e) = commit_entry c id e (goes_to entries e)
