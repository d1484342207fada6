-- The bodies of class 10, field by field.
use Rattle.std.specs.Prelude.{ℕ, List, Bool, true, false, cond, length, replicate, eqb, ℤ, pos}
use Rattle.std.proofs.Math.Option.{Option, some, none}
use Rattle.frame.specs.Frame.{update_type, incremental_type, timed_type, timed_incremental_type}
use Rattle.store.specs.declared.Table.{Table}
use Rattle.store.specs.Limits.{name_max, plain_name, key_kind, is_known, is_string, key_length_ok, data_types_ok, present, width_of, slot_types, rate_types, rate_count}
use Rattle.body.specs.declared.update.Form.{Form}
use Rattle.body.specs.Fields.{Read, got, unplain, Reader, and_then, for_each, Span, span_in, integer, between, integer_of, bytes, number4, server_id}
pub use Rattle.body.specs.declared.definition.Named.{Named}
pub use Rattle.body.specs.declared.shape.Shape.{Shape}
pub use Rattle.body.specs.declared.times.Times.{Times}
pub use Rattle.body.specs.declared.definition.Definition.{Definition}
pub use Rattle.body.specs.declared.Acknowledged.{Acknowledged}
pub use Rattle.body.specs.declared.update_data.Data.{Data}
pub use Rattle.body.specs.declared.update.Time.{Time}
pub use Rattle.body.specs.declared.update.Update.{Update}

-- ---- definition

-- a definition's ID and its name
abbrev pub named : ℕ → ℕ → ℕ → Named
named id start len = record { id = id; name = record { start = start; len = len } }

-- "30, .. after the name is whole and before the key type"
unfoldable pub name_field : ℕ → Reader Span
name_field n body at = and_then (bytes n body at) λ name at₁. cond (plain_name (span_in body name)) (got name at₁) (unplain at)

-- "encoded sender's table ID, name length (1 to 32), name, .."; "IDs, expiry and periods are at most 2^32 - 1"
unfoldable pub named_fields : Reader Named
named_fields body at =
    and_then (integer_of 32 body at) λ id at₁.
    and_then (integer (between 1 name_max) body at₁) λ len at₂.
    and_then (name_field len body at₂) λ name at₃.
    got (record { id = id; name = name }) at₃

-- request 1: "0, 1, 3 and all above 7 are 24, in the key type's place"
unfoldable pub is_key_type : ℕ → Bool
is_key_type n = is_known (key_kind n)

-- ".. key type, key length, data types, .."
unfoldable pub shape_fields : Reader Shape
shape_fields body at =
    and_then (integer is_key_type body at) λ key_type at₁.
    and_then (integer (key_length_ok key_type) body at₁) λ key_length at₂.
    and_then (integer data_types_ok body at₂) λ types at₃.
    got (record { key_type = key_type; key_length = key_length; data_types = types }) at₃

-- "a pair (data type number, period)"; "A pair whose number isn't the next rate type is out of range."
unfoldable pub pair_field : ℕ → Reader ℕ
pair_field t body at = and_then (integer (λ n. eqb n t) body at) λ n at₁. integer_of 32 body at₁

-- "for each rate type present, ascending": the period of rate type t, 0 where it isn't present
unfoldable pub period_field : ℕ → ℕ → Reader ℕ
period_field types t body at = cond (present types t) (pair_field t body at) (got 0 at)

abbrev pub period_fields : ℕ → Reader (List ℕ)
period_fields types = for_each (period_field types) rate_types

-- ".. expiry and a pair (data type number, period) for each rate type present, ascending"
unfoldable pub times_there : ℕ → Reader Times
times_there types body at =
    and_then (integer_of 32 body at) λ expiry at₁.
    and_then (period_fields types body at₁) λ periods at₂.
    got (record { timed = 1; expiry = expiry; periods = periods }) at₂

-- ".. and then, unless the body ends there, .."
abbrev pub no_times : Times
no_times = record { timed = 0; expiry = 0; periods = replicate rate_count 0 }

unfoldable pub times_fields : ℕ → Reader Times
times_fields types body at = cond (eqb at (length body)) (got no_times at) (times_there types body at)

abbrev pub defined : Named → Shape → Times → Definition
defined named shape times = record {
  id = named.id;
  name = named.name;
  key_type = shape.key_type;
  key_length = shape.key_length;
  data_types = shape.data_types;
  times = times;
}

-- what follows the name of a definition
unfoldable pub rest_fields : Named → Reader Definition
rest_fields named body at =
    and_then (shape_fields body at) λ shape at₁.
    and_then (times_fields shape.data_types body at₁) λ times at₂.
    got (defined named shape times) at₂

-- "Definition: encoded sender's table ID, name length (1 to 32), name, key type, key length, data types, and then, .."
unfoldable pub definition_fields : List ℕ → Read Definition
definition_fields body = and_then (named_fields body 0) λ named at₁. rest_fields named body at₁

-- ---- switch and acknowledgement

-- "Switch: encoded ID"
unfoldable pub switch_fields : List ℕ → Read ℕ
switch_fields body = integer_of 32 body 0

-- "Acknowledgement: encoded ID, 4-byte update ID."
unfoldable pub acknowledgement_fields : List ℕ → Read Acknowledged
acknowledgement_fields body =
    and_then (integer_of 32 body 0) λ id at₁.
    and_then (number4 body at₁) λ update at₂.
    got (record { id = id; update = update }) at₂

-- ---- update

-- "Key: string: encoded length (0 up to the key length), bytes; .."
unfoldable pub string_field : ℕ → Reader Span
string_field key_length body at = and_then (integer (between 0 key_length) body at) λ len at₁. bytes len body at₁

-- ".. else exactly key-length bytes."
unfoldable pub key_field : ℕ → ℕ → Reader Span
key_field key_type key_length body at =
    cond (is_string (key_kind key_type)) (string_field key_length body at) (bytes key_length body at)

-- "Type 0, the server ID, is signed 32-bit: .." It is 0 where that type isn't present.
unfoldable pub server_field : ℕ → Reader ℤ
server_field types body at = cond (present types 0) (server_id body at) (got (pos 0) at)

-- "Types 13 and 15 .. take 64 bits, all others 32": an integer of data type t, 0 where it isn't present
unfoldable pub slot_field : ℕ → ℕ → Reader ℕ
slot_field types t body at = cond (present types t) (integer_of (width_of t) body at) (got 0 at)

-- "Data: values in bit order. Rate types .. are three integers": an integer for each slot
abbrev pub value_fields : ℕ → Reader (List ℕ)
value_fields types = for_each (slot_field types) slot_types

unfoldable pub data_fields : ℕ → Reader Data
data_fields types body at =
    and_then (server_field types body at) λ server at₁.
    and_then (value_fields types body at₁) λ values at₂.
    got (record { server = server; values = values }) at₂

-- an update of an entry; request 2: its remaining time in milliseconds, marked by 1, or none, marked by 0
abbrev pub keyed : ℕ → Time → Span → Data → Update
keyed id time key d = record { id = id; time = time; key = key; server = d.server; values = d.values }

-- key and data, of an update whose ID and remaining time are known
unfoldable pub entry_fields : Table → ℕ → Time → Reader Update
entry_fields t id time body at =
    and_then (key_field t.key_type t.key_len body at) λ key at₁.
    and_then (data_fields t.data_types body at₁) λ d at₂.
    got (keyed id time key d) at₂

-- a 4-byte big-endian number, where the update has one there; else what is known without it
unfoldable pub number_or : Bool → ℕ → Reader ℕ
number_or there known body at = cond there (number4 body at) (got known at)

-- request 2: "an untimed update takes the table's expiry, else none"
unfoldable pub time_mark : Form → Table → ℕ
time_mark form t = cond form.timed 1 t.timed

-- "A timed message has a 4-byte big-endian remaining time in milliseconds after the update ID (133), or first (134)"; key and data follow
unfoldable pub timed_fields : Form → Table → ℕ → Reader Update
timed_fields form t id body at =
    and_then (number_or form.timed t.expiry body at) λ remaining at₁.
    entry_fields t id (record { timed = time_mark form t; remaining = remaining }) body at₁

-- "Update: 4-byte big-endian update ID, key, data. Incremental has no ID": it follows the table's previous one
unfoldable pub update_fields : Form → Table → ℕ → List ℕ → Read Update
update_fields form t following body = and_then (number_or form.explicit following body 0) λ id at₁. timed_fields form t id body at₁

-- the form of an update of this type; other types are no updates
unfoldable pub form_of : ℕ → Option Form
form_of kind =
    cond (eqb kind update_type) (some (record { explicit = true; timed = false }))
    (cond (eqb kind incremental_type) (some (record { explicit = false; timed = false }))
    (cond (eqb kind timed_type) (some (record { explicit = true; timed = true }))
    (cond (eqb kind timed_incremental_type) (some (record { explicit = false; timed = true })) none)))
