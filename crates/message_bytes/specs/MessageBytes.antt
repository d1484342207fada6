-- "which bytes stood for this counter?": the message of an accepted update or definition, from its first byte to its last.
-- The records below fix the reading by themselves: no other key, server ID, values or remaining time fit the message of an update, and no other
-- ID, name, shape or times that of a definition.
use Rattle.std.specs.Prelude.{ℕ, ◌+◌, ◌%◌, ◌^◌, ◌≤◌, ◌<◌, ◌≡◌, List, [], ◌++◌, true, false, cond, length, take, drop, get_or, replicate, pos}
use Rattle.std.specs.Int.Signed.{mag}
use Rattle.std.proofs.Math.Option.{some}
use Rattle.frame.specs.Frame.{definition_type}
use Rattle.wire.specs.Integer.{encode_int}
use Rattle.wire.specs.Number.{encode_number}
use Rattle.wire.specs.Server.{server_word}
use Rattle.store.specs.declared.Table.{Table}
use Rattle.store.specs.declared.Entry.{Entry}
use Rattle.store.specs.declared.Store.{Store}
use Rattle.store.specs.Limits.{value_count, rate_count, slot_types, rate_types, present}
use Rattle.store.specs.Shape.{Cells, TableShape, EntryShape}
use Rattle.store.specs.Sound.{sound_table, sound_entry, entry_key_length_ok, key_rest_zero, values_ok}
use Rattle.store.specs.Store.{table_held, entry_held, name_of, key_of, find_entry, free_entry, time_left, no_table, no_entry}
use Rattle.session.specs.declared.Session.{Session}
use Rattle.session.specs.declared.Commit.{Commit}
use Rattle.session.specs.declared.Answer.TheVariants as answer
use Rattle.session.specs.Session.{binding_at, is_bound, is_updated, bound_to, unbind, bind, holding}
use Rattle.body.specs.declared.update.Form.{Form}
use Rattle.body.specs.Bodies.{time_mark, form_of}
use Rattle.body.specs.Encodings.{message_bytes, body_start, update_bytes, entry_start, server_start, slot_start, definition_bytes}
use Rattle.receiver.specs.Promise.{Made, ReadPromise}
use Rattle.receiver.specs.Corollaries.{message_of, EntryWent, TableWent}

-- The table and the entry that a call left at a place.
abbrev pub table_at : Made → ℕ → Table
table_at m place = get_or m.store.tables place no_table

abbrev pub entry_at : Made → ℕ → Entry
entry_at m place = get_or m.store.entries place no_entry

-- ---- update

-- The positions in its body at which the remaining time starts, where the update has one, the server ID, and the integer of slot i.
abbrev pub time_start : Form → ℕ
time_start form = cond form.explicit 4 0

abbrev pub server_id_start : Form → Table → Entry → ℕ
server_id_start form t e = entry_start form + server_start t e

abbrev pub integer_start : Form → Table → Entry → ℕ → ℕ
integer_start form t e i = entry_start form + slot_start t e i

-- The message that a call ended is an update of table t, at the place `table`, with this ID and with the key, server ID, values and
-- remaining time of entry e: class 10, the type, the encoded body length, and a body of the encoded fields and then of bytes that are ignored.
pub record UpdateMessage (s : Session) (m : Made) (table id : ℕ) (t : Table) (e : Entry) : Type 0 where
  pub kind : ℕ
  pub form : Form
  pub type : form_of kind ≡ some form
  pub body : List ℕ
  pub message : message_of s m ≡ message_bytes kind body
  -- the position of the body in the message; "body over 1,024 bytes" is refused
  pub body-there : drop (body_start body) (message_of s m) ≡ body
  pub body-most : length body ≤ 1024
  pub ignored : List ℕ
  pub fields : body ≡ update_bytes form t id e ++ ignored
  -- the table is held and was the current one
  pub table-held : table_held t ≡ true
  pub current : s.connection.current ≡ table + 1
  -- the entry is held by that table, and sound among the tables that the call left
  pub held : entry_held e ≡ true
  pub owner : e.table ≡ table
  pub shape : EntryShape e
  pub sound : sound_entry m.store.tables e ≡ true
  -- "Key: string: encoded length (0 up to the key length), bytes; else exactly key-length bytes"; "Key bytes past the length are zero."
  pub key-length : entry_key_length_ok t e ≡ true
  pub key-rest : key_rest_zero e ≡ true
  -- "Types 13 and 15 .. take 64 bits, all others 32."
  pub widths : values_ok t e ≡ true
  -- "it is the table's previous ID plus one, and 4294967295 is followed by 0"; the table has a previous ID
  pub following : form.explicit ≡ false → id ≡ ((binding_at s.connection table).previous + 1) % 2 ^ 32
  pub previous : form.explicit ≡ false → is_updated (binding_at s.connection table) ≡ true
  -- request 2: "an untimed update takes the table's expiry, else none"; a timed one has its own time, four bytes of the body
  pub mark : e.timed ≡ time_mark form t
  pub expiry : form.timed ≡ false → e.remaining ≡ time_left t.timed t.expiry
  pub remaining : form.timed ≡ true → take 4 (drop (time_start form) body) ≡ encode_number e.remaining
  -- a 4-byte ID, a signed 32-bit server ID (`mag` of -2^31 is 2^31 - 1) and 34 values of at most 64 bits: each such number has one encoding
  pub id-32-bit : id < 2 ^ 32
  pub server-32-bit : mag e.server_id < 2 ^ 31
  pub values : Cells value_count 64 e.values
  -- where the table has data type 0, these bytes of the body are the server ID's
  pub server : present t.data_types 0 ≡ true
      → take (length (encode_int (server_word e.server_id))) (drop (server_id_start form t e) body) ≡ encode_int (server_word e.server_id)
  -- a slot whose data type the table has: these bytes of the body are its integer's
  pub integer : (i : ℕ) → i < value_count → present t.data_types (get_or slot_types i 0) ≡ true
      → take (length (encode_int (get_or e.values i 0))) (drop (integer_start form t e i) body) ≡ encode_int (get_or e.values i 0)
  -- a slot whose data type it hasn't is 0; so is the server ID
  pub absent : (i : ℕ) → i < value_count → present t.data_types (get_or slot_types i 0) ≡ false → get_or e.values i 0 ≡ 0
  pub no_server : present t.data_types 0 ≡ false → e.server_id ≡ pos 0

-- Every call that answered an update, on any record and store, ended such a message of the table and the entry that it left at the
-- answered places.
abbrev pub BytesOfUpdate : Type 0
BytesOfUpdate =
    (s : Session) (t : Store) (m : Made) (table id place : ℕ) (how : Commit) → ReadPromise s t m
    → m.outcome.answer ≡ answer.Update table id place how → UpdateMessage s m table id (table_at m table) (entry_at m place)

-- What the bytes fix: the place of the table, the update's ID, and the entry's key, server ID, values and remaining time.
pub record SameUpdate (place number : ℕ) (e : Entry) (place' number' : ℕ) (f : Entry) : Type 0 where
  pub table : place ≡ place'
  pub id : number ≡ number'
  pub key : key_of e ≡ key_of f
  pub server : e.server_id ≡ f.server_id
  pub values : e.values ≡ f.values
  pub timed : e.timed ≡ f.timed
  pub remaining : e.remaining ≡ f.remaining

-- A message is an update of a table in one way only: its bytes stand for one ID, one key, one server ID, one list of values and, with what the
-- table has for untimed updates, one remaining time.
abbrev pub OneReading : Type 0
OneReading =
    (s : Session) (m : Made) (t : Table) (table id : ℕ) (e : Entry) (table' id' : ℕ) (f : Entry) → UpdateMessage s m table id t e
    → UpdateMessage s m table' id' t f → SameUpdate table id e table' id' f

-- "A known table and key has its values replaced. Otherwise the entry takes the lowest free place.": how the entry e of this table came to this
-- place, in the store that the call got.
abbrev pub EntryPlaced : Store → (table : ℕ) → Entry → Commit → (place : ℕ) → Type 0
EntryPlaced before table e how place = EntryWent how place (find_entry before table (key_of e)) (free_entry before)

-- Every call that answered an update, on any record and store.
abbrev pub PlaceOfUpdate : Type 0
PlaceOfUpdate =
    (s : Session) (t : Store) (m : Made) (table id place : ℕ) (how : Commit) → ReadPromise s t m
    → m.outcome.answer ≡ answer.Update table id place how → EntryPlaced t table (entry_at m place) how place

-- ---- definition

-- The message that a call ended is a definition of table t with this ID: class 10, type 130, the encoded body length, and a body of the
-- encoded fields and then of bytes that are ignored.
pub record DefinitionMessage (s : Session) (m : Made) (id : ℕ) (t : Table) : Type 0 where
  pub body : List ℕ
  pub message : message_of s m ≡ message_bytes definition_type body
  -- the position of the body in the message; "body over 1,024 bytes" is refused
  pub body-there : drop (body_start body) (message_of s m) ≡ body
  pub body-most : length body ≤ 1024
  pub ignored : List ℕ
  pub fields : body ≡ definition_bytes id t ++ ignored
  -- "and then, unless the body ends there, expiry and .."
  pub untimed : t.timed ≡ 0 → ignored ≡ []
  -- the table is held, and within the limits
  pub held : table_held t ≡ true
  pub sound : sound_table t ≡ true
  pub shape : TableShape t
  pub id-32-bit : id < 2 ^ 32
  -- "its expiry and periods are replaced, by none where the body has none"
  pub no-times : t.timed ≡ 0 → (t.expiry ≡ 0) × (t.periods ≡ replicate rate_count 0)
  -- the period of a rate type that the table hasn't is 0
  pub no-period : (i : ℕ) → i < rate_count → present t.data_types (get_or rate_types i 0) ≡ false → get_or t.periods i 0 ≡ 0

-- The message that a call ended is such a definition, and the call, which came with the store `before`, put the table at the place `place`.
pub record TableDefined (s : Session) (before : Store) (m : Made) (place id : ℕ) (t : Table) : Type 0 where
  pub message : DefinitionMessage s m id t
  -- "A name not held takes the lowest free of 8 table places. A held name must agree in key type, key length and data types"
  pub went : TableWent before (name_of t) t place
  -- every other table, the entries and the counts stay as they were
  pub others : (i : ℕ) → (i ≡ place → ⊥) → table_at m i ≡ get_or before.tables i no_table
  pub entries : m.store.entries ≡ before.entries
  pub counts : m.store.counts ≡ before.counts
  -- "The ID is then this table's only one"
  pub bound : is_bound (binding_at m.session.connection place) ≡ true
  pub bound-id : (binding_at m.session.connection place).id ≡ id
  -- "another table that had it loses it"; one that hadn't stays as it was
  pub lost : (i : ℕ) → (i ≡ place → ⊥) → bound_to id (binding_at s.connection i) ≡ true
      → binding_at m.session.connection i ≡ unbind (binding_at s.connection i)
  pub kept : (i : ℕ) → (i ≡ place → ⊥) → bound_to id (binding_at s.connection i) ≡ false
      → binding_at m.session.connection i ≡ binding_at s.connection i
  -- "and this table becomes current"
  pub current : m.session.connection.current ≡ place + 1
  -- the whole record: all else stays, and no byte is unfinished
  pub session : m.session ≡ holding s.sending (bind s.connection place id) []

-- Every call that answered a table, on any record and store, ended such a message of the ID and the table that it left at the answered
-- place.
abbrev pub BytesOfDefinition : Type 0
BytesOfDefinition =
    (s : Session) (t : Store) (m : Made) (place : ℕ) → ReadPromise s t m → m.outcome.answer ≡ answer.Table place
    → TableDefined s t m place (binding_at m.session.connection place).id (table_at m place)

-- What the bytes fix: the ID, and the table's name, key type, key length, data types, expiry and periods.
pub record SameDefinition (number : ℕ) (t : Table) (number' : ℕ) (u : Table) : Type 0 where
  pub id : number ≡ number'
  pub name : name_of t ≡ name_of u
  pub key-type : t.key_type ≡ u.key_type
  pub key-length : t.key_len ≡ u.key_len
  pub data-types : t.data_types ≡ u.data_types
  pub timed : t.timed ≡ u.timed
  pub expiry : t.expiry ≡ u.expiry
  pub periods : t.periods ≡ u.periods

-- A message is a definition in one way only.
abbrev pub OneDefinition : Type 0
OneDefinition =
    (s : Session) (m : Made) (id : ℕ) (t : Table) (id' : ℕ) (u : Table) → DefinitionMessage s m id t → DefinitionMessage s m id' u
    → SameDefinition id t id' u
