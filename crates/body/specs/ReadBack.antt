-- Request 3: "a second open session .. that reads it ends with the same tables, keys, values and remaining times". Here of one body: what the
-- bytes of a definition and of an update read back as, with nothing ignored; and how many they are at most.
use Rattle.std.specs.Prelude.{ℕ, ◌+◌, ◌-◌, ◌^◌, ◌≤◌, ◌<◌, ◌≡◌, refl, List, [], ◌∷◌, map, true, false, cond, length, replicate, eqb, pos, negsuc}
use Rattle.lists.specs.Lists.{all_of, every, among}
use Rattle.wire.specs.Integer.{encode_int, encode_rest}
use Rattle.wire.specs.Number.{encode_number}
use Rattle.wire.specs.Server.{server_word}
use Rattle.store.specs.declared.Table.{Table}
use Rattle.store.specs.declared.Entry.{Entry}
use Rattle.store.specs.Limits.{key_max, is_plain, plain_name, key_kind, is_string, key_length_ok, data_types_ok, present, is_wide, width_of, integers_of, slots_for, slot_types, is_rate, rate_types}
use Rattle.store.specs.Shape.{TableShape, EntryShape}
use Rattle.store.specs.Sound.{name_length_ok, name_plain, key_type_ok, table_key_length_ok, table_types_ok, timed_ok, sound_table, entry_key_length_ok, slot_ok, slots_ok, values_ok}
use Rattle.store.specs.Store.{table_held, name_of, key_of}
use Rattle.body.specs.declared.update.Form.{Form}
use Rattle.body.specs.Fields.{got, span_in}
use Rattle.body.specs.Bodies.{Times, no_times, Definition, definition_fields, Update, time_mark, update_fields}
use Rattle.body.specs.Encodings.{each_bytes, key_bytes, server_bytes, value_bytes, data_bytes, entry_bytes, number_if, update_bytes, entry_start, period_bytes, times_bytes, definition_bytes}

-- values of data types that a table doesn't have aren't sent: each value where its data type is present, else 0, as far as both lists go
unfoldable pub present_only : ℕ → List ℕ → List ℕ → List ℕ
present_only types [] [] = []
present_only types [] (v ∷ vs) = []
present_only types (t ∷ ts) [] = []
present_only types (t ∷ ts) (v ∷ vs) = cond (present types t) v 0 ∷ present_only types ts vs

-- ---- definition

-- the position at which a table's name starts: behind the ID and the name's length
abbrev pub name_start : ℕ → Table → ℕ
name_start id t = length (encode_int id) + length (encode_int (length (name_of t)))

-- expiry and periods of a table, where it has them
unfoldable pub times_back : Table → Times
times_back t = cond (eqb t.timed 1) (record { timed = 1; expiry = t.expiry; periods = present_only t.data_types rate_types t.periods }) no_times

-- the fields of a table's definition with this ID
abbrev pub definition_back : ℕ → Table → Definition
definition_back id t = record {
  id = id;
  name = record { start = name_start id t; len = length (name_of t) };
  key_type = t.key_type;
  key_length = t.key_len;
  data_types = t.data_types;
  times = times_back t;
}

-- they are the table's
pub record DefinitionBack (id : ℕ) (t : Table) : Type 0 where
  pub fields : definition_fields (definition_bytes id t) ≡ got (definition_back id t) (length (definition_bytes id t))
  pub name : span_in (definition_bytes id t) (definition_back id t).name ≡ name_of t
  pub timed : (times_back t).timed ≡ t.timed
  pub expiry : t.timed ≡ 1 → (times_back t).expiry ≡ t.expiry
  pub periods : t.timed ≡ 1 → (times_back t).periods ≡ present_only t.data_types rate_types t.periods
  pub none : t.timed ≡ 0 → times_back t ≡ no_times

-- of every held sound table, with every ID
abbrev pub DefinitionsReadBack : Type 0
DefinitionsReadBack = (id : ℕ) (t : Table) → id < 2 ^ 32 → TableShape t → table_held t ≡ true → sound_table t ≡ true → DefinitionBack id t

-- ---- update

-- the position at which an entry's key starts: behind update ID and remaining time, where they are there, and a string's length
abbrev pub key_start : Form → Table → Entry → ℕ
key_start form t e = entry_start form + cond (is_string (key_kind t.key_type)) (length (encode_int (length (key_of e)))) 0

-- the fields of an entry's update with this ID
abbrev pub update_back : Form → Table → ℕ → Entry → Update
update_back form t id e = record {
  id = id;
  time = record { timed = time_mark form t; remaining = cond form.timed e.remaining t.expiry };
  key = record { start = key_start form t e; len = length (key_of e) };
  server = cond (present t.data_types 0) e.server_id (pos 0);
  values = present_only t.data_types slot_types e.values;
}

pub record UpdateBack (form : Form) (t : Table) (following id : ℕ) (e : Entry) : Type 0 where
  pub fields : update_fields form t following (update_bytes form t id e) ≡ got (update_back form t id e) (length (update_bytes form t id e))
  pub key : span_in (update_bytes form t id e) (update_back form t id e).key ≡ key_of e

-- what an entry needs for that, in a table of this key type, key length and data types; a held entry of a sound store has it
pub record Sendable (t : Table) (e : Entry) : Type 0 where
  pub shape : EntryShape e
  pub key_most : e.key_len ≤ key_max
  pub key_length : entry_key_length_ok t e ≡ true
  pub values : values_ok t e ≡ true

-- in every form, with every ID; an incremental one has the following ID
abbrev pub UpdatesReadBack : Type 0
UpdatesReadBack =
    (form : Form) (t : Table) (following id : ℕ) (e : Entry) → id < 2 ^ 32 → (form.explicit ≡ false → id ≡ following) → Sendable t e
    → UpdateBack form t following id e

-- ---- lengths

-- of every table and entry, sound or not
abbrev pub DefinitionsFit : Type 0
DefinitionsFit = (id : ℕ) (t : Table) → id < 2 ^ 32 → TableShape t → length (definition_bytes id t) ≤ 106

abbrev pub UpdatesFit : Type 0
UpdatesFit = (form : Form) (t : Table) (id : ℕ) (e : Entry) → EntryShape e → length (update_bytes form t id e) ≤ 423

-- of sound ones: the greatest lengths that there are
abbrev pub SoundDefinitionsFit : Type 0
SoundDefinitionsFit =
    (id : ℕ) (t : Table) → id < 2 ^ 32 → TableShape t → table_held t ≡ true → sound_table t ≡ true → length (definition_bytes id t) ≤ 97

abbrev pub SoundUpdatesFit : Type 0
SoundUpdatesFit = (form : Form) (t : Table) (id : ℕ) (e : Entry) → Sendable t e → length (update_bytes form t id e) ≤ 263

-- ---- worked examples

-- values that aren't present are left out
only : present_only 5 (0 ∷ 1 ∷ 2 ∷ 3 ∷ []) (6 ∷ 7 ∷ 8 ∷ []) ≡ 6 ∷ 0 ∷ 8 ∷ []
unfolding present_only present
only = refl

-- a sound table whose definition has 97 bytes: all data types, and every number at its limit
abbrev largest_table : Table
largest_table = record {
  held = 1;
  key_type = 6;
  timed = 1;
  data_types = 2 ^ 19 - 1;
  name_len = 32;
  key_len = 64;
  expiry = 2 ^ 32 - 1;
  periods = replicate 8 (2 ^ 32 - 1);
  name = replicate 32 0x74;
}

largest-sound : sound_table largest_table ≡ true
unfolding sound_table all_of table_held name_length_ok name_plain plain_name every is_plain among name_of key_type_ok table_key_length_ok key_length_ok key_kind table_types_ok data_types_ok timed_ok
largest-sound = refl

largest-definition : length (definition_bytes (2 ^ 32 - 1) largest_table) ≡ 97
unfolding definition_bytes times_bytes period_bytes each_bytes name_of encode_int encode_rest present rate_types
largest-definition = refl

-- an entry of that table whose timed update has 263 bytes
abbrev largest_entry : Entry
largest_entry = record {
  held = 1;
  server_id = negsuc 0;
  timed = 1;
  remaining = 0;
  table = 0;
  key_len = 64;
  key = replicate 64 0xFF;
  values = map (λ t. 2 ^ width_of t - 1) slot_types;
}

largest-values : values_ok largest_table largest_entry ≡ true
unfolding values_ok slots_ok slot_ok present is_wide width_of slot_types slots_for integers_of is_rate rate_types among
largest-values = refl

largest-update : length (update_bytes (record { explicit = true; timed = true }) largest_table 0 largest_entry) ≡ 263
unfolding update_bytes number_if entry_bytes key_bytes data_bytes server_bytes each_bytes value_bytes key_of key_kind encode_number encode_int encode_rest server_word present is_wide width_of slot_types slots_for integers_of is_rate rate_types among
largest-update = refl
