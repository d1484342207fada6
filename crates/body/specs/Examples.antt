-- The definitions at worked examples: the listing's bodies, a cut inside each field, and each limit from both sides.
use Rattle.std.specs.Prelude.{ℕ, ◌-◌, ◌^◌, ◌≡◌, refl, true, false, List, [], ◌∷◌, ◌++◌, map, take, drop, replicate, ℤ, pos, negsuc}
use Rattle.std.proofs.Math.Option.{some, none}
use Rattle.lists.specs.Lists.{every, among}
use Rattle.wire.specs.Integer.{encode_int, encode_rest, read_int, read_first, with_later, later_bytes, before, weighted, fitting}
use Rattle.wire.specs.Number.{read_number, number_of, encode_number}
use Rattle.wire.specs.Server.{server_word, read_server_id, server_of, server_before, server_id_of}
use Rattle.store.specs.declared.Table.{Table}
use Rattle.store.specs.declared.Entry.{Entry}
use Rattle.store.specs.Limits.{is_plain, plain_name, key_kind, key_length_ok, data_types_ok, present, is_rate, is_wide, width_of, integers_of, slots_for, slot_types, rate_types}
use Rattle.store.specs.Store.{name_of, key_of}
use Rattle.body.specs.Fields.{got, short, outside, unplain, for_each, tested, integer, between, integer_of, span_in, bytes, field_read, number_read, number4, server_id}
use Rattle.body.specs.Bodies.{name_field, named_fields, is_key_type, shape_fields, pair_field, period_field, Times, no_times, times_there, times_fields, Definition, rest_fields, definition_fields, switch_fields, acknowledgement_fields, string_field, key_field, server_field, slot_field, data_fields, Update, entry_fields, number_or, time_mark, timed_fields, update_fields, form_of}
use Rattle.body.specs.declared.update.Form.{Form}
use Rattle.body.specs.Encodings.{message_bytes, body_start, each_bytes, key_bytes, server_bytes, value_bytes, data_bytes, entry_bytes, number_if, update_bytes, server_start, slot_start, period_bytes, times_bytes, definition_bytes}

-- ---- definition

-- "The listing", with the key type of request 1: `01 02 74 31 02 04 04 F0 97 1C`
abbrev listed : List ℕ
listed = 0x01 ∷ 0x02 ∷ 0x74 ∷ 0x31 ∷ 0x02 ∷ 0x04 ∷ 0x04 ∷ 0xF0 ∷ 0x97 ∷ 0x1C ∷ []

-- ID 1 and name `t1`, and what follows
abbrev named : List ℕ → List ℕ
named rest = 0x01 ∷ 0x02 ∷ 0x74 ∷ 0x31 ∷ rest

-- a table with integer keys
abbrev defines : ℕ → Times → Definition
defines types times = record {
  id = 1;
  name = record { start = 2; len = 2 };
  key_type = 2;
  key_length = 4;
  data_types = types;
  times = times;
}

abbrev timed : ℕ → List ℕ → Times
timed expiry periods = record { timed = 1; expiry = expiry; periods = periods }

record DefinitionExamples : Type 0 where
  whole : definition_fields listed ≡ got (defines 4 (timed 60000 (replicate 8 0))) 10
  behind : definition_fields (listed ++ (0xFF ∷ 0xFF ∷ [])) ≡ got (defines 4 (timed 60000 (replicate 8 0))) 10
  without-expiry : definition_fields (take 7 listed) ≡ got (defines 4 no_times) 7
  -- cut before and inside a field
  cut-id : definition_fields [] ≡ short 0
  cut-length : definition_fields (take 1 listed) ≡ short 1
  cut-name : definition_fields (take 3 listed) ≡ short 2
  cut-key-type : definition_fields (take 4 listed) ≡ short 4
  cut-key-length : definition_fields (take 5 listed) ≡ short 5
  cut-types : definition_fields (take 6 listed) ≡ short 6
  cut-expiry : definition_fields (take 9 listed) ≡ short 7
  -- rate types 3 and 5, with periods 10 and 11
  rates : definition_fields (named (0x02 ∷ 0x04 ∷ 0x28 ∷ 0x07 ∷ 0x03 ∷ 0x0A ∷ 0x05 ∷ 0x0B ∷ []))
      ≡ got (defines 0x28 (timed 7 (10 ∷ 11 ∷ replicate 6 0))) 12
  cut-number : definition_fields (named (0x02 ∷ 0x04 ∷ 0x28 ∷ 0x07 ∷ 0x03 ∷ 0x0A ∷ [])) ≡ short 10
  cut-period : definition_fields (named (0x02 ∷ 0x04 ∷ 0x28 ∷ 0x07 ∷ 0x03 ∷ [])) ≡ short 9
  -- a pair's number out of order, at once
  other-number : definition_fields (named (0x02 ∷ 0x04 ∷ 0x28 ∷ 0x07 ∷ 0x05 ∷ [])) ≡ outside 8
  -- name lengths 0 and 33
  no_name : definition_fields (0x01 ∷ 0x00 ∷ []) ≡ outside 1
  long-name : definition_fields (0x01 ∷ 0x21 ∷ []) ≡ outside 1
  -- the plain bytes at the limits of their ranges, `-./09:AZ_az`, and no key type
  plain-name : definition_fields (0x01 ∷ 0x0B ∷ 0x2D ∷ 0x2E ∷ 0x2F ∷ 0x30 ∷ 0x39 ∷ 0x3A ∷ 0x41 ∷ 0x5A ∷ 0x5F ∷ 0x61 ∷ 0x7A ∷ []) ≡ short 13
  -- `t` and a line feed: cut inside the name, with nothing behind it, and before a key type out of range
  cut-line-feed : definition_fields (0x01 ∷ 0x03 ∷ 0x74 ∷ 0x0A ∷ []) ≡ short 2
  line-feed : definition_fields (0x01 ∷ 0x02 ∷ 0x74 ∷ 0x0A ∷ []) ≡ unplain 2
  line-feed-first : definition_fields (0x01 ∷ 0x02 ∷ 0x74 ∷ 0x0A ∷ 0x00 ∷ []) ≡ unplain 2
  -- the name's length comes before it
  long-line-feed : definition_fields (0x01 ∷ 0x21 ∷ replicate 33 0x0A) ≡ outside 1
  -- key types 0, 1, 3, 8 and 2^32 + 2, with nothing behind them; key length 5 of an integer key, 0 and 65 of a string
  key-type-0 : definition_fields (named (0x00 ∷ [])) ≡ outside 4
  key-type-1 : definition_fields (named (0x01 ∷ [])) ≡ outside 4
  key-type-3 : definition_fields (named (0x03 ∷ [])) ≡ outside 4
  key-type-8 : definition_fields (named (0x08 ∷ [])) ≡ outside 4
  large-key-type : definition_fields (named (0xF2 ∷ 0xF1 ∷ 0xFE ∷ 0xFE ∷ 0x7E ∷ [])) ≡ outside 4
  other_length : definition_fields (named (0x02 ∷ 0x05 ∷ [])) ≡ outside 5
  no_length : definition_fields (named (0x06 ∷ 0x00 ∷ [])) ≡ outside 5
  long-key : definition_fields (named (0x06 ∷ 0x41 ∷ [])) ≡ outside 5
  -- data types 2^19 - 1 and 2^19
  all_types : definition_fields (named (0x02 ∷ 0x04 ∷ 0xFF ∷ 0xF0 ∷ 0xFE ∷ 0x00 ∷ [])) ≡ got (defines (2 ^ 19 - 1) no_times) 10
  more-types : definition_fields (named (0x02 ∷ 0x04 ∷ 0xF0 ∷ 0xF1 ∷ 0xFE ∷ 0x00 ∷ [])) ≡ outside 6

definition-examples : DefinitionExamples
unfolding definition_fields rest_fields named_fields name_field plain_name is_plain every among span_in shape_fields is_key_type times_fields times_there period_field pair_field for_each tested integer between integer_of bytes read_int read_first with_later later_bytes before weighted fitting key_kind key_length_ok data_types_ok present rate_types
definition-examples = record {
  whole = refl;
  behind = refl;
  without-expiry = refl;
  cut-id = refl;
  cut-length = refl;
  cut-name = refl;
  cut-key-type = refl;
  cut-key-length = refl;
  cut-types = refl;
  cut-expiry = refl;
  rates = refl;
  cut-number = refl;
  cut-period = refl;
  other-number = refl;
  no_name = refl;
  long-name = refl;
  plain-name = refl;
  cut-line-feed = refl;
  line-feed = refl;
  line-feed-first = refl;
  long-line-feed = refl;
  key-type-0 = refl;
  key-type-1 = refl;
  key-type-3 = refl;
  key-type-8 = refl;
  large-key-type = refl;
  other_length = refl;
  no_length = refl;
  long-key = refl;
  all_types = refl;
  more-types = refl;
}

-- ---- switch and acknowledgement

record OtherExamples : Type 0 where
  -- IDs 2^32 - 1 and 2^32
  switch : switch_fields (0xFF ∷ 0xF0 ∷ 0xFE ∷ 0xFE ∷ 0x7E ∷ []) ≡ got (2 ^ 32 - 1) 5
  switch-over : switch_fields (0xF0 ∷ 0xF1 ∷ 0xFE ∷ 0xFE ∷ 0x7E ∷ []) ≡ outside 0
  switch-cut : switch_fields (0xF0 ∷ 0xF1 ∷ 0xFE ∷ 0xFE ∷ []) ≡ short 0
  acknowledgement : acknowledgement_fields (0x01 ∷ 0xFF ∷ 0xFF ∷ 0xFF ∷ 0xFF ∷ []) ≡ got (record { id = 1; update = 4294967295 }) 5
  acknowledgement-cut : acknowledgement_fields (0x01 ∷ 0xFF ∷ 0xFF ∷ 0xFF ∷ []) ≡ short 1

other-examples : OtherExamples
unfolding switch_fields acknowledgement_fields tested integer integer_of number4 number_read read_int read_first with_later later_bytes before weighted fitting read_number number_of
other-examples = record { switch = refl; switch-over = refl; switch-cut = refl; acknowledgement = refl; acknowledgement-cut = refl }

-- ---- update

-- a table with this key type, key length and data types
abbrev table : ℕ → ℕ → ℕ → Table
table key_type key_length types = record {
  held = 1;
  key_type = key_type;
  timed = 0;
  data_types = types;
  name_len = 1;
  key_len = key_length;
  expiry = 0;
  periods = replicate 8 0;
  name = replicate 32 0x74;
}

-- a table with an expiry of 60000 milliseconds
abbrev expiring : ℕ → ℕ → ℕ → Table
expiring key_type key_length types = record {
  held = 1;
  key_type = key_type;
  timed = 1;
  data_types = types;
  name_len = 1;
  key_len = key_length;
  expiry = 60000;
  periods = replicate 8 0;
  name = replicate 32 0x74;
}

-- types 128, 129, 133 and 134
abbrev form128 : Form
form128 = record { explicit = true; timed = false }

abbrev form129 : Form
form129 = record { explicit = false; timed = false }

abbrev form133 : Form
form133 = record { explicit = true; timed = true }

abbrev form134 : Form
form134 = record { explicit = false; timed = true }

-- 128 and 129 are untimed updates, 133 and 134 timed ones; 127, 130 to 132 and 135 are no updates
forms : map form_of (127 ∷ 128 ∷ 129 ∷ 130 ∷ 131 ∷ 132 ∷ 133 ∷ 134 ∷ 135 ∷ [])
    ≡ none ∷ some form128 ∷ some form129 ∷ none ∷ none ∷ none ∷ some form133 ∷ some form134 ∷ none ∷ []
unfolding form_of
forms = refl

-- "The listing": `FF FF FF FF 00 00 00 2A F4 94 01`
abbrev update : List ℕ
update = 0xFF ∷ 0xFF ∷ 0xFF ∷ 0xFF ∷ 0x00 ∷ 0x00 ∷ 0x00 ∷ 0x2A ∷ 0xF4 ∷ 0x94 ∷ 0x01 ∷ []

abbrev lasting : ℕ → ℕ → ℕ → ℕ → ℕ → ℤ → List ℕ → Update
lasting mark remaining id start len server values = record {
  id = id;
  time = record { timed = mark; remaining = remaining };
  key = record { start = start; len = len };
  server = server;
  values = values;
}

-- without a remaining time
abbrev updates : ℕ → ℕ → ℕ → ℤ → List ℕ → Update
updates = lasting 0 0

-- the ID 4294967295, the remaining time 4660, the key 42 and the value 5
abbrev timed_update : List ℕ
timed_update = 0xFF ∷ 0xFF ∷ 0xFF ∷ 0xFF ∷ 0x00 ∷ 0x00 ∷ 0x12 ∷ 0x34 ∷ 0x00 ∷ 0x00 ∷ 0x00 ∷ 0x2A ∷ 0x05 ∷ []

-- the key 42, and what follows
abbrev keyed : List ℕ → List ℕ
keyed rest = 0x00 ∷ 0x00 ∷ 0x00 ∷ 0x2A ∷ rest

-- 2^64 - 1, and server ID -1
abbrev largest : List ℕ
largest = 0xFF ∷ 0xF0 ∷ 0xFE ∷ 0xFE ∷ 0xFE ∷ 0xFE ∷ 0xFE ∷ 0xFE ∷ 0xFE ∷ 0x0E ∷ []

record UpdateExamples : Type 0 where
  whole : update_fields form128 (table 2 4 4) 0 update ≡ got (updates 4294967295 4 4 (pos 0) (0 ∷ 4660 ∷ replicate 32 0)) 11
  behind : update_fields form128 (table 2 4 4) 0 (update ++ (0xFF ∷ [])) ≡ got (updates 4294967295 4 4 (pos 0) (0 ∷ 4660 ∷ replicate 32 0)) 11
  incremental : update_fields form129 (table 2 4 4) 0 (keyed (0x05 ∷ [])) ≡ got (updates 0 0 4 (pos 0) (0 ∷ 5 ∷ replicate 32 0)) 5
  -- cut inside ID, key and value
  cut-id : update_fields form128 (table 2 4 4) 0 (take 3 update) ≡ short 0
  cut-key : update_fields form128 (table 2 4 4) 0 (take 7 update) ≡ short 4
  cut-value : update_fields form128 (table 2 4 4) 0 (take 10 update) ≡ short 8
  -- "an untimed update takes the table's expiry"
  expiry : update_fields form129 (expiring 2 4 4) 0 (keyed (0x05 ∷ [])) ≡ got (lasting 1 60000 0 0 4 (pos 0) (0 ∷ 5 ∷ replicate 32 0)) 5
  -- a timed one has its own, "after the update ID (133), or first (134)"; 0 is one
  timed-explicit : update_fields form133 (expiring 2 4 4) 0 timed_update
      ≡ got (lasting 1 4660 4294967295 8 4 (pos 0) (0 ∷ 5 ∷ replicate 32 0)) 13
  timed-incremental : update_fields form134 (table 2 4 4) 7 (drop 4 timed_update)
      ≡ got (lasting 1 4660 7 4 4 (pos 0) (0 ∷ 5 ∷ replicate 32 0)) 9
  no-time-left : update_fields form134 (table 2 4 4) 7 (0x00 ∷ 0x00 ∷ 0x00 ∷ 0x00 ∷ keyed (0x05 ∷ []))
      ≡ got (lasting 1 0 7 4 4 (pos 0) (0 ∷ 5 ∷ replicate 32 0)) 9
  -- "23 when cut short", with the offset 4 or 0
  cut-timed-id : update_fields form133 (table 2 4 4) 0 (take 3 timed_update) ≡ short 0
  cut-time : update_fields form133 (table 2 4 4) 0 (take 7 timed_update) ≡ short 4
  cut-time-first : update_fields form134 (table 2 4 4) 7 (take 3 (drop 4 timed_update)) ≡ short 0
  cut-timed-key : update_fields form133 (table 2 4 4) 0 (take 11 timed_update) ≡ short 8
  -- rate type 3 is three integers
  rate : update_fields form129 (table 2 4 8) 0 (keyed (0x07 ∷ 0x08 ∷ 0x09 ∷ []))
      ≡ got (updates 0 0 4 (pos 0) (0 ∷ 0 ∷ 7 ∷ 8 ∷ 9 ∷ replicate 29 0)) 7
  cut-rate : update_fields form129 (table 2 4 8) 0 (keyed (0x07 ∷ 0x08 ∷ [])) ≡ short 6
  -- types 13 and 15 take 64 bits, type 1 takes 32
  bytes-in : update_fields form129 (table 2 4 (2 ^ 13)) 0 (keyed largest)
      ≡ got (updates 0 0 4 (pos 0) (replicate 22 0 ++ ((2 ^ 64 - 1) ∷ replicate 11 0))) 14
  bytes-out : update_fields form129 (table 2 4 (2 ^ 15)) 0 (keyed largest)
      ≡ got (updates 0 0 4 (pos 0) (replicate 26 0 ++ ((2 ^ 64 - 1) ∷ replicate 7 0))) 14
  over : update_fields form129 (table 2 4 2) 0 (keyed largest) ≡ outside 4
  server : update_fields form129 (table 2 4 1) 0 (keyed largest) ≡ got (updates 0 0 4 (negsuc 0) (replicate 34 0)) 14
  cut-server : update_fields form129 (table 2 4 1) 0 (keyed []) ≡ short 4
  -- a string of 0 to 2 bytes
  empty : update_fields form129 (table 6 2 0) 0 (0x00 ∷ []) ≡ got (updates 0 1 0 (pos 0) (replicate 34 0)) 1
  string : update_fields form129 (table 6 2 0) 0 (0x02 ∷ 0x61 ∷ 0x62 ∷ []) ≡ got (updates 0 1 2 (pos 0) (replicate 34 0)) 3
  long-string : update_fields form129 (table 6 2 0) 0 (0x03 ∷ []) ≡ outside 0
  cut-string : update_fields form129 (table 6 2 0) 0 (0x02 ∷ 0x61 ∷ []) ≡ short 1

update-examples : UpdateExamples
unfolding update_fields number_or time_mark timed_fields entry_fields key_field string_field data_fields server_field slot_field for_each tested integer between integer_of bytes number4 number_read server_id field_read read_int read_first with_later later_bytes before weighted fitting read_number number_of read_server_id server_of server_before server_id_of key_kind present is_rate is_wide among width_of integers_of slots_for slot_types rate_types
update-examples = record {
  whole = refl;
  behind = refl;
  incremental = refl;
  cut-id = refl;
  cut-key = refl;
  cut-value = refl;
  expiry = refl;
  timed-explicit = refl;
  timed-incremental = refl;
  no-time-left = refl;
  cut-timed-id = refl;
  cut-time = refl;
  cut-time-first = refl;
  cut-timed-key = refl;
  rate = refl;
  cut-rate = refl;
  bytes-in = refl;
  bytes-out = refl;
  over = refl;
  server = refl;
  cut-server = refl;
  empty = refl;
  string = refl;
  long-string = refl;
  cut-string = refl;
}

-- ---- encodings

-- server ID -2^31, whose word is 2^64 - 2^31
abbrev least : List ℕ
least = 0xF0 ∷ 0xF1 ∷ 0xFE ∷ 0xFE ∷ 0xBE ∷ 0xFE ∷ 0xFE ∷ 0xFE ∷ 0xFE ∷ 0x0E ∷ []

-- an entry with a key of so many bytes and 4660 milliseconds remaining
abbrev entry : ℕ → List ℕ → ℤ → List ℕ → Entry
entry len key server values = record {
  held = 1;
  server_id = server;
  timed = 1;
  remaining = 4660;
  table = 0;
  key_len = len;
  key = key;
  values = values;
}

-- the key 42
abbrev entry42 : ℤ → List ℕ → Entry
entry42 = entry 4 (0x00 ∷ 0x00 ∷ 0x00 ∷ 0x2A ∷ replicate 60 0)

-- a string `ab`
abbrev entry_ab : List ℕ → Entry
entry_ab = entry 2 (0x61 ∷ 0x62 ∷ replicate 62 0) (pos 0)

-- the table `t1` with integer keys
abbrev table_t1 : ℕ → ℕ → ℕ → List ℕ → Table
table_t1 types timed expiry periods = record {
  held = 1;
  key_type = 2;
  timed = timed;
  data_types = types;
  name_len = 2;
  key_len = 4;
  expiry = expiry;
  periods = periods;
  name = 0x74 ∷ 0x31 ∷ replicate 30 0;
}

record EncodingExamples : Type 0 where
  -- "The listing", with the key type of request 1: `0A 82 0A 01 02 74 31 02 04 04 F0 97 1C`, `0A 80 0B FF FF FF FF 00 00 00 2A F4 94 01`, `0A 81 05 00 00 00 2A 05`
  definition : message_bytes 130 (definition_bytes 1 (table_t1 4 1 60000 (replicate 8 0))) ≡ 0x0A ∷ 0x82 ∷ 0x0A ∷ listed
  update : message_bytes 128 (update_bytes form128 (table 2 4 4) 4294967295 (entry42 (pos 0) (0 ∷ 4660 ∷ replicate 32 0))) ≡ 0x0A ∷ 0x80 ∷ 0x0B ∷ update
  incremental : message_bytes 129 (update_bytes form129 (table 2 4 4) 0 (entry42 (pos 0) (0 ∷ 5 ∷ replicate 32 0))) ≡ 0x0A ∷ 0x81 ∷ 0x05 ∷ keyed (0x05 ∷ [])
  timed-update : update_bytes form133 (table 2 4 4) 4294967295 (entry42 (pos 0) (0 ∷ 5 ∷ replicate 32 0)) ≡ timed_update
  timed-incremental : update_bytes form134 (table 2 4 4) 0 (entry42 (pos 0) (0 ∷ 5 ∷ replicate 32 0)) ≡ drop 4 timed_update
  -- without expiry; with rate types 3 and 5, and periods 10 and 11
  no-times : definition_bytes 1 (table_t1 4 0 0 (replicate 8 0)) ≡ take 7 listed
  rates : definition_bytes 1 (table_t1 0x28 1 7 (10 ∷ 11 ∷ replicate 6 0)) ≡ named (0x02 ∷ 0x04 ∷ 0x28 ∷ 0x07 ∷ 0x03 ∷ 0x0A ∷ 0x05 ∷ 0x0B ∷ [])
  -- data types 0, 1 and 3: server ID -1, one integer, three integers
  server : update_bytes form129 (table 2 4 0x0B) 0 (entry42 (negsuc 0) (6 ∷ 0 ∷ 7 ∷ 8 ∷ 9 ∷ replicate 29 0))
      ≡ keyed (largest ++ (0x06 ∷ 0x07 ∷ 0x08 ∷ 0x09 ∷ []))
  -- the second integer of data type 3 is in slot 3
  start : slot_start (table 2 4 0x0B) (entry42 (negsuc 0) (6 ∷ 0 ∷ 7 ∷ 8 ∷ 9 ∷ replicate 29 0)) 3 ≡ 16
  -- the server ID stands behind the key
  server-start : server_start (table 2 4 0x0B) (entry42 (negsuc 0) (6 ∷ 0 ∷ 7 ∷ 8 ∷ 9 ∷ replicate 29 0)) ≡ 4
  -- a body of 239 bytes stands behind class, type and one byte of length, one of 240 bytes behind two bytes of length
  body-start : body_start (replicate 239 0) ≡ 3
  long-body : body_start (replicate 240 0) ≡ 4
  -- server ID -2^31
  least-server : update_bytes form129 (table 2 4 1) 0 (entry42 (negsuc (2 ^ 31 - 1)) (replicate 34 0)) ≡ keyed least
  -- the last slot, 33, is the previous count of data type 18
  last-slot : update_bytes form129 (table 2 4 (2 ^ 18)) 0 (entry42 (pos 0) (replicate 31 0 ++ (7 ∷ 8 ∷ 9 ∷ []))) ≡ keyed (0x07 ∷ 0x08 ∷ 0x09 ∷ [])
  last-start : slot_start (table 2 4 (2 ^ 18)) (entry42 (pos 0) (replicate 31 0 ++ (7 ∷ 8 ∷ 9 ∷ []))) 33 ≡ 6
  -- types 13 and 15 take 64 bits
  bytes-in : update_bytes form129 (table 2 4 (2 ^ 13)) 0 (entry42 (pos 0) (replicate 22 0 ++ ((2 ^ 64 - 1) ∷ replicate 11 0))) ≡ keyed largest
  bytes-out : update_bytes form129 (table 2 4 (2 ^ 15)) 0 (entry42 (pos 0) (replicate 26 0 ++ ((2 ^ 64 - 1) ∷ replicate 7 0))) ≡ keyed largest
  -- a string of 2 bytes, and of none
  string : update_bytes form129 (table 6 2 2) 0 (entry_ab (300 ∷ replicate 33 0)) ≡ 0x02 ∷ 0x61 ∷ 0x62 ∷ 0xFC ∷ 0x03 ∷ []
  empty : update_bytes form129 (table 6 2 2) 0 (entry 0 (replicate 64 0) (pos 0) (5 ∷ replicate 33 0)) ≡ 0x00 ∷ 0x05 ∷ []
  -- the IPv6 key ::1, and a binary key of 3 bytes
  address : update_bytes form129 (table 5 16 2) 0 (entry 16 (replicate 15 0 ++ (1 ∷ replicate 48 0)) (pos 0) (5 ∷ replicate 33 0))
      ≡ replicate 15 0 ++ (0x01 ∷ 0x05 ∷ [])
  binary : update_bytes form129 (table 7 3 2) 0 (entry 3 (0xFF ∷ 0x00 ∷ 0xFE ∷ replicate 61 0) (pos 0) (5 ∷ replicate 33 0))
      ≡ 0xFF ∷ 0x00 ∷ 0xFE ∷ 0x05 ∷ []

encoding-examples : EncodingExamples
unfolding message_bytes body_start each_bytes key_bytes server_bytes value_bytes data_bytes entry_bytes number_if update_bytes server_start slot_start period_bytes times_bytes definition_bytes name_of key_of encode_int encode_rest encode_number server_word key_kind present is_rate among integers_of slots_for slot_types rate_types
encoding-examples = record {
  definition = refl;
  update = refl;
  incremental = refl;
  timed-update = refl;
  timed-incremental = refl;
  no-times = refl;
  rates = refl;
  server = refl;
  start = refl;
  server-start = refl;
  body-start = refl;
  long-body = refl;
  least-server = refl;
  last-slot = refl;
  last-start = refl;
  bytes-in = refl;
  bytes-out = refl;
  string = refl;
  empty = refl;
  address = refl;
  binary = refl;
}
