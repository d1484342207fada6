-- A whole store's messages, computed: document 01's listing, with a second entry.
use Rattle.std.specs.Prelude.{◌≡◌, refl, replicate, pos, ◌+◌, ◌-◌, ◌%◌, ◌^◌}
use mathlib.Core.List.{List, [], ◌∷◌, flatten}
use Rattle.wire.specs.Integer.{encode_int, encode_rest}
use Rattle.wire.specs.Number.{encode_number}
use Rattle.wire.specs.Server.{server_word}
use Rattle.lists.specs.Lists.{among}
use Rattle.store.specs.declared.Table.{Table}
use Rattle.store.specs.declared.Entry.{Entry}
use Rattle.store.specs.declared.Store.{Store}
use Rattle.store.specs.Limits.{key_kind, present, is_rate, rate_types, integers_of, slots_for, slot_types}
use Rattle.store.specs.Store.{table_held, entry_held, owned_by, name_of, key_of}
use Rattle.body.specs.Encodings.{message_bytes, definition_bytes, times_bytes, period_bytes, each_bytes, update_bytes, number_if, entry_bytes, key_bytes, data_bytes, server_bytes, value_bytes}
use Rattle.message.specs.Effects.{acknowledge, following_id}
use Rattle.sending.specs.Sending.{follows, form_for, type_of, message_for, definition_message, entry_message}
use Rattle.teaching.specs.Teaching.{TableIds, places_from, asked_entries, asked_for, messages_for, acknowledgements_for, ids_from, ids_by}

-- the listing's table `t1`, and entries of it with the keys 42 and 43 and the values 4660 and 5; the second has 10000 milliseconds left
abbrev t1 : Table
t1 = record {
  held = 1;
  key_type = 2;
  timed = 1;
  data_types = 4;
  name_len = 2;
  key_len = 4;
  expiry = 60000;
  periods = replicate 8 0;
  name = 0x74 ∷ 0x31 ∷ [];
}

abbrev first : Entry
first = record {
  held = 1;
  server_id = pos 0;
  timed = 0;
  remaining = 0;
  table = 0;
  key_len = 4;
  key = 0x00 ∷ 0x00 ∷ 0x00 ∷ 0x2A ∷ [];
  values = 0 ∷ 4660 ∷ replicate 32 0;
}

abbrev second : Entry
second = record {
  held = 1;
  server_id = pos 0;
  timed = 1;
  remaining = 10000;
  table = 0;
  key_len = 4;
  key = 0x00 ∷ 0x00 ∷ 0x00 ∷ 0x2B ∷ [];
  values = 0 ∷ 5 ∷ replicate 32 0;
}

abbrev listed : Store
listed = record { tables = t1 ∷ []; counts = 2 ∷ []; entries = first ∷ second ∷ [] }

-- table ID 1, update IDs 4294967295 and, of the entry at place 1, 0
abbrev ids : List TableIds
ids = record { table = 0; id = 1; updates = 4294967295 ∷ 0 ∷ [] } ∷ []

-- "0A 82 0A 01 02 74 31 .. 04 04 F0 97 1C", with request 1's key type, and "0A 80 0B FF FF FF FF 00 00 00 2A F4 94 01"; then a timed incremental
-- update, since 0 follows 4294967295
messages : messages_for listed (record { defined = 0; sent = 0; last = 0 }) (asked_for listed ids)
    ≡ (0x0A ∷ 0x82 ∷ 0x0A ∷ 0x01 ∷ 0x02 ∷ 0x74 ∷ 0x31 ∷ 0x02 ∷ 0x04 ∷ 0x04 ∷ 0xF0 ∷ 0x97 ∷ 0x1C ∷ [])
    ∷ (0x0A ∷ 0x80 ∷ 0x0B ∷ 0xFF ∷ 0xFF ∷ 0xFF ∷ 0xFF ∷ 0x00 ∷ 0x00 ∷ 0x00 ∷ 0x2A ∷ 0xF4 ∷ 0x94 ∷ 0x01 ∷ [])
    ∷ (0x0A ∷ 0x86 ∷ 0x09 ∷ 0x00 ∷ 0x00 ∷ 0x27 ∷ 0x10 ∷ 0x00 ∷ 0x00 ∷ 0x00 ∷ 0x2B ∷ 0x05 ∷ [])
    ∷ []
unfolding messages_for asked_for asked_entries places_from owned_by entry_held message_for definition_message entry_message form_for follows following_id type_of message_bytes definition_bytes times_bytes period_bytes each_bytes update_bytes number_if entry_bytes key_bytes data_bytes server_bytes value_bytes name_of key_of key_kind encode_number encode_int encode_rest server_word present slot_types slots_for integers_of is_rate rate_types among
messages = refl

-- "reply 0A8505 01 FFFFFFFF" and "reply 0A8505 01 00000000", where request 2's `84` stands for `85`
replies : acknowledgements_for ids
    ≡ 0x0A ∷ 0x84 ∷ 0x05 ∷ 0x01 ∷ 0xFF ∷ 0xFF ∷ 0xFF ∷ 0xFF ∷ 0x0A ∷ 0x84 ∷ 0x05 ∷ 0x01 ∷ 0x00 ∷ 0x00 ∷ 0x00 ∷ 0x00 ∷ []
unfolding acknowledgements_for flatten acknowledge encode_int encode_number
replies = refl

-- the same IDs by functions of the places
by-places : ids_by (λ table. table + 1) (λ place. (place + 2 ^ 32 - 1) % 2 ^ 32) listed ≡ ids
unfolding ids_from table_held places_from owned_by entry_held
by-places = refl
