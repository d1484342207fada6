-- The layout and the tests at worked examples.
use Rattle.std.specs.Prelude.{◌≡◌, ℕ, ◌+◌, ◌^◌, true, false, List, [], ◌∷◌, map, replicate, pos, slice_index, slice_index_or, refl, None, Some}
use Rattle.lists.specs.Lists.{all_of, every, among}
use Rattle.store.specs.declared.Table.{Table}
use Rattle.store.specs.declared.Entry.{Entry}
use Rattle.store.specs.declared.types.KeyKind.TheVariants.{Integer, Ipv4, Ipv6, Str, Binary}
use Rattle.store.specs.Limits.{is_plain, plain_name, slot_types, slots_for, integers_of, is_rate, rate_types, key_length_ok, key_kind, data_types_ok}
use Rattle.store.specs.Store.{table_held, entry_held, name_of}
use Rattle.store.specs.Sound.{name_length_ok, name_plain, key_type_ok, table_key_length_ok, table_types_ok, timed_ok, sound_table, entry_table_ok, entry_timed_ok, entry_key_length_ok, key_rest_zero, slots_ok, values_ok, sound_entry}

-- bytes out, type 15, stands at slot 26, after the rate of bytes in, type 14
bytes-out : slice_index_or slot_types 25 0 ∷ slice_index slot_types 26 ∷ [] ≡ 14 ∷ 15 ∷ []
unfolding slot_types slots_for integers_of is_rate rate_types among
bytes-out = refl

-- each side of the known numbers
kinds : key_kind 0 ∷ key_kind 1 ∷ key_kind 2 ∷ key_kind 3 ∷ key_kind 4 ∷ key_kind 5 ∷ key_kind 6 ∷ key_kind 7 ∷ key_kind 8 ∷ key_kind (2 ^ 32 + 2) ∷ []
    ≡ None ∷ None ∷ (Some Integer) ∷ None ∷ (Some Ipv4) ∷ (Some Ipv6) ∷ (Some Str) ∷ (Some Binary) ∷ None ∷ None ∷ []
unfolding key_kind
kinds = refl

key-lengths : key_length_ok 2 4 ∷ key_length_ok 2 5 ∷ key_length_ok 4 16 ∷ key_length_ok 5 16 ∷ key_length_ok 6 64 ∷ key_length_ok 6 65 ∷ key_length_ok 7 0 ∷ key_length_ok 0 4 ∷ []
    ≡ true ∷ false ∷ false ∷ true ∷ true ∷ false ∷ false ∷ false ∷ []
unfolding key_length_ok key_kind
key-lengths = refl

-- the bytes at each side of `-` to `:`, `A` to `Z`, `_` and `a` to `z`; a line feed, a space and a byte from 128 up
plain-bytes : map is_plain (45 ∷ 58 ∷ 65 ∷ 90 ∷ 95 ∷ 97 ∷ 122 ∷ []) ≡ replicate 7 true
unfolding is_plain among
plain-bytes = refl

other-bytes : map is_plain (10 ∷ 32 ∷ 44 ∷ 59 ∷ 64 ∷ 91 ∷ 94 ∷ 96 ∷ 123 ∷ 228 ∷ []) ≡ replicate 10 false
unfolding is_plain among
other-bytes = refl

-- a held table, of whose name's array n bytes are the name
abbrev named : ℕ → List ℕ → Table
named n bytes = record {
  held = 1;
  key_type = 2;
  timed = 0;
  data_types = 4;
  name_len = n;
  key_len = 4;
  expiry = 0;
  periods = replicate 8 0;
  name = bytes;
}

-- the name `t1`; a line feed in the name; a line feed past the length
names : sound_table (named 2 (116 ∷ 49 ∷ [])) ∷ sound_table (named 2 (116 ∷ 10 ∷ [])) ∷ sound_table (named 1 (116 ∷ 10 ∷ [])) ∷ []
    ≡ true ∷ false ∷ true ∷ []
unfolding sound_table all_of table_held name_length_ok name_plain plain_name every is_plain among name_of key_type_ok table_key_length_ok key_length_ok key_kind table_types_ok data_types_ok timed_ok
names = refl

-- a held entry of such a table, with this mark of a time and this number
abbrev marked : ℕ → ℕ → Entry
marked mark n = record {
  held = 1;
  server_id = pos 0;
  timed = mark;
  remaining = n;
  table = 0;
  key_len = 4;
  key = replicate 64 0;
  values = [];
}

-- a time; a time of 0; none, with a number that isn't looked at; a mark of 2
marks : map (sound_entry (named 2 (116 ∷ 49 ∷ []) ∷ [])) (marked 1 60000 ∷ marked 1 0 ∷ marked 0 5 ∷ marked 2 0 ∷ []) ≡ true ∷ true ∷ true ∷ false ∷ []
unfolding sound_entry all_of entry_held entry_table_ok table_held entry_timed_ok entry_key_length_ok key_kind key_rest_zero every values_ok slots_ok slot_types slots_for integers_of is_rate rate_types among
marks = refl
