-- The numbers of document 01, and of requests 1 and 8 of document 02, that concern tables and entries, and the layout of an entry's values.
use Rattle.std.specs.Prelude.{ℕ, ◌/◌, ◌%◌, ◌^◌, Bool, true, false, cond, ◌&&◌, ◌||◌, List, [], ◌∷◌, ◌++◌, replicate, ◌==◌, nat_le, nat_lt, None, Option, Some}
use Rattle.lists.specs.Lists.{every, among}
use Rattle.store.specs.declared.types.KeyKind.{KeyKind}
use Rattle.store.specs.declared.types.KeyKind.TheVariants.{Integer, Ipv4, Ipv6, Str, Binary}

-- "the lowest free of 8 table places"; "The store holds the tables and 128 entries"
abbrev pub table_places : ℕ
table_places = 8

abbrev pub entry_places : ℕ
entry_places = 128

-- "name length (1 to 32)"
abbrev pub name_max : ℕ
name_max = 32

-- "1 to 64 for" strings and binary keys
abbrev pub key_max : ℕ
key_max = 64

-- the rate types, and the integers of an entry's data types but for the server ID: 10 single ones and 8 times 3
abbrev pub rate_count : ℕ
rate_count = 8

abbrev pub value_count : ℕ
value_count = 34

-- ---- names

-- request 8: "only letters, digits, `.`, `_`, `-`, `/` and `:`", as bytes of ASCII: A to Z, a to z, 0 to 9, and these five
unfoldable pub is_plain : ℕ → Bool
is_plain b =
    (nat_le 65 b && nat_le b 90) || ((nat_le 97 b && nat_le b 122) || ((nat_le 48 b && nat_le b 57) || among (46 ∷ 95 ∷ 45 ∷ 47 ∷ 58 ∷ []) b))

unfoldable pub plain_name : List ℕ → Bool
plain_name name = every is_plain name

-- ---- key types

-- request 1: "send 2 for integer, 4 for IPv4, 5 for IPv6, 6 for string and 7 for binary"; "0, 1, 3 and all above 7 are 24"
unfoldable pub key_kind : ℕ → Option KeyKind
key_kind n =
    cond (n == 2) (Some Integer)
    (cond (n == 4) (Some Ipv4)
    (cond (n == 5) (Some Ipv6)
    (cond (n == 6) (Some Str)
    (cond (n == 7) (Some Binary) None))))

-- the number of a kind; 0, which is no key type, where there is none
unfoldable pub key_type_of : Option KeyKind → ℕ
key_type_of (Some Integer) = 2
key_type_of (Some Ipv4) = 4
key_type_of (Some Ipv6) = 5
key_type_of (Some Str) = 6
key_type_of (Some Binary) = 7
key_type_of None = 0

abbrev pub is_known : Option KeyKind → Bool
is_known (Some Integer) = true
is_known (Some Ipv4) = true
is_known (Some Ipv6) = true
is_known (Some Str) = true
is_known (Some Binary) = true
is_known None = false

abbrev pub is_string : Option KeyKind → Bool
is_string (Some Integer) = false
is_string (Some Ipv4) = false
is_string (Some Ipv6) = false
is_string (Some Str) = true
is_string (Some Binary) = false
is_string None = false

-- "Key length is 4 for" integers and IPv4, "16 for" IPv6, "and 1 to 64 for" strings and binary keys, where the longest key has `most` bytes
abbrev pub key_length_fits : ℕ → Option KeyKind → ℕ → Bool
key_length_fits most (Some Integer) n = n == 4
key_length_fits most (Some Ipv4) n = n == 4
key_length_fits most (Some Ipv6) n = n == 16
key_length_fits most (Some Str) n = nat_le 1 n && nat_le n most
key_length_fits most (Some Binary) n = nat_le 1 n && nat_le n most
key_length_fits most None n = false

unfoldable pub key_length_ok : ℕ → ℕ → Bool
key_length_ok key_type n = key_length_fits key_max (key_kind key_type) n

-- ---- data types

-- "Data types are bits 0 to 18"
abbrev pub data_type_count : ℕ
data_type_count = 19

unfoldable pub data_types_ok : ℕ → Bool
data_types_ok types = nat_lt types (2 ^ data_type_count)

-- data type t is present: its bit is set
unfoldable pub present : ℕ → ℕ → Bool
present types t = (types / 2 ^ t) % 2 == 1

-- "Rate types 3, 5, 8, 10, 12, 14, 16, 18": period i of a table is that of the i-th of these, from 0
unfoldable pub rate_types : List ℕ
rate_types = 3 ∷ 5 ∷ 8 ∷ 10 ∷ 12 ∷ 14 ∷ 16 ∷ 18 ∷ []

unfoldable pub is_rate : ℕ → Bool
is_rate t = among rate_types t

-- "Types 13 and 15 (bytes in, bytes out; ..) take 64 bits, all others 32"
unfoldable pub is_wide : ℕ → Bool
is_wide t = among (13 ∷ 15 ∷ []) t

unfoldable pub width_of : ℕ → ℕ
width_of t = cond (is_wide t) 64 32

-- "Rate types .. are three integers: elapsed milliseconds, current count, previous count"; any other type is one
unfoldable pub integers_of : ℕ → ℕ
integers_of t = cond (is_rate t) 3 1

-- the data types of an entry's values in bit order; the server ID, type 0, stands apart from them
abbrev pub value_types : List ℕ
value_types = 1 ∷ 2 ∷ 3 ∷ 4 ∷ 5 ∷ 6 ∷ 7 ∷ 8 ∷ 9 ∷ 10 ∷ 11 ∷ 12 ∷ 13 ∷ 14 ∷ 15 ∷ 16 ∷ 17 ∷ 18 ∷ []

-- a slot for each integer of these types, named by its data type
unfoldable pub slots_for : List ℕ → List ℕ
slots_for [] = []
slots_for (t ∷ ts) = replicate (integers_of t) t ++ slots_for ts

-- the layout of an entry's values: the data type of each of the 34 slots
unfoldable pub slot_types : List ℕ
slot_types = slots_for value_types
