-- The bytes that stand for an update or a definition, in wire order.
use Rattle.std.specs.Prelude.{ℕ, ◌+◌, List, [], ◌∷◌, ◌++◌, Bool, cond, length, take, eqb, ℤ}
use Rattle.wire.specs.Integer.{encode_int}
use Rattle.wire.specs.Number.{encode_number}
use Rattle.wire.specs.Server.{server_word}
use Rattle.frame.specs.Frame.{stick_table_class}
use Rattle.store.specs.declared.Table.{Table}
use Rattle.store.specs.declared.Entry.{Entry}
use Rattle.store.specs.Limits.{key_kind, is_string, present, slot_types, rate_types}
use Rattle.store.specs.Store.{name_of, key_of}
use Rattle.body.specs.declared.update.Form.{Form}

-- "Class 10 continues with the encoded body length, .. then the body"
unfoldable pub message_bytes : ℕ → List ℕ → List ℕ
message_bytes type body = stick_table_class ∷ type ∷ encode_int (length body) ++ body

-- the position in its message at which this body starts: behind class, type and encoded body length
unfoldable pub body_start : List ℕ → ℕ
body_start body = 2 + length (encode_int (length body))

-- the bytes of a value for each of the types ts, in their order, as far as both lists go
unfoldable pub each_bytes : (ℕ → ℕ → List ℕ) → List ℕ → List ℕ → List ℕ
each_bytes encode [] [] = []
each_bytes encode [] (v ∷ vs) = []
each_bytes encode (t ∷ ts) [] = []
each_bytes encode (t ∷ ts) (v ∷ vs) = encode t v ++ each_bytes encode ts vs

-- ---- update

-- "Key: string: encoded length (0 up to the key length), bytes; else exactly key-length bytes." The length of the
-- key isn't tested here.
unfoldable pub key_bytes : ℕ → List ℕ → List ℕ
key_bytes key_type key = cond (is_string (key_kind key_type)) (encode_int (length key) ++ key) key

-- "Type 0, the server ID, is signed 32-bit: a negative one is encoded as its value plus 2^64." No bytes where that type isn't present.
unfoldable pub server_bytes : ℕ → ℤ → List ℕ
server_bytes types id = cond (present types 0) (encode_int (server_word id)) []

-- an integer of data type t; no bytes where that type isn't present
unfoldable pub value_bytes : ℕ → ℕ → ℕ → List ℕ
value_bytes types t value = cond (present types t) (encode_int value) []

-- "Data: values in bit order. Rate types .. are three integers": an integer for each slot, behind the server ID
unfoldable pub data_bytes : ℕ → ℤ → List ℕ → List ℕ
data_bytes types id values = server_bytes types id ++ each_bytes (value_bytes types) slot_types values

-- key and data of an entry
unfoldable pub entry_bytes : Table → Entry → List ℕ
entry_bytes t e = key_bytes t.key_type (key_of e) ++ data_bytes t.data_types e.server_id e.values

-- four bytes of a number, where the update has it
unfoldable pub number_if : Bool → ℕ → List ℕ
number_if there n = cond there (encode_number n) []

-- "Update: 4-byte big-endian update ID, key, data. Incremental has no ID"; request 2: "a 4-byte big-endian remaining time in milliseconds after
-- the update ID (133), or first (134)"
unfoldable pub update_bytes : Form → Table → ℕ → Entry → List ℕ
update_bytes form t id e = number_if form.explicit id ++ (number_if form.timed e.remaining ++ entry_bytes t e)

-- how many bytes stand before key and data
unfoldable pub entry_start : Form → ℕ
entry_start form = cond form.explicit 4 0 + cond form.timed 4 0

-- the position in an entry's bytes at which the server ID starts: behind the key
unfoldable pub server_start : Table → Entry → ℕ
server_start t e = length (key_bytes t.key_type (key_of e))

-- the position in an entry's bytes at which the integer of slot i starts: behind the key, the server ID and the integers before it
unfoldable pub slot_start : Table → Entry → ℕ → ℕ
slot_start t e i =
    length (key_bytes t.key_type (key_of e))
    + (length (server_bytes t.data_types e.server_id)
    + length (each_bytes (value_bytes t.data_types) (take i slot_types) (take i e.values)))

-- ---- definition

-- the first part of a definition: the ID, and the name behind its length
abbrev pub name_bytes : ℕ → Table → List ℕ
name_bytes id t = encode_int id ++ (encode_int (length (name_of t)) ++ name_of t)

-- the second: key type, key length and data types
abbrev pub shape_bytes : Table → List ℕ
shape_bytes t = encode_int t.key_type ++ (encode_int t.key_len ++ encode_int t.data_types)

-- "a pair (data type number, period) for each rate type present, ascending"; no bytes where rate type t isn't present
unfoldable pub period_bytes : ℕ → ℕ → ℕ → List ℕ
period_bytes types t period = cond (present types t) (encode_int t ++ encode_int period) []

-- ".. and then, unless the body ends there, expiry and a pair .."
unfoldable pub times_bytes : Table → List ℕ
times_bytes t = cond (eqb t.timed 1) (encode_int t.expiry ++ each_bytes (period_bytes t.data_types) rate_types t.periods) []

-- "Definition: encoded sender's table ID, name length (1 to 32), name, key type, key length, data types, and then, .."
unfoldable pub definition_bytes : ℕ → Table → List ℕ
definition_bytes id t =
    encode_int id
    ++ encode_int (length (name_of t))
    ++ name_of t
    ++ encode_int t.key_type
    ++ encode_int t.key_len
    ++ encode_int t.data_types
    ++ times_bytes t
