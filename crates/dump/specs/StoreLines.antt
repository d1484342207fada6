-- The lines in which `replay` shows tables, counts and entries.
use Rattle.std.specs.Prelude.{ℕ, List, [], ◌∷◌, ◌++◌, map, cond, eqb, ℤ, pos}
use Rattle.handshake.specs.Bytes.{ascii, decimal}
use Rattle.store.specs.declared.Table.{Table}
use Rattle.store.specs.declared.Entry.{Entry}
use Rattle.store.specs.Limits.{present, slot_types, rate_types}
use Rattle.store.specs.Store.{table_held, entry_held, name_of, key_of}
use Rattle.text.specs.Text.{hex, hex_or_none, signed, line}

-- of a list with an element for each of the data types ts, those whose data type is present
module _ {A : Type 0} where
  unfoldable pub present_among : ℕ → List ℕ → List A → List A
  present_among types [] vs = []
  present_among types (t ∷ ts) [] = []
  present_among types (t ∷ ts) (v ∷ vs) = cond (present types t) (v ∷ present_among types ts vs) (present_among types ts vs)

-- "values in bit order": the server ID signed, then the other integers
unfoldable pub values_of : ℕ → Entry → List ℤ
values_of types e = present_among types (0 ∷ []) (e.server_id ∷ []) ++ map pos (present_among types slot_types e.values)

-- the periods of the rate types present, ascending
unfoldable pub periods_of : Table → List ℕ
periods_of t = present_among t.data_types rate_types t.periods

-- the expiry and the periods of the rate types present, or `-` where the table has none
unfoldable pub times_words : Table → List (List ℕ)
times_words t = cond (eqb t.timed 1) (decimal t.expiry ∷ map decimal (periods_of t)) (ascii "-" ∷ [])

-- `table P NAMEHEX KEYTYPE KEYLEN DATATYPES` and its times; a free place has no line
unfoldable pub table_line : ℕ → Table → List ℕ
table_line place t =
    cond (table_held t)
    (line (ascii "table")
    (decimal place ∷ hex (name_of t) ∷ decimal t.key_type ∷ decimal t.key_len ∷ decimal t.data_types ∷ times_words t))
    []

-- request 9: `counts` and the number of entries of each table place, of a free one too
unfoldable pub counts_line : List ℕ → List ℕ
counts_line counts = line (ascii "counts") (map decimal counts)

-- the remaining time: `T` and the milliseconds, `-` where the entry has none
unfoldable pub time_word : Entry → List ℕ
time_word e = cond (eqb e.timed 1) (ascii "T" ++ decimal e.remaining) (ascii "-")

-- `entry P TABLE KEYHEX TIME` and its values in bit order, for the data types of its table; a free place has no line
unfoldable pub entry_line : ℕ → ℕ → Entry → List ℕ
entry_line place types e =
    cond (entry_held e)
    (line (ascii "entry") (decimal place ∷ decimal e.table ∷ hex_or_none (key_of e) ∷ time_word e ∷ map signed (values_of types e)))
    []
