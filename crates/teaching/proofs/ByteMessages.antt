-- Messages are bytes: encoded integers and 4-byte numbers are, and so are names and keys of their shapes.
use Prim.Native.Nat.{ℕ, zero, suc, ◌+◌, ◌-◌, ◌/◌, ◌%◌, ◌<◌}
use native.Mathlib.Omega.{arith}
use mathlib.Core.Path.{◌≡◌, refl}
use mathlib.Core.List.{List, [], ◌∷◌, ◌++◌, flatten}
use mathlib.Core.Bool.{Bool, true, false, cond}
use lib.ListN.{length, get_or}
use lib.Dec.{eqb}
use borrow.Author.Tests.{lt-ltb, le-ltb}
use Rattle.lists.specs.Lists.{every}
use Rattle.lists.proofs.Cases.{by-test, split, lt-or-le, and_first, and_second}
use Rattle.lists.proofs.Every.{every-from}
use Rattle.wire.specs.Integer.{encode_int, encode_rest}
use Rattle.wire.specs.Number.{encode_number}
use Rattle.wire.specs.Server.{server_word}
use Rattle.store.specs.declared.Table.{Table}
use Rattle.store.specs.declared.Entry.{Entry}
use Rattle.store.specs.declared.Store.{Store}
use Rattle.store.specs.Limits.{key_kind, is_string, present, slot_types, rate_types}
use Rattle.store.specs.Store.{entry_held, name_of, key_of}
use Rattle.store.specs.Shape.{Cells, TableShape, EntryShape, StoreShape}
use Rattle.store.specs.Contents.{table_at, entry_at}
use Rattle.session.specs.declared.Sending.{Sending}
use Rattle.body.specs.declared.update.Form.{Form}
use Rattle.body.specs.Encodings.{message_bytes, each_bytes, key_bytes, server_bytes, value_bytes, data_bytes, entry_bytes, number_if, update_bytes, period_bytes, times_bytes, definition_bytes}
use Rattle.streams.proofs.Basics.{every-both, every_append, every_take}
use Rattle.receiver.specs.Model.{is_byte}
use Rattle.sending.specs.Sending.{Asked, definition, entry, is_of, can_send, message_for, definition_message, entry_message, form_for, type_of}
use Rattle.sending.proofs.finish.Ending.{held_place}
use Rattle.teaching.specs.Teaching.{asked_for, messages_for, all_can_send, MessagesAreBytes}
use Rattle.teaching.proofs.CanBeSent.{held-within, all-can-be-sent}

abbrev AreBytes : List ℕ → Type 0
AreBytes bs = every is_byte bs ≡ true

no_bytes : AreBytes []
unfolding every
no_bytes = refl

one_byte : (b : ℕ) (bs : List ℕ) → b < 256 → AreBytes bs → AreBytes (b ∷ bs)
one_byte b bs l h = every-both is_byte b bs (lt-ltb b 256 l) h

joined : (xs ys : List ℕ) → AreBytes xs → AreBytes ys → AreBytes (xs ++ ys)
joined = every_append is_byte

if-there : (t : Bool) (bs : List ℕ) → AreBytes bs → AreBytes (cond t bs [])
if-there true bs h = h
if-there false bs h = no_bytes

-- ---- numbers

rest-bytes : (n y : ℕ) → AreBytes (encode_rest n y)
unfolding encode_rest
rest-bytes zero y = no_bytes
rest-bytes (suc n) y =
    split (lt-or-le y 128)
    (λ l. rw (lt-ltb y 128 l) (one_byte y [] (omega arith) no_bytes))
    (λ l. rw (le-ltb y 128 l) (one_byte (128 + y % 128) (encode_rest n ((y - 128) / 128)) (omega arith) (rest-bytes n ((y - 128) / 128))))

int-bytes : (v : ℕ) → AreBytes (encode_int v)
unfolding encode_int
int-bytes v =
    split (lt-or-le v 240)
    (λ l. rw (lt-ltb v 240 l) (one_byte v [] (omega arith) no_bytes))
    (λ l. rw (le-ltb v 240 l) (one_byte (240 + v % 16) (encode_rest 9 ((v - 240) / 16)) (omega arith) (rest-bytes 9 ((v - 240) / 16))))

number-bytes : (v : ℕ) → AreBytes (encode_number v)
unfolding encode_number
number-bytes v =
    one_byte _ _ (omega arith) (one_byte _ _ (omega arith) (one_byte _ _ (omega arith) (one_byte _ _ (omega arith) no_bytes)))

-- ---- names and keys

cells-bytes : (n : ℕ) (xs : List ℕ) → Cells n 8 xs → AreBytes xs
cells-bytes n xs c = every-from is_byte xs 0 (λ i l. lt-ltb (get_or xs i 0) 256 (c.small i))

name-bytes : (t : Table) → TableShape t → AreBytes (name_of t)
unfolding name_of
name-bytes t h = every_take is_byte t.name_len t.name (cells-bytes 32 t.name h.name)

own-key-bytes : (e : Entry) → EntryShape e → AreBytes (key_of e)
unfolding key_of
own-key-bytes e h = every_take is_byte e.key_len e.key (cells-bytes 64 e.key h.key)

-- ---- bodies

each-bytes : (encode : ℕ → ℕ → List ℕ) → ((t v : ℕ) → AreBytes (encode t v)) → (ts vs : List ℕ) → AreBytes (each_bytes encode ts vs)
unfolding each_bytes
each-bytes encode f [] [] = no_bytes
each-bytes encode f [] (v ∷ vs) = no_bytes
each-bytes encode f (t ∷ ts) [] = no_bytes
each-bytes encode f (t ∷ ts) (v ∷ vs) = joined (encode t v) (each_bytes encode ts vs) (f t v) (each-bytes encode f ts vs)

value-bytes : (types t v : ℕ) → AreBytes (value_bytes types t v)
unfolding value_bytes
value-bytes types t v = if-there (present types t) (encode_int v) (int-bytes v)

key-bytes : (key_type : ℕ) (key : List ℕ) → AreBytes key → AreBytes (key_bytes key_type key)
unfolding key_bytes
key-bytes key_type key h =
    by-test (is_string (key_kind key_type))
    (λ s. rw s (joined (encode_int (length key)) key (int-bytes (length key)) h))
    (λ s. rw s h)

entry-bytes : (t : Table) (e : Entry) → EntryShape e → AreBytes (entry_bytes t e)
unfolding entry_bytes data_bytes server_bytes
entry-bytes t e h =
    joined (key_bytes t.key_type (key_of e)) _ (key-bytes t.key_type (key_of e) (own-key-bytes e h))
    (joined (cond (present t.data_types 0) (encode_int (server_word e.server_id)) []) (each_bytes (value_bytes t.data_types) slot_types e.values)
    (if-there (present t.data_types 0) (encode_int (server_word e.server_id)) (int-bytes (server_word e.server_id)))
    (each-bytes (value_bytes t.data_types) (value-bytes t.data_types) slot_types e.values))

if-number : (there : Bool) (n : ℕ) → AreBytes (number_if there n)
unfolding number_if
if-number there n = if-there there (encode_number n) (number-bytes n)

update-bytes : (form : Form) (t : Table) (id : ℕ) (e : Entry) → EntryShape e → AreBytes (update_bytes form t id e)
unfolding update_bytes
update-bytes form t id e h =
    joined (number_if form.explicit id) _ (if-number form.explicit id)
    (joined (number_if form.timed e.remaining) (entry_bytes t e) (if-number form.timed e.remaining) (entry-bytes t e h))

period-bytes : (types t period : ℕ) → AreBytes (period_bytes types t period)
unfolding period_bytes
period-bytes types t period =
    if-there (present types t) (encode_int t ++ encode_int period) (joined (encode_int t) (encode_int period) (int-bytes t) (int-bytes period))

times-bytes : (t : Table) → AreBytes (times_bytes t)
unfolding times_bytes
times-bytes t =
    let periods = each_bytes (period_bytes t.data_types) rate_types t.periods in
    if-there (eqb t.timed 1) (encode_int t.expiry ++ periods)
    (joined (encode_int t.expiry) periods (int-bytes t.expiry) (each-bytes (period_bytes t.data_types) (period-bytes t.data_types) rate_types t.periods))

definition-bytes : (id : ℕ) (t : Table) → TableShape t → AreBytes (definition_bytes id t)
unfolding definition_bytes
definition-bytes id t h =
    joined _ (times_bytes t)
    (joined _ (encode_int t.data_types)
    (joined _ (encode_int t.key_len)
    (joined _ (encode_int t.key_type)
    (joined _ (name_of t)
    (joined (encode_int id) (encode_int (length (name_of t))) (int-bytes id) (int-bytes (length (name_of t))))
    (name-bytes t h))
    (int-bytes t.key_type))
    (int-bytes t.key_len))
    (int-bytes t.data_types))
    (times-bytes t)

-- ---- messages

type-byte : (form : Form) → type_of form < 256
unfolding type_of
type-byte form = by_form form.explicit form.timed
  where
    by_form : (explicit timed : Bool) → type_of (record { explicit = explicit; timed = timed }) < 256
    by_form true true = omega arith
    by_form true false = omega arith
    by_form false true = omega arith
    by_form false false = omega arith

whole-bytes : (kind : ℕ) (body : List ℕ) → kind < 256 → AreBytes body → AreBytes (message_bytes kind body)
unfolding message_bytes
whole-bytes kind body l h =
    one_byte 0x0A _ (omega arith) (one_byte kind _ l (joined (encode_int (length body)) body (int-bytes (length body)) h))

message-bytes : (t : Store) (x : Sending) (a : Asked) → StoreShape t → can_send t x a ≡ true → AreBytes (message_for t x a).bytes
unfolding can_send is_of message_for definition_message entry_message
message-bytes t x (definition place id) shape h =
    whole-bytes 130 (definition_bytes id (table_at t place)) (omega arith)
    (definition-bytes id (table_at t place) (shape.table place (held_place t.tables place shape.tables h)))
message-bytes t x (entry place id) shape h =
    let e = entry_at t place in
    let form = form_for x e id in
    let within = held-within t.entries place (and_first (entry_held e) (eqb (e.table + 1) x.defined) h) in
    whole-bytes (type_of form) (update_bytes form (table_at t e.table) id e) (type-byte form)
    (update-bytes form (table_at t e.table) id e (shape.entry place (omega (arith, within, shape.entries))))

all-bytes : (t : Store) → StoreShape t → (x : Sending) (asked : List Asked) → all_can_send t x asked ≡ true → AreBytes (flatten (messages_for t x asked))
unfolding all_can_send messages_for flatten
all-bytes t shape x [] h = no_bytes
all-bytes t shape x (a ∷ asked) h =
    let m = message_for t x a in
    let later = all_can_send t m.sending asked in
    joined m.bytes (flatten (messages_for t m.sending asked)) (message-bytes t x a shape (and_first (can_send t x a) later h))
    (all-bytes t shape m.sending asked (and_second (can_send t x a) later h))

pub messages-are-bytes : MessagesAreBytes
messages-are-bytes t ids x shape h = all-bytes t shape x (asked_for t ids) (all-can-be-sent t ids x h)
