-- Worked examples of request 3: the order of the refusals, forms and types, and the messages of a small store.
use Rattle.std.specs.Prelude.{◌≡◌, ℕ, ◌-◌, ◌^◌, true, false, [], ◌∷◌, pos, refl}
use Rattle.store.specs.declared.Table.{Table}
use Rattle.store.specs.declared.Entry.{Entry}
use Rattle.store.specs.declared.Store.{Store}
use Rattle.lists.specs.Lists.{among}
use Rattle.store.specs.Limits.{key_kind, present, slot_types, slots_for, integers_of, is_rate, rate_types}
use Rattle.store.specs.Store.{entry_held, name_of, key_of, no_entry}
use Rattle.session.specs.declared.Connection.{Connection}
use Rattle.session.specs.declared.Sending.{Sending}
use Rattle.session.specs.declared.Session.{Session}
use Rattle.session.specs.Session.{is_closed, nothing_sent}
use Rattle.wire.specs.Integer.{encode_int}
use Rattle.wire.specs.Number.{encode_number}
use Rattle.body.specs.Encodings.{message_bytes, definition_bytes, times_bytes, update_bytes, number_if, entry_bytes, key_bytes, data_bytes, server_bytes, each_bytes}
use Rattle.message.specs.Effects.{following_id}
use Rattle.sending.specs.Sending.{send_number, follows, form_for, type_of, is_of, definition_message, entry_message}

-- ---- the order of the refusals: 4, 2, 31, 34, 32

abbrev connection : ℕ → ℕ → Connection
connection closed phase = record { phase = phase; closed = closed; number = 0; current = 0; local_len = 0; remote_len = 0; local = []; remote = []; bindings = [] }

abbrev session : ℕ → ℕ → Session
session closed phase = record { connection = connection closed phase; len = 0; buffer = []; sending = nothing_sent }

not_sound : send_number false (session 1 0) 1035 false ≡ 4
unfolding send_number
not_sound = refl

closed-first : send_number true (session 1 0) 1035 false ≡ 2
unfolding send_number is_closed
closed-first = refl

then-room : send_number true (session 0 1) 1035 false ≡ 31
unfolding send_number is_closed
then-room = refl

then-handshake : send_number true (session 0 1) 1036 false ≡ 34
unfolding send_number is_closed
then-handshake = refl

then-place : send_number true (session 0 2) 1036 false ≡ 32
unfolding send_number is_closed
then-place = refl

no-refusal : send_number true (session 0 2) 1036 true ≡ 0
unfolding send_number is_closed
no-refusal = refl

-- ---- forms

abbrev after : ℕ → Sending
after id = record { defined = 1; sent = 1; last = id }

-- "each later one as incremental if its ID follows the last by one"
next_one : follows (after 9) 10 ≡ true
unfolding follows following_id
next_one = refl

-- "(0 after 4294967295)"
zero-after-last : follows (after (2 ^ 32 - 1)) 0 ≡ true
unfolding follows following_id
zero-after-last = refl

-- "else explicitly": a gap, and the same ID again
gap : follows (after 9) 11 ≡ false
unfolding follows following_id
gap = refl

again : follows (after 9) 9 ≡ false
unfolding follows following_id
again = refl

-- "After a definition the first goes explicitly", whatever was sent before it; a last ID that isn't one has no effect
after-definition : (t : Store) (place table id : ℕ) → follows (definition_message t place table).sending id ≡ false
unfolding follows definition_message
after-definition t place table id = refl

-- ---- messages

-- a table of 4-byte keys without data types, and an entry of it
abbrev table : Table
table = record { held = 1; key_type = 4; timed = 0; data_types = 0; name_len = 1; key_len = 4; expiry = 0; periods = []; name = 0x74 ∷ [] }

abbrev plain_entry : Entry
plain_entry = record { held = 1; server_id = pos 0; timed = 0; remaining = 0; table = 0; key_len = 4; key = 10 ∷ 0 ∷ 0 ∷ 1 ∷ []; values = [] }

-- the same with a remaining time of 0
abbrev timed_entry : Entry
timed_entry = record { held = 1; server_id = pos 0; timed = 1; remaining = 0; table = 0; key_len = 4; key = 10 ∷ 0 ∷ 0 ∷ 1 ∷ []; values = [] }

abbrev small : Store
small = record { tables = table ∷ []; counts = []; entries = plain_entry ∷ timed_entry ∷ [] }

-- a table without expiry is written without expiry and pairs
defines : (definition_message small 0 7).bytes ≡ 0x0A ∷ 130 ∷ 6 ∷ 7 ∷ 1 ∷ 0x74 ∷ 4 ∷ 4 ∷ 0 ∷ []
unfolding definition_message message_bytes definition_bytes times_bytes name_of encode_int
defines = refl

-- the entries of the table defined last, and of no other
of-table : is_of (after 9) plain_entry ≡ true
unfolding is_of entry_held
of-table = refl

of-no-table : is_of nothing_sent plain_entry ≡ false
unfolding is_of entry_held nothing_sent
of-no-table = refl

of-another : is_of (record { defined = 2; sent = 0; last = 0 }) plain_entry ≡ false
unfolding is_of entry_held
of-another = refl

none-held : is_of (after 9) no_entry ≡ false
unfolding is_of entry_held no_entry
none-held = refl

-- explicitly, incrementally, and with a remaining time, 0 being one
explicit-first : (entry_message small (definition_message small 0 7).sending 0 1).bytes ≡ 0x0A ∷ 128 ∷ 8 ∷ 0 ∷ 0 ∷ 0 ∷ 1 ∷ 10 ∷ 0 ∷ 0 ∷ 1 ∷ []
unfolding entry_message definition_message form_for follows type_of message_bytes update_bytes number_if encode_number entry_bytes key_bytes key_of key_kind data_bytes server_bytes each_bytes present slot_types slots_for integers_of is_rate rate_types among encode_int
explicit-first = refl

incremental-next : (entry_message small (after 1) 0 2).bytes ≡ 0x0A ∷ 129 ∷ 4 ∷ 10 ∷ 0 ∷ 0 ∷ 1 ∷ []
unfolding entry_message form_for follows following_id type_of message_bytes update_bytes number_if entry_bytes key_bytes key_of key_kind data_bytes server_bytes each_bytes present slot_types slots_for integers_of is_rate rate_types among encode_int
incremental-next = refl

timed-explicit : (entry_message small (after 1) 1 5).bytes ≡ 0x0A ∷ 133 ∷ 12 ∷ 0 ∷ 0 ∷ 0 ∷ 5 ∷ 0 ∷ 0 ∷ 0 ∷ 0 ∷ 10 ∷ 0 ∷ 0 ∷ 1 ∷ []
unfolding entry_message form_for follows following_id type_of message_bytes update_bytes number_if encode_number entry_bytes key_bytes key_of key_kind data_bytes server_bytes each_bytes present slot_types slots_for integers_of is_rate rate_types among encode_int
timed-explicit = refl

timed-incremental : (entry_message small (after 1) 1 2).bytes ≡ 0x0A ∷ 134 ∷ 8 ∷ 0 ∷ 0 ∷ 0 ∷ 0 ∷ 10 ∷ 0 ∷ 0 ∷ 1 ∷ []
unfolding entry_message form_for follows following_id type_of message_bytes update_bytes number_if encode_number entry_bytes key_bytes key_of key_kind data_bytes server_bytes each_bytes present slot_types slots_for integers_of is_rate rate_types among encode_int
timed-incremental = refl
