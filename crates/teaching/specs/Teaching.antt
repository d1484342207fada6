-- Request 3: "With every table and entry sent once, nothing else writing, a second open session past its handshake, with no unfinished bytes and an
-- empty store, that reads it ends with the same tables, keys, values and remaining times, places apart, and acknowledges each ID sent; an entry
-- without remaining time takes its table's expiry there, if any."
use Rattle.std.specs.Prelude.{ℕ, ◌+◌, ◌^◌, ◌≤◌, ◌<◌, ◌≡◌, Bool, true, false, cond, not, ◌&&◌, length, ltb, leb, eqb}
use mathlib.Core.List.{List, [], ◌∷◌, ◌++◌, map, flatten}
use Rattle.lists.specs.Lists.{every, distinct, among}
use Rattle.store.specs.declared.Table.{Table}
use Rattle.store.specs.declared.Entry.{Entry}
use Rattle.store.specs.declared.Store.{Store}
use Rattle.store.specs.Limits.{table_places, entry_places}
use Rattle.store.specs.Store.{table_held, entry_held, owned_by}
use Rattle.store.specs.Shape.{StoreShape}
use Rattle.store.specs.Sound.{sound_store}
use Rattle.store.specs.Contents.{table_at, entry_at, SameContents, with_expiries}
use Rattle.session.specs.declared.Connection.{Connection}
use Rattle.session.specs.declared.Answer.{Answer}
use Rattle.session.specs.Session.{is_closed, established}
use Rattle.session.specs.Shape.{ConnectionShape}
use Rattle.message.specs.Effects.{acknowledge}
use Rattle.streams.specs.Model.{Ended, Ran, bytes, feed_all}
use Rattle.receiver.specs.Model.{State, is_byte, peers}
use Rattle.session.specs.declared.Sending.{Sending}
use Rattle.sending.specs.Sending.{Asked, definition, entry, definition_message, entry_message, can_send, message_for}

-- ---- what is sent

-- what the host gives for a table: its place, its ID, and an update ID for each of its entries, in place order
pub record TableIds : Type 0 where
  pub table : ℕ
  pub id : ℕ
  pub updates : List ℕ

-- the places of a table's held entries, in place order, where the list's first entry has place i
unfoldable pub places_from : ℕ → ℕ → List Entry → List ℕ
places_from i table [] = []
places_from i table (e ∷ es) = cond (owned_by table e) (i ∷ places_from (i + 1) table es) (places_from (i + 1) table es)

abbrev pub places_of : Store → ℕ → List ℕ
places_of t table = places_from 0 table t.entries

abbrev pub is32_bit : ℕ → Bool
is32_bit n = ltb n (2 ^ 32)

-- of a held table: IDs of 32 bits, one for the table and one for each of its entries
unfoldable pub ids_fit : Store → TableIds → Bool
ids_fit t l =
    (ltb l.table table_places && table_held (table_at t l.table))
    && (is32_bit l.id && (every is32_bit l.updates && eqb (length l.updates) (length (places_of t l.table))))

abbrev pub same_table : TableIds → TableIds → Bool
same_table l m = eqb l.table m.table

-- "every table and entry sent once", the tables in any order, two of them under one ID or not
pub record SendsAll (t : Store) (ids : List TableIds) : Type 0 where
  pub each : every (ids_fit t) ids ≡ true
  pub once : distinct same_table ids ≡ true
  pub all : (place : ℕ) → place < table_places → table_held (table_at t place) ≡ true → among (map (λ (l : TableIds). l.table) ids) place ≡ true

-- entries at these places with these update IDs, as far as both lists go
unfoldable pub asked_entries : List ℕ → List ℕ → List Asked
asked_entries [] ids = []
asked_entries (place ∷ places) [] = []
asked_entries (place ∷ places) (id ∷ ids) = entry place id ∷ asked_entries places ids

-- "write the definition of a table and then its entries in place order"
unfoldable pub asked_for : Store → List TableIds → List Asked
asked_for t [] = []
asked_for t (l ∷ ids) = definition l.table l.id ∷ asked_entries (places_of t l.table) l.updates ++ asked_for t ids

-- the messages, each with the sending state that those before it leave
unfoldable pub messages_for : Store → Sending → List Asked → List (List ℕ)
messages_for t x [] = []
messages_for t x (a ∷ asked) = (message_for t x a).bytes ∷ messages_for t (message_for t x a).sending asked

-- "acknowledges each ID sent": one acknowledgement for each entry, in order, with the IDs given
unfoldable pub acknowledgements_for : List TableIds → List ℕ
acknowledgements_for [] = []
acknowledgements_for (l ∷ ids) = flatten (map (acknowledge l.id) l.updates) ++ acknowledgements_for ids

-- ---- what the byte model comes to

-- "an empty store": no table is held, so that in a sound one no entry is either. "Free places aren't looked at": they may hold anything
unfoldable pub is_empty : Store → Bool
is_empty e = every (λ (t : Table). not (table_held t)) e.tables

-- the state of a session with this record, no unfinished bytes and this store
abbrev pub fresh_state : Connection → Store → State
fresh_state c e = record { connection = c; unfinished = []; store = e }

pub record ModelTaught (t : Store) (ids : List TableIds) (r : Ran State Answer) : Type 0 where
  pub opened : is_closed r.state.connection ≡ false
  pub none-unfinished : r.state.unfinished ≡ []
  pub same : SameContents (with_expiries t) r.state.store
  pub replies : flatten (map (λ (e : Ended Answer). e.reply) r.ended) ≡ acknowledgements_for ids

-- any sound store, any IDs, any open record past its handshake and any empty sound store of the reader; whatever the sending state was before
abbrev pub EveryModelTaught : Type 0
EveryModelTaught =
    (t : Store) (ids : List TableIds) (x : Sending) (c : Connection) (e : Store) → StoreShape t → sound_store t ≡ true → SendsAll t ids
    → ConnectionShape c → is_closed c ≡ false → c.phase ≡ established → StoreShape e → sound_store e ≡ true → is_empty e ≡ true
    → ModelTaught t ids (feed_all peers (fresh_state c e) [] (bytes (flatten (messages_for t x (asked_for t ids)))))

-- ---- such lists exist, and no call of them is refused

-- IDs for each held table, in place order, by the places of tables and of entries, where the list's first table has place i
unfoldable pub ids_from : (table_id update_id : ℕ → ℕ) → Store → ℕ → List Table → List TableIds
ids_from table_id update_id t i [] = []
ids_from table_id update_id t i (u ∷ us) =
    cond (table_held u)
    (record { table = i; id = table_id i; updates = map update_id (places_of t i) } ∷ ids_from table_id update_id t (i + 1) us)
    (ids_from table_id update_id t (i + 1) us)

abbrev pub ids_by : (table_id update_id : ℕ → ℕ) → Store → List TableIds
ids_by table_id update_id t = ids_from table_id update_id t 0 t.tables

-- "The host gives the table's ID and an update ID per entry": any of 32 bits
abbrev pub IdsExist : Type 0
IdsExist =
    (t : Store) (table_id update_id : ℕ → ℕ) → StoreShape t → ((i : ℕ) → i < table_places → table_id i < 2 ^ 32)
    → ((i : ℕ) → i < entry_places → update_id i < 2 ^ 32) → SendsAll t (ids_by table_id update_id t)

-- each table is held, and each entry is of the table defined last, when it is asked for
unfoldable pub all_can_send : Store → Sending → List Asked → Bool
all_can_send t x [] = true
all_can_send t x (a ∷ asked) = can_send t x a && all_can_send t (message_for t x a).sending asked

abbrev pub AllCanBeSent : Type 0
AllCanBeSent = (t : Store) (ids : List TableIds) (x : Sending) → SendsAll t ids → all_can_send t x (asked_for t ids) ≡ true

-- ---- how long messages are at most

abbrev pub definition_most : ℕ
definition_most = 100

abbrev pub message_most : ℕ
message_most = 267

abbrev pub is_short : List ℕ → Bool
is_short message = leb (length message) message_most

-- of a sound store, whatever the sending state is
abbrev pub DefinitionMessagesFit : Type 0
DefinitionMessagesFit =
    (t : Store) (place id : ℕ) → StoreShape t → sound_store t ≡ true → table_held (table_at t place) ≡ true → id < 2 ^ 32
    → length (definition_message t place id).bytes ≤ definition_most

abbrev pub EntryMessagesFit : Type 0
EntryMessagesFit =
    (t : Store) (x : Sending) (place id : ℕ) → StoreShape t → sound_store t ≡ true → entry_held (entry_at t place) ≡ true
    → length (entry_message t x place id).bytes ≤ message_most

-- the ID that a message is asked for with
unfoldable pub id_of : Asked → ℕ
id_of (definition place id) = id
id_of (entry place id) = id

-- what can be sent goes into a message that fits
abbrev pub MessageFits : Type 0
MessageFits =
    (t : Store) (x : Sending) (a : Asked) → StoreShape t → sound_store t ≡ true → can_send t x a ≡ true → id_of a < 2 ^ 32
    → length (message_for t x a).bytes ≤ message_most

abbrev pub MessagesFit : Type 0
MessagesFit =
    (t : Store) (ids : List TableIds) (x : Sending) → StoreShape t → sound_store t ≡ true → SendsAll t ids
    → every is_short (messages_for t x (asked_for t ids)) ≡ true

-- ---- messages are bytes

abbrev pub MessagesAreBytes : Type 0
MessagesAreBytes =
    (t : Store) (ids : List TableIds) (x : Sending) → StoreShape t → SendsAll t ids
    → every is_byte (flatten (messages_for t x (asked_for t ids))) ≡ true
