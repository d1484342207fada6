-- All that is asked for can be sent, and its messages are short.
use Prim.Native.Nat.{ℕ, ◌+◌, ◌^◌, ◌≤◌, ◌<◌}
use native.Mathlib.Omega.{arith}
use mathlib.Core.Path.{◌≡◌, refl, sym, ap, ◌∙◌}
use mathlib.Core.List.{List, [], ◌∷◌, ◌++◌}
use mathlib.Core.Bool.{Bool, true}
use lib.ListN.{length, get_or, length-append, get_or-eq_default}
use lib.Dec.{eqb, lit<}
use borrow.Author.Tests.{lt-ltb, ltb-true, eq-eqb, le-leb}
use Rattle.lists.specs.Lists.{every}
use Rattle.lists.proofs.Cases.{split, never, lt-or-le, and_first, and_second, and_intro}
use Rattle.lists.proofs.Every.{every_append}
use Rattle.wire.specs.Integer.{encode_int, smallest}
use Rattle.wire.proofs.Sizes.{shorter}
use Rattle.store.specs.declared.Entry.{Entry}
use Rattle.store.specs.declared.Store.{Store}
use Rattle.store.specs.Store.{table_held, entry_held, owned_by, no_entry}
use Rattle.store.specs.Shape.{StoreShape}
use Rattle.store.specs.Sound.{sound_store}
use Rattle.store.specs.Contents.{table_at, entry_at}
use Rattle.body.specs.Encodings.{message_bytes, definition_bytes, update_bytes}
use Rattle.body.proofs.Longest.{sound-definitions-fit, sound-updates-fit}
use Rattle.session.specs.declared.Sending.{Sending}
use Rattle.sending.specs.Sending.{Asked, definition, entry, is_of, can_send, message_for, definition_message, entry_message, form_for, type_of}
use Rattle.sending.proofs.finish.Ending.{held_place}
use Rattle.teaching.specs.Teaching.{TableIds, places_of, is32_bit, ids_fit, asked_entries, asked_for, messages_for, all_can_send, AllCanBeSent, message_most, is_short, DefinitionMessagesFit, EntryMessagesFit, id_of, MessageFits, MessagesFit}
use Rattle.teaching.proofs.Members.{Each, each_map, at_place}
use Rattle.teaching.proofs.Owned.{places-each}
use Rattle.teaching.proofs.Fitting.{ids-facts, no-entry, table-sound, known, owned-held, owned-table}

-- a held place is one of the store's
pub held-within : (es : List Entry) (place : ℕ) → entry_held (get_or es place no_entry) ≡ true → place < length es
held-within es place h =
    split (lt-or-le place (length es)) (λ l. l) (λ l. never h (ap entry_held (get_or-eq_default es no_entry l) ∙ no-entry))

-- ---- what is asked for can be sent

module _ (t : Store) where
  of-it : (table : ℕ) (x : Sending) (e : Entry) → owned_by table e ≡ true → x.defined ≡ table + 1 → is_of x e ≡ true
  unfolding is_of
  of-it table x e h q =
      and_intro (entry_held e) (eqb (e.table + 1) x.defined) (owned-held table e h)
      (eq-eqb (e.table + 1) x.defined (ap (λ (n : ℕ). n + 1) (owned-table table e h) ∙ sym q))

  entries-there : (table : ℕ) (rest : List Asked) → ((x : Sending) → all_can_send t x rest ≡ true) → (places ids : List ℕ) (x : Sending)
      → Each (λ place. owned_by table (entry_at t place) ≡ true) places → x.defined ≡ table + 1 → all_can_send t x (asked_entries places ids ++ rest) ≡ true
  unfolding Each asked_entries all_can_send can_send message_for entry_message
  entries-there table rest then [] ids x each q = then x
  entries-there table rest then (p ∷ places) [] x each q = then x
  entries-there table rest then (p ∷ places) (i ∷ ids) x each q =
      and_intro (is_of x (entry_at t p)) _ (of-it table x (entry_at t p) each.0 q)
      (entries-there table rest then places ids (record { defined = x.defined; sent = 1; last = i }) each.1 q)

  all-can-send : (ids : List TableIds) (x : Sending) → every (ids_fit t) ids ≡ true → all_can_send t x (asked_for t ids) ≡ true
  unfolding every asked_for all_can_send can_send message_for definition_message
  all-can-send [] x h = refl
  all-can-send (l ∷ ids) x h =
      let f = ids-facts t l (and_first (ids_fit t l) (every (ids_fit t) ids) h) in
      and_intro (table_held (table_at t l.table)) _ f.held
      (entries-there l.table (asked_for t ids) (λ y. all-can-send ids y (and_second (ids_fit t l) (every (ids_fit t) ids) h))
      (places_of t l.table) l.updates (record { defined = l.table + 1; sent = 0; last = 0 })
      (each_map _ (λ place. owned_by l.table (entry_at t place) ≡ true) (λ place k. k.1) (places_of t l.table) (places-each l.table t.entries 0 t.entries refl))
      refl)

pub all-can-be-sent : AllCanBeSent
all-can-be-sent t ids x h = all-can-send t ids x h.each

-- ---- lengths

message-length : (kind : ℕ) (body : List ℕ) → length (message_bytes kind body) ≡ 2 + (length (encode_int (length body)) + length body)
unfolding message_bytes
message-length kind body = omega (arith, length-append (encode_int (length body)) body)

-- with a body of less than 240 bytes, and of less than 2288
one_byte : (n : ℕ) → n < 240 → length (encode_int n) ≤ 1
unfolding smallest
one_byte n l = shorter n 1 (lit< tt) l

two_bytes : (n : ℕ) → n < 2288 → length (encode_int n) ≤ 2
unfolding smallest
two_bytes n l = shorter n 2 (lit< tt) l

pub definition-messages-fit : DefinitionMessagesFit
unfolding definition_message
definition-messages-fit t place id shape sound held small =
    let within = held_place t.tables place shape.tables held in
    let body = definition_bytes id (table_at t place) in
    let n = sound-definitions-fit id (table_at t place) small (shape.table place within) held (table-sound t shape sound place within) in
    let b = one_byte (length body) (omega arith) in
    omega (arith, message-length 130 body)

pub entry-messages-fit : EntryMessagesFit
unfolding entry_message
entry-messages-fit t x place id shape sound held =
    let e = entry_at t place in
    let within = held-within t.entries place held in
    let z = known t shape sound e (at_place t.entries place no_entry within) held in
    let form = form_for x e id in
    let body = update_bytes form (table_at t e.table) id e in
    let n = sound-updates-fit form (table_at t e.table) id e z.sendable in
    let b = two_bytes (length body) (omega arith) in
    omega (arith, message-length (type_of form) body)

pub message-fits : MessageFits
unfolding can_send message_for is_of id_of
message-fits t x (definition place id) shape sound h l = omega (arith, definition-messages-fit t place id shape sound h l)
message-fits t x (entry place id) shape sound h l =
    entry-messages-fit t x place id shape sound (and_first (entry_held (entry_at t place)) (eqb ((entry_at t place).table + 1) x.defined) h)

-- ---- all of them

abbrev pub id_fits : Asked → Bool
id_fits a = is32_bit (id_of a)

module _ (t : Store) (shape : StoreShape t) (sound : sound_store t ≡ true) where
  all_short : (x : Sending) (asked : List Asked) → all_can_send t x asked ≡ true → every id_fits asked ≡ true → every is_short (messages_for t x asked) ≡ true
  unfolding every all_can_send messages_for
  all_short x [] h k = refl
  all_short x (a ∷ asked) h k =
      let m = message_for t x a in
      let later = all_can_send t m.sending asked in
      let small = ltb-true (id_of a) (2 ^ 32) (and_first (id_fits a) (every id_fits asked) k) in
      and_intro (is_short m.bytes) (every is_short (messages_for t m.sending asked))
      (le-leb (length m.bytes) message_most (message-fits t x a shape sound (and_first (can_send t x a) later h) small))
      (all_short m.sending asked (and_second (can_send t x a) later h) (and_second (id_fits a) (every id_fits asked) k))

  entries-ids : (places ids : List ℕ) → every is32_bit ids ≡ true → every id_fits (asked_entries places ids) ≡ true
  unfolding every asked_entries id_of
  entries-ids [] ids h = refl
  entries-ids (p ∷ places) [] h = refl
  entries-ids (p ∷ places) (i ∷ ids) h =
      and_intro (is32_bit i) (every id_fits (asked_entries places ids)) (and_first (is32_bit i) (every is32_bit ids) h)
      (entries-ids places ids (and_second (is32_bit i) (every is32_bit ids) h))

  pub asked-fit : (ids : List TableIds) → every (ids_fit t) ids ≡ true → every id_fits (asked_for t ids) ≡ true
  unfolding every asked_for id_of
  asked-fit [] h = refl
  asked-fit (l ∷ ids) h =
      let f = ids-facts t l (and_first (ids_fit t l) (every (ids_fit t) ids) h) in
      let own = asked_entries (places_of t l.table) l.updates in
      and_intro (is32_bit l.id) (every id_fits (own ++ asked_for t ids)) (lt-ltb l.id (2 ^ 32) f.id)
      (every_append id_fits own (asked_for t ids)
      ∙ and_intro (every id_fits own) (every id_fits (asked_for t ids)) (entries-ids (places_of t l.table) l.updates f.updates)
      (asked-fit ids (and_second (ids_fit t l) (every (ids_fit t) ids) h)))

pub messages-fit : MessagesFit
messages-fit t ids x shape sound h =
    all_short t shape sound x (asked_for t ids) (all-can-be-sent t ids x h) (asked-fit t shape sound ids h.each)
