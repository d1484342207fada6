-- The end of a sending call: a refusal, a definition or an update; and that every message fits where its room isn't refused.
use Rattle.std.proofs.Common.{◌≡◌, ℕ, ◌+◌, ◌^◌, ◌<◌, ◌≤◌, Bool, true, false, not, ◌&&◌, eqb, List, length, get_or, sym, refl, ap, ◌∙◌, subst, arith, length-append, w64, Fits, rules, eq-eqb, ne_eqb, Result, Ok, Err}
use lib.ListN.{get_or-eq_default}
use borrow.Author.Tests.{not-true, not-false}
use Rattle.lists.proofs.Cases.{split, lt-or-le, and-true, and-false, never}
use Rattle.wire.specs.Integer.{encode_int}
use Rattle.wire.specs.Room.{Wrote}
use Rattle.wire.proofs.Sizes.{int-length}
use Rattle.wire.proofs.buffer.Reach.{wrote-front, wrote-long}
use Rattle.frame.specs.Frame.{definition_type}
use Rattle.store.specs.declared.Table.{Table}
use Rattle.store.specs.declared.Entry.{Entry}
use Rattle.store.specs.Shape.{TableShape, EntryShape}
use Rattle.store.specs.Store.{table_held, no_table, no_entry}
use Rattle.session.specs.declared.Sending.{Sending}
use Rattle.session.specs.declared.Session.{Session}
use Rattle.body.specs.declared.update.Form.{Form}
use Rattle.body.specs.Encodings.{message_bytes, definition_bytes, update_bytes}
use Rattle.body.proofs.Longest.{definitions-fit, updates-fit}
use Rattle.sending.specs.declared.Ask.{Ask}
use Rattle.sending.specs.declared.Ask.TheVariants as ask
use Rattle.sending.specs.Sending.{send_room, send_number, refused_as, Message, definition_message, entry_message, form_for, type_of, is_of, can_send, message_for, room_after}
use Rattle.sending.specs.Finish.{one_entry, asked_of_one, finished_as, Finishes}
use Rattle.sending.proofs.plans.Numbers.{none-refused, is_refusal, sends}

-- ---- lengths

-- class, type, at most 10 bytes of a length, and the body
pub message-length : (kind : ℕ) (body : List ℕ) → length (message_bytes kind body) ≤ 12 + length body
unfolding message_bytes
message-length kind body = omega (arith, int-length (length body), length-append (encode_int (length body)) body)

-- ---- any message
module _ (allowed : Bool) (s : Session) (there : Bool) (m : Message) (room : List ℕ) where
  pub refused-ends : (n : ℕ) → Err n ≡ refused_as (send_number allowed s (length room) there) → Finishes allowed s there m room (Err n) room
  unfolding finished_as room_after
  refused-ends n e = let r = is_refusal n (send_number allowed s (length room) there) e in record { finished = rw (r.some, r.same); content = rw r.some }

  pub sent-ends : send_number allowed s (length room) there ≡ 0 → (final : List ℕ) (len : ℕ) → Wrote room 0 m.bytes final len → length m.bytes ≤ send_room
      → Finishes allowed s there m room (Ok (len, m.sending)) final
  unfolding finished_as room_after
  sent-ends h final len w l =
      let z = sends allowed s (length room) there h in
      let fits : length m.bytes ≤ length room = omega (arith, z.wide, l) in
      record { finished = rw (h, wrote-long w fits); content = rw h (wrote-front w fits) }

-- ---- a definition

-- a held table has one of 8 places
pub held_place : (tables : List Table) (place : ℕ) → length tables ≡ 8 → table_held (get_or tables place no_table) ≡ true → place < 8
unfolding table_held no_table
held_place tables place l h =
    split (lt-or-le place 8) (λ k. k)
    (λ k. never h (ap (λ (t : Table). eqb t.held 1) (get_or-eq_default tables no_table (omega arith))))

module _ (allowed : Bool) (s : Session) (tables : List Table) (place id : ℕ) (room : List ℕ) where
  abbrev held : Bool
  held = table_held (get_or tables place no_table)

  abbrev defined : Message
  defined = definition_message (one_entry tables no_entry) place id

  abbrev DefinitionFinishes : Result (ℕ × Sending) ℕ → List ℕ → Type 0
  DefinitionFinishes r final = Finishes allowed s held defined room r final

  module _ (table : Table) (q : table ≡ get_or tables place no_table) (r : Result Unit ℕ) (e : r ≡ refused_as (send_number allowed s (length room) (eqb table.held 1))) where
    number-so : r ≡ refused_as (send_number allowed s (length room) held)
    unfolding table_held
    number-so = subst (λ (t : Table). r ≡ refused_as (send_number allowed s (length room) (eqb t.held 1))) q e

    pub definition-refused : (n : ℕ) → r ≡ Err n → DefinitionFinishes (Err n) room
    definition-refused n h = refused-ends allowed s held defined room n (sym h ∙ number-so)

    module _ (u : Unit) (h : r ≡ Ok u) (size : length tables ≡ 8) where
      none : send_number allowed s (length room) held ≡ 0
      none = none-refused u _ (sym h ∙ number-so)

      within : place < 8
      within = held_place tables place size (sends allowed s (length room) held none).can-send

      pub place-fits : Fits w64 (place + 1)
      place-fits = record { fits = omega (arith, within) }

      pub definition-sent : ((i : ℕ) → i < 8 → TableShape (get_or tables i no_table)) → id < 2 ^ 32 → (final : List ℕ) (len : ℕ)
          → Wrote room 0 (message_bytes definition_type (definition_bytes id table)) final len
          → DefinitionFinishes (Ok (len, record { defined = place + 1; sent = 0; last = 0 })) final
      unfolding definition_message
      definition-sent shapes small final len w =
          sent-ends allowed s held defined room none final len
          (subst (λ (t : Table). Wrote room 0 (message_bytes definition_type (definition_bytes id t)) final len) q w)
          (omega (arith, message-length definition_type (definition_bytes id (get_or tables place no_table)), definitions-fit id (get_or tables place no_table) small (shapes place within)))

-- ---- an update
module _ (allowed : Bool) (s : Session) (tables : List Table) (e : Entry) (id : ℕ) (room : List ℕ) (there : Bool) (q : there ≡ is_of s.sending e) (r : Result Unit ℕ)
    (z : r ≡ refused_as (send_number allowed s (length room) there)) where
  abbrev updated : Message
  updated = entry_message (one_entry tables e) s.sending 0 id

  abbrev UpdateFinishes : Result (ℕ × Sending) ℕ → List ℕ → Type 0
  UpdateFinishes r final = Finishes allowed s (is_of s.sending e) updated room r final

  counted : r ≡ refused_as (send_number allowed s (length room) (is_of s.sending e))
  counted = z ∙ ap (λ (t : Bool). refused_as (send_number allowed s (length room) t)) q

  pub update-refused : (n : ℕ) → r ≡ Err n → UpdateFinishes (Err n) room
  update-refused n h = refused-ends allowed s (is_of s.sending e) updated room n (sym h ∙ counted)

  pub update-sent : (u : Unit) → r ≡ Ok u → EntryShape e → (table : Table) → table ≡ get_or tables e.table no_table → (form : Form) → form ≡ form_for s.sending e id
      → (final : List ℕ) (len : ℕ) → Wrote room 0 (message_bytes (type_of form) (update_bytes form table id e)) final len
      → UpdateFinishes (Ok (len, record { defined = s.sending.defined; sent = 1; last = id })) final
  unfolding entry_message
  update-sent u h shape table t form f final len w =
      sent-ends allowed s (is_of s.sending e) updated room (none-refused u _ (sym h ∙ counted)) final len
      (rw (f, t) at w)
      (omega (
        arith,
        message-length (type_of (form_for s.sending e id)) (update_bytes (form_for s.sending e id) (get_or tables e.table no_table) id e),
        updates-fit (form_for s.sending e id) (get_or tables e.table no_table) id e shape,
      ))
