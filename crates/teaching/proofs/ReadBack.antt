-- What is written reads back, with nothing ignored.
use Prim.Native.Nat.{ℕ, ◌+◌, ◌≤◌}
use native.Mathlib.Omega.{arith}
use mathlib.Core.Path.{◌≡◌}
use mathlib.Core.List.{List}
use mathlib.Core.Bool.{false}
use lib.ListN.{length}
use lib.Dec.{eqb}
use borrow.Author.Tests.{not-false}
use Rattle.lists.proofs.Cases.{and_first}
use Rattle.store.specs.declared.Entry.{Entry}
use Rattle.store.specs.Store.{entry_held, no_entry}
use Rattle.store.specs.Contents.{table_at, entry_at}
use Rattle.session.specs.declared.Sending.{Sending}
use Rattle.body.specs.Encodings.{message_bytes, definition_bytes, update_bytes}
use Rattle.body.proofs.DefinitionBack.{definitions-read-back}
use Rattle.body.proofs.UpdateBack.{updates-read-back}
use Rattle.body.proofs.Longest.{definitions-fit, updates-fit}
use Rattle.message.specs.Effects.{following_id}
use Rattle.sending.specs.Sending.{definition, entry, follows, form_for, type_of, definition_message, entry_message, is_of, can_send}
use Rattle.sending.proofs.finish.Ending.{held_place}
use Rattle.sending.proofs.Leaving.{types-read-back}
use Rattle.teaching.specs.Teaching.{id_of}
use Rattle.teaching.specs.ReadBack.{FrameBack, MessageBack, MessagesReadBack}
use Rattle.teaching.proofs.Members.{at_place}
use Rattle.teaching.proofs.WholeMessages.{frame-whole, part-waits, body_back}
use Rattle.teaching.proofs.OneMessage.{follows-last}
use Rattle.teaching.proofs.Running.{type-high}
use Rattle.teaching.proofs.Fitting.{table-sound, known}
use Rattle.teaching.proofs.CanBeSent.{held-within}

frame_back : (kind : ℕ) (body : List ℕ) → 128 ≤ kind → length body ≤ 1024 → FrameBack kind body (message_bytes kind body)
frame_back kind body high small = record {
  waits = part-waits kind body high small;
  whole = frame-whole kind body high small;
  body_is = body_back kind body high small;
}

incremental : (x : Sending) (e : Entry) (id : ℕ) → (form_for x e id).explicit ≡ false → id ≡ following_id x.last
unfolding form_for
incremental x e id h = follows-last x id (not-false (follows x id) h)

pub messages-read-back : MessagesReadBack
unfolding can_send is_of id_of MessageBack definition_message entry_message
messages-read-back t x (definition place id) shape sound h small =
    let within = held_place t.tables place shape.tables h in
    let u = table_at t place in
    record {
      frame = frame_back 130 (definition_bytes id u) (omega arith) (omega (arith, definitions-fit id u small (shape.table place within)));
      fields = definitions-read-back id u small (shape.table place within) h (table-sound t shape sound place within);
    }
messages-read-back t x (entry place id) shape sound h small =
    let e = entry_at t place in
    let u = table_at t e.table in
    let held = and_first (entry_held e) (eqb (e.table + 1) x.defined) h in
    let z = (known t shape sound e (at_place t.entries place no_entry (held-within t.entries place held)) held).sendable in
    let form = form_for x e id in
    record {
      frame = frame_back (type_of form) (update_bytes form u id e) (type-high form) (omega (arith, updates-fit form u id e z.shape));
      form-is = types-read-back form;
      fields = updates-read-back form u (following_id x.last) id e small (incremental x e id) z;
    }
