use Rattle.std.proofs.Common.{◌≡◌, rules, Err}
use Rattle.sending.proofs.Promising.{promised}
use Rattle.sending.proofs.send_lent.Goals as goal

pub returns-in_err-len : goal.returns-in_err-len
returns-in_err-len c =
    let q : c.from_residual.result ≡ Err c.in_err-len.field-0.0 = search rules in
    let e = c.entry_at-entry.ensures in
    let h =
    promised c.args.session.now c.args.store.now c.args.ask c.args.room.now c.store_ok-sound.result c.store_ok-sound.ensures c.entry_at-entry.result
    (rw c.place_of.ensures.value at e) c.session_shaped.ensures c.store_shaped.ensures c.place_of.ensures.askable c.finish_send.result _ c.finish_send.ensures in
    rw q (rw c.in_err-len.was at h)

pub returns : goal.returns
returns c =
    let e = c.entry_at-entry.ensures in
    let h =
    promised c.args.session.now c.args.store.now c.args.ask c.args.room.now c.store_ok-sound.result c.store_ok-sound.ensures c.entry_at-entry.result
    (rw c.place_of.ensures.value at e) c.session_shaped.ensures c.store_shaped.ensures c.place_of.ensures.askable c.finish_send.result _ c.finish_send.ensures in
    rw c.in_ok-len.was at h
