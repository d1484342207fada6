use Rattle.std.proofs.Common.{◌≡◌, rules, Err}
use Rattle.store.proofs.Typed.{entry-shape}
use Rattle.sending.proofs.finish.Ending.{update-refused, update-sent}
use Rattle.sending.proofs.finish.update.Goals as goal

pub returns-in_err-send_number : goal.returns-in_err-send_number
returns-in_err-send_number c =
    let q : c.from_residual.result ≡ Err c.in_err-send_number.field-0.0 = search rules in
    rw q (update-refused _ _ _ _ c.args.id _ _ c.is_of.ensures _ c.send_number.ensures _ c.in_err-send_number.was)

pub returns : goal.returns
returns c =
    update-sent _ _ _ _ _ _ _ c.is_of.ensures _ c.send_number.ensures _ c.in_ok-send_number.was (entry-shape c.args.entry _ c.well_formed.1.1.1.0) _ c.table_at-table.ensures _
    c.form_for-form.ensures _ _ c.put_update_message-len.ensures
