use Rattle.std.proofs.Common.{◌≡◌, rules, Err}
use Rattle.store.proofs.Typed.{tables-shape}
use Rattle.sending.proofs.finish.Ending.{definition-refused, place-fits, definition-sent}
use Rattle.sending.proofs.finish.define.Goals as goal

pub returns-in_err-send_number : goal.returns-in_err-send_number
returns-in_err-send_number c =
    let q : c.from_residual.result ≡ Err c.in_err-send_number.field-0.0 = search rules in
    rw q (definition-refused _ _ _ _ _ _ _ c.table_at-table.ensures _ c.send_number.ensures _ c.in_err-send_number.was)

pub overflow_add-after : goal.overflow_add-after
overflow_add-after c =
    place-fits _ _ c.args.tables _ c.args.id c.args.room.now _ c.table_at-table.ensures _ c.send_number.ensures _ c.in_ok-send_number.was (tables-shape c.args.tables _ c.well_formed.1.1.0).0

pub returns : goal.returns
returns c =
    let shape = tables-shape c.args.tables _ c.well_formed.1.1.0 in
    definition-sent _ _ _ _ _ _ _ c.table_at-table.ensures _ c.send_number.ensures _ c.in_ok-send_number.was shape.0 shape.1 c.ranges.id.fits _ _ c.put_definition_message-len.ensures
