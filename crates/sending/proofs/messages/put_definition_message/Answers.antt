use Rattle.sending.proofs.messages.Messages.{putting-body}
use Rattle.sending.proofs.messages.Messages.{definition-put}
use Rattle.store.proofs.Typed.{table-shape}
use Rattle.sending.proofs.messages.put_definition_message.Goals as goal

pub slice_bounds-put_definition-end : goal.slice_bounds-put_definition-end
slice_bounds-put_definition-end c = search putting-body

pub put_definition-len-requires : goal.put_definition-len-requires
put_definition-len-requires c = search putting-body

pub slice_bounds-body-end : goal.slice_bounds-body-end
slice_bounds-body-end c = search putting-body

pub slice_bounds-put_message-end : goal.slice_bounds-put_message-end
slice_bounds-put_message-end c = search putting-body

pub put_message-requires : goal.put_message-requires
put_message-requires c = search putting-body

pub shape_of-room : goal.shape_of-room
shape_of-room c = search putting-body

pub returns : goal.returns
returns c =
    definition-put _ _ c.ranges.id.fits (table-shape c.args.table _ c.well_formed.1.1.0) c.put_definition-len.ensures c.put_message.ensures
