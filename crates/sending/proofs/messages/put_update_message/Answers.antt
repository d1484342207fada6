use Rattle.sending.proofs.messages.Messages.{putting-body}
use Rattle.sending.proofs.messages.Messages.{update-put}
use Rattle.store.proofs.Typed.{entry-shape}
use Rattle.sending.proofs.messages.put_update_message.Goals as goal

pub slice_bounds-put_update-end : goal.slice_bounds-put_update-end
slice_bounds-put_update-end c = search putting-body

pub put_update-len-requires : goal.put_update-len-requires
put_update-len-requires c = search putting-body

pub type_of-requires : goal.type_of-requires
type_of-requires c = search putting-body

pub slice_bounds-body-end : goal.slice_bounds-body-end
slice_bounds-body-end c = search putting-body

pub slice_bounds-put_message-end : goal.slice_bounds-put_message-end
slice_bounds-put_message-end c = search putting-body

pub put_message-requires : goal.put_message-requires
put_message-requires c = search putting-body

pub shape_of-room : goal.shape_of-room
shape_of-room c = search putting-body

pub returns : goal.returns
returns c =
    update-put _ _ _ _ _ c.type_of.ensures (entry-shape c.args.entry _ c.well_formed.1.1.1.1.0) c.put_update-len.ensures c.put_message.ensures
