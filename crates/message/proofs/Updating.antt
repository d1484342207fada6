-- The key that was read of an update lies within its body.
use Rattle.std.proofs.Common.{◌≡◌, ℕ, ◌+◌, ◌≤◌, List, length, sym}
use Rattle.store.specs.declared.Table.{Table}
use Rattle.body.specs.declared.update.Form.{Form}
use Rattle.body.specs.Fields.{got}
use Rattle.body.specs.declared.update.Update.{Update}
use Rattle.body.specs.Bodies.{update_fields}
use Rattle.body.proofs.Within.{update-within}

pub key_inside : (form : Form) (t : Table) (id : ℕ) (body : List ℕ) (u : Update) (next : ℕ) → got u next ≡ update_fields form t id body
    → u.key.start + u.key.len ≤ length body
key_inside form t id body u next e = (update-within form t id body u next (sym e)).0.within.key_end
