use Rattle.std.proofs.Common.{arith, ◌≡◌, sym, ap, ◌∙◌, length}
use Rattle.lists.specs.Padded.{padded_size}
use Rattle.lists.proofs.Padding.{padded-push}
use Rattle.lists.proofs.inline.Bytes.push.Goals as goal

pub invariant_of-self : goal.invariant_of-self
invariant_of-self g c =
    let a = c.self.inside in
    let z : a.len ≡ length c.args.self.now = sym (padded_size g.row.N a.bytes a.len c.self.invariant) ∙ ap length c.self.view_is in
    padded-push g.row.N a.bytes a.len c.args.b (omega (arith, z)) c.self.invariant
