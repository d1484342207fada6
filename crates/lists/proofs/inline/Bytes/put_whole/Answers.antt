use Rattle.std.proofs.Common.{arith, ◌≡◌, ◌-◌, ◌+◌, sym, ap, ◌∙◌, length}
use Rattle.lists.specs.Padded.{padded_size}
use Rattle.lists.proofs.Padding.{padded-more}
use Rattle.lists.proofs.inline.Bytes.put_whole.Goals as goal

pub invariant_of-self : goal.invariant_of-self
invariant_of-self g c =
    let a = c.self.inside in
    let z : a.len ≡ length c.args.self.now = sym (padded_size g.row.N a.bytes a.len c.self.invariant) ∙ ap length c.self.view_is in
    let k : a.len + length c.args.s.now - a.len ≡ length c.args.s.now = omega arith in
    padded-more g.row.N a.bytes c.args.s.now _ a.len _ (omega (arith, z, c.requires)) k c.copy_from_slice.ensures.after c.self.invariant
