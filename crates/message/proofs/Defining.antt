-- The name that was read of a definition lies within its body.
use Rattle.std.proofs.Common.{◌≡◌, ℕ, ◌+◌, ◌≤◌, List, length, sym}
use Rattle.body.specs.Fields.{got}
use Rattle.body.specs.declared.definition.Definition.{Definition}
use Rattle.body.specs.Bodies.{definition_fields}
use Rattle.body.proofs.Within.{definition-within}

pub name_inside : (body : List ℕ) (d : Definition) (next : ℕ) → got d next ≡ definition_fields body → d.name.start + d.name.len ≤ length body
name_inside body d next e = (definition-within body d next (sym e)).0.name_end
