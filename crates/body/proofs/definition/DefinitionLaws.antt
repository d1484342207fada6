-- Where a part of a body lies, and which bytes it is.
use Prim.Native.Nat.{ℕ, ◌-◌, ◌≤◌}
use native.Mathlib.Omega.{arith}
use mathlib.Core.Path.{◌≡◌, sym}
use mathlib.Core.List.{List}
use lib.ListN.{length, take, drop}
use Rattle.body.specs.Fields.{Span, got, span_in, bytes}
use Rattle.body.proofs.Holds.{held}
use Rattle.body.proofs.Taken.{Ends, bytes-end}

module _ (n : ℕ) (s : List ℕ) (at : ℕ) (span : Span) (next : ℕ) (e : got span next ≡ bytes n s at) where
  ended : Ends s span next
  ended = held (Ends s) (bytes n s at) (bytes-end n s at) span next (sym e)

  pub part_in_order : span.start ≤ next
  part_in_order = omega (arith, ended.behind)

  pub part_inside : next ≤ length s
  part_inside = ended.inside

  pub part_bytes : take (next - span.start) (drop span.start s) ≡ span_in s span
  unfolding span_in
  part_bytes = let z : next - span.start ≡ span.len = omega (arith, ended.behind) in rw z

pub ruleset part_laws = (part_in_order, part_inside, part_bytes)
