-- A record with given unfinished bytes.
use Prim.Native.Nat.{ℕ, ◌≤◌}
use native.Mathlib.Omega.{arith}
use mathlib.Core.Path.{◌≡◌, ◌∙◌}
use mathlib.Core.List.{List}
use lib.ListN.{length}
use Rattle.lists.proofs.Bytes.{pad-take}
use Rattle.session.specs.declared.Connection.{Connection}
use Rattle.session.specs.declared.Sending.{Sending}
use Rattle.session.specs.Session.{unfinished, holding}
use Rattle.session.proofs.Unfinished.{unfinished-within}

module _ (x : Sending) (c : Connection) (u : List ℕ) where
  -- they are its unfinished bytes
  pub unfinished-held : length u ≤ 1027 → unfinished (holding x c u) ≡ u
  unfolding holding
  unfinished-held l = unfinished-within (holding x c u) l ∙ pad-take 1032 u (omega arith)
