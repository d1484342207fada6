-- A frame's body lies within its bytes, and what asks nothing of the entries.
use Rattle.std.proofs.Common.{◌≡◌, ℕ, ◌≤◌, List, length, refl, sym}
use Rattle.frame.specs.declared.Frame.TheVariants as frame
use Rattle.frame.specs.Frame.{judge_frame}
use Rattle.frame.proofs.Limits.{whole-facts}
use Rattle.session.specs.declared.Connection.{Connection}
use Rattle.message.specs.Effects.{Effect, Asks, does}
use Rattle.reassembly.specs.Judge.{Judged, waiting, settled, asks_none, effect_of, asks_of}

module _ (u : List ℕ) (kind start end : ℕ) (e : frame.Body kind start end ≡ judge_frame u) where
  pub body_ordered : start ≤ end
  body_ordered = (whole-facts u kind start end (sym e)).ordered

  pub body_inside : end ≤ length u
  body_inside = (whole-facts u kind start end (sym e)).inside

pub ruleset whole_body = (body_ordered, body_inside)

pub none_asked : (c : Connection) (j : Judged Effect) → does (effect_of c j) ≡ asks_of c (asks_none j)
unfolding effect_of asks_of asks_none
none_asked c waiting = refl
none_asked c (settled e) = refl
