-- Writing into lent room: a law for each way through `fit_bytes`.
use Rattle.std.specs.Prelude.{None, Some}
use Prim.Native.Nat.{ℕ, ◌+◌, ◌-◌, ◌≤◌, ◌<◌}
use native.Mathlib.Omega.{arith}
use mathlib.Core.Path.{◌≡◌, sym, ◌∙◌}
use mathlib.Core.List.{List, ◌++◌, append_assoc}
use lib.ListN.{length, take, drop}
use lib.Seq.{drop-drop}
use borrow.Author.Rules.{rules}
use borrow.Author.Tests.{le-leb, lt-leb}
use borrow.Rule.Slice.PartMut.{put_mid}
use Rattle.lists.specs.Lists.{overlay}
use Rattle.wire.specs.Room.{put_result, put_room}

-- ---- the two cases
module _ (room : List ℕ) (at : ℕ) (bytes : List ℕ) where
  pub none-result : length room < at + length bytes → put_result room at bytes ≡ None
  unfolding put_result
  none-result h = rw (lt-leb (at + length bytes) (length room) h)

  pub none-room : length room < at + length bytes → put_room room at bytes ≡ room
  unfolding put_room
  none-room h = rw (lt-leb (at + length bytes) (length room) h)

  pub fits-result : at + length bytes ≤ length room → put_result room at bytes ≡ Some (at + length bytes)
  unfolding put_result
  fits-result h = rw (le-leb (at + length bytes) (length room) h)

  pub fits-room : at + length bytes ≤ length room → put_room room at bytes ≡ overlay at bytes room
  unfolding put_room
  fits-room h = rw (le-leb (at + length bytes) (length room) h)

  -- ---- `fit_bytes`
  pub full-result : length room < at + length bytes → None ≡ put_result room at bytes
  full-result h = sym (none-result h)

  pub full-room : length room < at + length bytes → room ≡ put_room room at bytes
  full-room h = sym (none-room h)

  pub next-result : at + length bytes ≤ length room → Some (at + length bytes) ≡ put_result room at bytes
  next-result h = sym (fits-result h)

pub laid : (room bytes xs : List ℕ) (at : ℕ) → at + length bytes ≤ length room → xs ≡ bytes
    → put_mid at (at + length bytes - at) room xs ≡ put_room room at bytes
unfolding overlay
laid room bytes xs at h e =
    let k : at + length bytes - at ≡ length bytes = omega arith in
    let z : take at room ++ (bytes ++ drop (at + length bytes) room) ≡ overlay at bytes room = simp append_assoc in
    rw (k, e, drop-drop (length bytes) at room) (z ∙ sym (fits-room room at bytes h))

pub ruleset putting = (rules, full-result, full-room, next-result, laid)
