-- The cases of a reading call: short room, a record that isn't sound, a closed session, and a call that reads.
use Prim.Native.Nat.{ℕ, ◌≤◌, ◌<◌}
use mathlib.Core.Path.{◌≡◌, ◌∙◌}
use mathlib.Core.Bool.{true, false}
use mathlib.Core.List.{List}
use lib.ListN.{length}
use lib.Dec.{ltb}
use borrow.Author.Tests.{lt-ltb, le-ltb}
use Rattle.lists.proofs.Cases.{cond-true, cond-false}
use Rattle.store.specs.declared.Store.{Store}
use Rattle.session.specs.declared.Session.{Session}
use Rattle.session.specs.declared.Answer.{Answer}
use Rattle.session.specs.declared.Answer.TheVariants as answer
use Rattle.session.specs.Session.{is_closed}
use Rattle.session_soundness.specs.Sound.{sound}
use Rattle.streams.specs.Calls.{Call, stay, scan}
use Rattle.receiver.specs.Model.{State, held_by, peers}
use Rattle.receiver.specs.Promise.{call_of}

module _ (s : Session) (t : Store) (piece room : List ℕ) where
  abbrev call : Call State Answer
  call = call_of s t piece (length room)

  pub call-short : length room < 12 → call ≡ stay (held_by s t) (answer.Refused 1)
  unfolding call_of
  call-short l = cond-true (ltb (length room) 12) _ _ (lt-ltb (length room) 12 l)

  module _ (l : 12 ≤ length room) where
    pub call-unsound : sound s t ≡ false → call ≡ stay (held_by s t) (answer.Refused 4)
    unfolding call_of
    call-unsound f = cond-false (ltb (length room) 12) _ _ (le-ltb (length room) 12 l) ∙ cond-false (sound s t) _ _ f

    module _ (f : sound s t ≡ true) where
      pub call-closed : is_closed s.connection ≡ true → call ≡ stay (held_by s t) (answer.Refused 2)
      unfolding call_of
      call-closed o =
          cond-false (ltb (length room) 12) _ _ (le-ltb (length room) 12 l)
          ∙ (cond-true (sound s t) _ _ f ∙ cond-true (is_closed s.connection) _ _ o)

      pub call-open : is_closed s.connection ≡ false → call ≡ scan peers (held_by s t) piece
      unfolding call_of
      call-open o =
          cond-false (ltb (length room) 12) _ _ (le-ltb (length room) 12 l)
          ∙ (cond-true (sound s t) _ _ f ∙ cond-false (is_closed s.connection) _ _ o)
