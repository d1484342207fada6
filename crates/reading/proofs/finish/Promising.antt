-- The three refusals of a reading call, and the call that reads, keep the promise.
use Prim.Native.Nat.{ℕ, ◌≤◌, ◌<◌}
use mathlib.Core.Path.{◌≡◌, refl, sym, ap, ◌∙◌}
use mathlib.Core.Bool.{true, false}
use mathlib.Core.List.{List}
use lib.ListN.{length}
use Rattle.lists.specs.Lists.{front, every}
use Rattle.store.specs.declared.Store.{Store}
use Rattle.session.specs.declared.Session.{Session}
use Rattle.session.specs.declared.Answer.{Answer}
use Rattle.session.specs.declared.Answer.TheVariants as answer
use Rattle.session.specs.Session.{is_closed}
use Rattle.session_soundness.specs.Sound.{sound}
use Rattle.message.specs.Changes.{no_change, changed}
use Rattle.streams.specs.Calls.{Call, stay, scan}
use Rattle.reading.specs.declared.results.Step.{Step}
use Rattle.reading.specs.declared.results.StepChange.{StepChange}
use Rattle.receiver.specs.Model.{State, held_by, is_byte, peers}
use Rattle.receiver.specs.Promise.{Made, Shaped, ReadPromise, call_of, outcome_of, session_of}
use Rattle.receiver.proofs.CallCases.{call-short, call-unsound, call-closed, call-open}
use Rattle.reading.specs.Results.{stays, applied, step_of}

module _ (s : Session) (t : Store) (piece room : List ℕ) where
  abbrev made : StepChange → List ℕ → Made
  made r final =
      record { piece = piece; room = room; outcome = r.outcome; session = r.session; store = changed t r.change; final = final }

  abbrev call : Call State Answer
  call = call_of s t piece (length room)

  module _ (sh : Shaped s t) (by : every is_byte piece ≡ true) where
    promised : (c : Call State Answer) (r : StepChange) (final : List ℕ) → call ≡ c → applied t r ≡ step_of s c → final ≡ front c.reply room
        → ReadPromise s t (made r final)
    unfolding applied step_of
    promised c r final e p q = record {
      outcome = ap (λ (x : Step). x.outcome) p ∙ ap outcome_of (sym e);
      session = ap (λ (x : Step). x.session) p ∙ ap (session_of s) (sym e);
      store = ap (λ (x : Step). x.store) p ∙ ap (λ (k : Call State Answer). k.state.store) (sym e);
      final = q ∙ ap (λ (k : Call State Answer). front k.reply room) (sym e);
      shaped = sh;
      bytes = by;
    }

    refused : (a : Answer) (r : StepChange) → call ≡ stay (held_by s t) a → r ≡ stays s a → ReadPromise s t (made r room)
    refused a r e p = promised (stay (held_by s t) a) r room e (ap (applied t) p ∙ stays-is a) (no-reply a)
      where
        stays-is : (a : Answer) → applied t (stays s a) ≡ step_of s (stay (held_by s t) a)
        stays-is a = unfold applied stays changed no_change step_of outcome_of session_of held_by in refl

        no-reply : (a : Answer) → room ≡ front (stay (held_by s t) a).reply room
        no-reply a = unfold front in refl

    pub short-promise : (r : StepChange) → length room < 12 → r ≡ stays s (answer.Refused 1) → ReadPromise s t (made r room)
    short-promise r l p = refused (answer.Refused 1) r (call-short s t piece room l) p

    module _ (l : 12 ≤ length room) where
      pub unsound-promise : (r : StepChange) → false ≡ sound s t → r ≡ stays s (answer.Refused 4) → ReadPromise s t (made r room)
      unsound-promise r f p = refused (answer.Refused 4) r (call-unsound s t piece room l (sym f)) p

      module _ (f : true ≡ sound s t) where
        pub closed-promise : (r : StepChange) → is_closed s.connection ≡ true → r ≡ stays s (answer.Refused 2) → ReadPromise s t (made r room)
        closed-promise r o p = refused (answer.Refused 2) r (call-closed s t piece room l (sym f) o) p

        pub open-promise : (r : StepChange) (final : List ℕ) → is_closed s.connection ≡ false → applied t r ≡ step_of s (scan peers (held_by s t) piece)
            → final ≡ front (scan peers (held_by s t) piece).reply room → ReadPromise s t (made r final)
        open-promise r final o p q = promised (scan peers (held_by s t) piece) r final (call-open s t piece room l (sym f) o) p q
