-- A call that passes time is the model's step on the store alone: the record stays sound with the store.
use Prim.Native.Nat.{ℕ}
use native.Mathlib.Omega.{arith}
use mathlib.Core.Path.{◌≡◌, refl, sym, ap, subst, ◌∙◌}
use mathlib.Core.Logic.{inl, inr}
use mathlib.Core.List.{List}
use mathlib.Core.Bool.{true}
use Rattle.lists.proofs.Cases.{by-test, never}
use Rattle.store.specs.declared.Table.{Table}
use Rattle.store.specs.declared.Store.{Store}
use Rattle.store.specs.Sound.{sound_store}
use Rattle.store.specs.Time.{pass_time, Passed, PassPromise}
use Rattle.store.proofs.Passing.{pass_shape, pass-tables, pass-sound, store-passes, store-stays, number-sound, number-unsound}
use Rattle.session.specs.declared.Session.{Session}
use Rattle.session.specs.Session.{is_closed, holding, nothing_sent}
use Rattle.session.specs.Shape.{SessionShape}
use Rattle.session_soundness.specs.Sound.{sound, sound_session}
use Rattle.session_soundness.proofs.Records.{sound-store, sound-session, sound-both}
use Rattle.receiver.specs.Model.{State, held_by, sound_state, pass}
use Rattle.receiver.specs.Good.{Good}
use Rattle.receiver.specs.Promise.{Shaped}
use Rattle.receiver.specs.Demand3.{PassAsModel}
use Rattle.receiver.specs.Corollaries.{PassedRecordsSound, PassedOrRefused, RefusedPassUntouched}

-- ---- the model's step

pub sound-passes : (e : ℕ) (s : Session) (t : Store) → sound s t ≡ true → sound s (pass_time e t) ≡ true
sound-passes e s t f =
    sound-both s (pass_time e t) (pass-sound e t (sound-store s t f))
    (subst (λ (ts : List Table). sound_session ts s ≡ true) (sym (pass-tables e t)) (sound-session s t f))

pub pass-closed : (e : ℕ) (s : State) → is_closed (pass e s).connection ≡ is_closed s.connection
unfolding pass
pass-closed e s = refl

pub pass-good : (e : ℕ) (s : State) → Good s → Good (pass e s)
unfolding pass sound_state
pass-good e s g = record {
  sound = sound-passes e (holding nothing_sent s.connection s.unfinished) s.store g.sound;
  connection = g.connection;
  unfinished = g.unfinished;
  store = pass_shape e s.store g.store;
}

-- ---- a call that kept its promise

module _ (t : Store) (p : Passed) (promise : PassPromise t p) where
  module _ (f : sound_store t ≡ true) where
    pub passed-as-model : PassAsModel t p
    passed-as-model = record { number = promise.number ∙ number-sound t f; store = promise.store ∙ store-passes p.milliseconds t f }

  pub passed-or-refused : PassedOrRefused t p
  passed-or-refused =
      by-test (sound_store t)
      (λ f.
      let n = promise.number ∙ number-sound t f in
      record {
        number = inl n;
        sound = λ e. n;
        unsound = λ e. never f e;
        passed = λ e. promise.store ∙ store-passes p.milliseconds t f;
        refused = λ e. let z : ◌≡◌ {A = ℕ} 0 4 = sym n ∙ e in absurd (omega arith);
      })
      (λ f.
      let n = promise.number ∙ number-unsound t f in
      record {
        number = inr n;
        sound = λ e. never e f;
        unsound = λ e. n;
        passed = λ e. let z : ◌≡◌ {A = ℕ} 4 0 = sym n ∙ e in absurd (omega arith);
        refused = λ e. promise.store ∙ store-stays p.milliseconds t f;
      })

  -- beside a sound record
  module _ (s : Session) (f : sound s t ≡ true) where
    pub passed-model : PassAsModel t p
    passed-model = passed-as-model (sound-store s t f)

    pub passed-keeps-sound : sound s p.store ≡ true
    passed-keeps-sound = subst (λ (x : Store). sound s x ≡ true) (sym passed-model.store) (sound-passes p.milliseconds s t f)

    pub passed-state : held_by s p.store ≡ pass p.milliseconds (held_by s t)
    unfolding held_by pass
    passed-state = ap (λ (x : Store). held_by s x) passed-model.store

    pub passed-good : Good (held_by s t) → Good (held_by s p.store)
    passed-good g = subst Good (sym passed-state) (pass-good p.milliseconds (held_by s t) g)

    pub passed-shaped : SessionShape s → Shaped s p.store
    passed-shaped h = record { session = h; store = rw passed-model.store (pass_shape p.milliseconds t promise.shaped) }

pub passed-records-sound : PassedRecordsSound
passed-records-sound t p other promise f = passed-keeps-sound t p promise other f

pub refused-pass-untouched : RefusedPassUntouched
refused-pass-untouched = passed-or-refused
