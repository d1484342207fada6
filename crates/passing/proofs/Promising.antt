-- The promise of a call that passes time, from what its two steps say.
use Prim.Native.Nat.{ℕ, ◌<◌, ◌^◌}
use mathlib.Core.Path.{◌≡◌, sym, ◌∙◌}
use mathlib.Core.Bool.{Bool, true, false}
use Rattle.store.specs.declared.Store.{Store}
use Rattle.store.specs.Shape.{StoreShape}
use Rattle.store.specs.Sound.{sound_store}
use Rattle.store.specs.Time.{pass_time, PassPromise}
use Rattle.store.proofs.Passing.{store-passes, store-stays, number-sound, number-unsound}

module _ (s : Store) (e : ℕ) (shape : StoreShape s) (small : e < 2 ^ 32) (t : Bool) (p : t ≡ sound_store s) where
  -- the store isn't sound
  pub stays-as : t ≡ false → PassPromise s (record { milliseconds = e; number = 4; store = s })
  stays-as f =
      record {
        number = sym (number-unsound s (sym p ∙ f));
        store = sym (store-stays e s (sym p ∙ f));
        shaped = shape;
        small = small;
      }

  -- it is, and time passes
  pub passes-to : t ≡ true → (z : Store) → z ≡ pass_time e s → PassPromise s (record { milliseconds = e; number = 0; store = z })
  passes-to f z q =
      record {
        number = sym (number-sound s (sym p ∙ f));
        store = q ∙ sym (store-passes e s (sym p ∙ f));
        shaped = shape;
        small = small;
      }
