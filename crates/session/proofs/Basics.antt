-- What the proofs of functions share.
use mathlib.Core.Path.{◌≡◌, sym, ◌∙◌}
use mathlib.Core.Bool.{Bool, true, false, not}
use borrow.Author.Tests.{not-true, not-false}
use Rattle.session.specs.declared.Binding.{Binding}

-- what a read past the end of the bindings gives
abbrev pub blank : Binding
blank = record { bound = 0; updated = 0; id = 0; previous = 0 }

-- what a function said of its result, where the result is known
pub told-true : {t u : Bool} → t ≡ u → t ≡ true → true ≡ u
told-true e h = sym h ∙ e

pub told-false : {t u : Bool} → t ≡ u → t ≡ false → false ≡ u
told-false e h = sym h ∙ e

pub told-not-true : {t u : Bool} → t ≡ u → not t ≡ true → false ≡ u
told-not-true {t} e h = told-false e (not-true t h)

pub told-not-false : {t u : Bool} → t ≡ u → not t ≡ false → true ≡ u
told-not-false {t} e h = told-true e (not-false t h)

pub ruleset told = (told-true, told-false, told-not-true, told-not-false)
