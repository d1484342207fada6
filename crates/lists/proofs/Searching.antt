-- A loop that looks for the lowest place: from place i on the list says what the whole list says.
use Rattle.std.specs.Prelude.{None, Some}
use Prim.Native.Nat.{ℕ, ◌+◌, ◌≤◌, ◌<◌}
use native.Mathlib.Omega.{arith}
use mathlib.Core.Path.{◌≡◌, sym, ◌∙◌}
use mathlib.Core.Bool.{Bool, true, false}
use mathlib.Core.List.{List}
use lib.ListN.{length, get_or, drop}
use Rattle.lists.specs.Lists.{first_from, first_place}
use Rattle.lists.proofs.Places.{place-from, from-here, from_next, from_end}

pub record Searching {A : Type 0} (p : A → Bool) (xs : List A) (n i : ℕ) : Type 0 where
  pub size : length xs ≡ n
  pub within : i ≤ n
  pub rest : first_place p xs ≡ first_from i p (drop i xs)

pub search-start : {A : Type 0} {p : A → Bool} {xs : List A} {n : ℕ} → length xs ≡ n → Searching p xs n 0
search-start {A} {p} {xs} {n} e = record { size = e; within = omega arith; rest = place-from p xs }

module _ {A : Type 0} {p : A → Bool} {xs : List A} {n i : ℕ} (r : Searching p xs n i) where
  pub search-here : (d : A) → i < n → p (get_or xs i d) ≡ true → Some i ≡ first_place p xs
  search-here d l t = sym (r.rest ∙ from-here p xs i d (omega (arith, r.size)) t)

  pub search-next : (d : A) → i < n → p (get_or xs i d) ≡ false → Searching p xs n (i + 1)
  search-next d l t = record { size = r.size; within = omega arith; rest = r.rest ∙ from_next p xs i d (omega (arith, r.size)) t }

  pub search-end : n ≤ i → None ≡ first_place p xs
  search-end l = sym (r.rest ∙ from_end p xs i (omega (arith, r.size)))
