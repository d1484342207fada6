-- Tests and searches over lists, and byte strings, for the definitions of other crates.
use Rattle.std.specs.Prelude.{ℕ, zero, suc, ◌≡◌, ◌+◌, List, [], ◌∷◌, ◌++◌, Bool, true, false, not, ◌&&◌, ◌||◌, length, take, drop, eqb, Option, bytes_eq}
use Rattle.std.specs.List.{list_all, position_from}
use denote.Ref.{Bor}

-- ---- tests

-- all of these tests hold
unfoldable pub all_of : List Bool → Bool
all_of [] = true
all_of (t ∷ ts) = t && all_of ts

module _ {A : Type 0} where
  -- each element passes the test
  unfoldable pub every : (A → Bool) → List A → Bool
  every p xs = list_all p xs

  -- no element is alike to a later one
  unfoldable pub distinct : (A → A → Bool) → List A → Bool
  distinct alike [] = true
  distinct alike (x ∷ xs) = every (λ y. not (alike x y)) xs && distinct alike xs

  -- what `apart` answers of an element and others says whether it is alike to none of them
  abbrev pub TellsApart : (Bor A → Bor (List A) → Bool → Type 0) → (A → A → Bool) → Type 0
  TellsApart apart alike = (x : Bor A) (ys : Bor (List A)) (r : Bool) → apart x ys r → r ≡ every (λ y. not (alike x.now y)) ys.now

  -- each element, with those behind it
  unfoldable pub behind : List A → List (A × List A)
  behind [] = []
  behind (x ∷ xs) = (x, xs) ∷ behind xs

  -- ---- places

  -- the place of the first element that passes the test, where the list's first element has place i
  unfoldable pub first_from : ℕ → (A → Bool) → List A → Option ℕ
  first_from i p xs = position_from p i xs

  -- the lowest place whose element passes the test
  unfoldable pub first_place : (A → Bool) → List A → Option ℕ
  first_place p xs = position_from p 0 xs

-- the number is one of these
unfoldable pub among : List ℕ → ℕ → Bool
among [] x = false
among (k ∷ ks) x = eqb x k || among ks x

-- the numbers below n, ascending
unfoldable pub up_to : ℕ → List ℕ
up_to zero = []
up_to (suc n) = up_to n ++ (n ∷ [])

-- ---- byte strings

abbrev pub is_zero : ℕ → Bool
is_zero b = eqb b 0

-- the same bytes, and as many
unfoldable pub eq_bytes : List ℕ → List ℕ → Bool
eq_bytes xs ys = bytes_eq xs ys

-- n places that hold the list and then zeros
unfoldable pub pad_to : ℕ → List ℕ → List ℕ
pad_to zero xs = []
pad_to (suc n) [] = 0 ∷ pad_to n []
pad_to (suc n) (x ∷ xs) = x ∷ pad_to n xs

-- a list with xs in place of its first elements, as many as xs has
unfoldable pub front : List ℕ → List ℕ → List ℕ
front xs room = xs ++ drop (length xs) room

-- a list with xs in place of what stood from position at on
unfoldable pub overlay : ℕ → List ℕ → List ℕ → List ℕ
overlay at xs room = take at room ++ xs ++ drop (at + length xs) room
