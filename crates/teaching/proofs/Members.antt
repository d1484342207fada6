-- What is in a list: elements with their places, tests of each, and how many pass.
use Prim.Native.Nat.{ℕ, zero, suc, ◌+◌, ◌≤◌, ◌<◌}
use native.Mathlib.Omega.{arith}
use mathlib.Core.Path.{◌≡◌, refl, sym, ap, ◌∙◌}
use mathlib.Core.Logic.{◌⊎◌, inl, inr}
use mathlib.Core.List.{List, [], ◌∷◌, ◌++◌, map}
use mathlib.Core.Bool.{Bool, true, false, cond, not}
use lib.ListN.{length, get_or, drop, length-drop}
use lib.Seq.{drop-drop, get_or-drop}
use lib.Dec.{eqb}
use borrow.Author.Tests.{eqb-true, not-true}
use Rattle.lists.specs.Lists.{every, distinct, among}
use Rattle.lists.proofs.Cases.{by-test, never, split, and_first, and_second, and_intro, or-false}

module _ {A : Type 0} where
  unfoldable pub Member : A → List A → Type 0
  Member x [] = ⊥
  Member x (y ∷ ys) = (x ≡ y) ⊎ Member x ys

  -- what holds of each element
  unfoldable pub Each : (A → Type 0) → List A → Type 0
  Each P [] = Unit {0}
  Each P (x ∷ xs) = P x × Each P xs

  pub each_map : (P Q : A → Type 0) → ((x : A) → P x → Q x) → (xs : List A) → Each P xs → Each Q xs
  unfolding Each
  each_map P Q f [] h = tt
  each_map P Q f (x ∷ xs) h = (f x h.0, each_map P Q f xs h.1)

  -- ---- places

  pub record Spot (x : A) (xs : List A) : Type 0 where
    pub place : ℕ
    pub inside : place < length xs
    pub is : (d : A) → get_or xs place d ≡ x

  pub spot : (x : A) (xs : List A) → Member x xs → Spot x xs
  unfolding Member
  spot x [] m = absurd m
  spot x (y ∷ ys) (inl e) = record { place = 0; inside = omega arith; is = λ d. sym e }
  spot x (y ∷ ys) (inr m) = let s = spot x ys m in record { place = suc s.place; inside = omega (arith, s.inside); is = λ d. s.is d }

  pub at_place : (xs : List A) (i : ℕ) (d : A) → i < length xs → Member (get_or xs i d) xs
  unfolding Member
  at_place [] i d l = absurd (omega arith)
  at_place (x ∷ xs) zero d l = inl refl
  at_place (x ∷ xs) (suc i) d l = inr (at_place xs i d (omega arith))

  -- the list from place i on starts with x
  module _ (all : List A) (i : ℕ) (x : A) (xs : List A) where
    pub drop-next : drop i all ≡ x ∷ xs → drop (i + 1) all ≡ xs
    drop-next q = sym (drop-drop 1 i all) ∙ ap (drop 1) q

    pub drop-first : (d : A) → drop i all ≡ x ∷ xs → get_or all i d ≡ x
    drop-first d q =
        let z : i ≡ i + 0 = omega arith in
        ap (λ (k : ℕ). get_or all k d) z ∙ (sym (get_or-drop i all 0 d) ∙ ap (λ (l : List A). get_or l 0 d) q)

    pub drop-within : drop i all ≡ x ∷ xs → i < length all
    drop-within q = omega (arith, length-drop i all, ap length q)

  -- ---- joined lists

  pub member-left : (x : A) (xs ys : List A) → Member x xs → Member x (xs ++ ys)
  unfolding Member
  member-left x [] ys m = absurd m
  member-left x (z ∷ xs) ys (inl e) = inl e
  member-left x (z ∷ xs) ys (inr m) = inr (member-left x xs ys m)

  pub member_right : (x : A) (xs ys : List A) → Member x ys → Member x (xs ++ ys)
  unfolding Member
  member_right x [] ys m = m
  member_right x (z ∷ xs) ys m = inr (member_right x xs ys m)

  pub member-either : (x : A) (xs ys : List A) → Member x (xs ++ ys) → Member x xs ⊎ Member x ys
  unfolding Member
  member-either x [] ys m = inr m
  member-either x (z ∷ xs) ys (inl e) = inl (inl e)
  member-either x (z ∷ xs) ys (inr m) = split (member-either x xs ys m) (λ k. inl (inr k)) (λ k. inr k)

  -- ---- tests

  pub every-member : (p : A → Bool) (xs : List A) (x : A) → every p xs ≡ true → Member x xs → p x ≡ true
  unfolding every Member
  every-member p [] x h m = absurd m
  every-member p (y ∷ ys) x h (inl e) = ap p e ∙ and_first (p y) (every p ys) h
  every-member p (y ∷ ys) x h (inr m) = every-member p ys x (and_second (p y) (every p ys) h) m

  pub members-every : (p : A → Bool) (xs : List A) → ((x : A) → Member x xs → p x ≡ true) → every p xs ≡ true
  unfolding every Member
  members-every p [] f = refl
  members-every p (y ∷ ys) f = and_intro (p y) (every p ys) (f y (inl refl)) (members-every p ys (λ x m. f x (inr m)))

  pub every-each : (p : A → Bool) (P : A → Type 0) (xs : List A) → ((x : A) → Member x xs → p x ≡ true → P x) → every p xs ≡ true → Each P xs
  unfolding every Member Each
  every-each p P [] f h = tt
  every-each p P (y ∷ ys) f h =
      (f y (inl refl) (and_first (p y) (every p ys) h), every-each p P ys (λ x m. f x (inr m)) (and_second (p y) (every p ys) h))

  pub distinct_append : (alike : A → A → Bool) (xs ys : List A) → distinct alike xs ≡ true → distinct alike ys ≡ true
      → ((x y : A) → Member x xs → Member y ys → alike x y ≡ false) → distinct alike (xs ++ ys) ≡ true
  unfolding distinct Member
  distinct_append alike [] ys h k f = k
  distinct_append alike (x ∷ xs) ys h k f =
      let others = every (λ y. not (alike x y)) xs in
      and_intro (every (λ y. not (alike x y)) (xs ++ ys)) (distinct alike (xs ++ ys))
      (members-every (λ y. not (alike x y)) (xs ++ ys)
      (λ y m.
      split (member-either y xs ys m)
      (λ a. every-member (λ z. not (alike x z)) xs y (and_first others (distinct alike xs) h) a)
      (λ b. rw (f x y (inl refl) b))))
      (distinct_append alike xs ys (and_second others (distinct alike xs) h) k (λ z y m n. f z y (inr m) n))

-- ---- mapped lists

module _ {A B : Type 0} (f : A → B) where
  pub member-map : (x : A) (xs : List A) → Member x xs → Member (f x) (map f xs)
  unfolding Member
  member-map x [] m = absurd m
  member-map x (y ∷ ys) (inl e) = inl (ap f e)
  member-map x (y ∷ ys) (inr m) = inr (member-map x ys m)

  pub record Source (y : B) (xs : List A) : Type 0 where
    pub from : A
    pub member : Member from xs
    pub is : y ≡ f from

  pub map-member : (y : B) (xs : List A) → Member y (map f xs) → Source y xs
  unfolding Member
  map-member y [] m = absurd m
  map-member y (x ∷ xs) (inl e) = record { from = x; member = inl refl; is = e }
  map-member y (x ∷ xs) (inr m) = let s = map-member y xs m in record { from = s.from; member = inr s.member; is = s.is }

  pub distinct-map : (alike : A → A → Bool) (same : B → B → Bool) (xs : List A) → distinct alike xs ≡ true
      → ((x y : A) → Member x xs → Member y xs → alike x y ≡ false → same (f x) (f y) ≡ false) → distinct same (map f xs) ≡ true
  unfolding distinct Member
  distinct-map alike same [] h g = refl
  distinct-map alike same (x ∷ xs) h g =
      let others = every (λ y. not (alike x y)) xs in
      and_intro (every (λ y. not (same (f x) y)) (map f xs)) (distinct same (map f xs))
      (members-every (λ y. not (same (f x) y)) (map f xs)
      (λ y m.
      let s = map-member y xs m in
      let a : alike x s.from ≡ false =
      not-true (alike x s.from) (every-member (λ z. not (alike x z)) xs s.from (and_first others (distinct alike xs) h) s.member) in
      rw (s.is, g x s.from (inl refl) (inr s.member) a)))
      (distinct-map alike same xs (and_second others (distinct alike xs) h) (λ y z m n. g y z (inr m) (inr n)))

pub among-member : (ks : List ℕ) (x : ℕ) → among ks x ≡ true → Member x ks
unfolding among Member
among-member [] x h = never refl (sym h)
among-member (k ∷ ks) x h =
    by-test (eqb x k)
    (λ e. inl (eqb-true x k e))
    (λ e. inr (among-member ks x (sym (or-false (eqb x k) (among ks x) e) ∙ h)))

-- ---- how many pass a test

module _ {A : Type 0} (p : A → Bool) where
  unfoldable pub hits : List A → ℕ
  hits [] = 0
  hits (x ∷ xs) = cond (p x) 1 0 + hits xs

  pub hits-member : (x : A) (xs : List A) → Member x xs → p x ≡ true → 1 ≤ hits xs
  unfolding Member hits
  hits-member x [] m h = absurd m
  hits-member x (y ∷ ys) (inl e) h = rw (sym (ap p e) ∙ h) (omega arith)
  hits-member x (y ∷ ys) (inr m) h = omega (arith, hits-member x ys m h)

  hits-none : (xs : List A) → ((x : A) → Member x xs → p x ≡ false) → hits xs ≡ 0
  unfolding Member hits
  hits-none [] f = refl
  hits-none (x ∷ xs) f = rw (f x (inl refl), hits-none xs (λ y m. f y (inr m)))

  -- at most one, where any two that pass are alike and no two are alike
  pub hits-once : (alike : A → A → Bool) (xs : List A) → distinct alike xs ≡ true → ((x y : A) → p x ≡ true → p y ≡ true → alike x y ≡ true) → hits xs ≤ 1
  unfolding distinct hits
  hits-once alike [] h f = omega arith
  hits-once alike (x ∷ xs) h f =
      let others = every (λ y. not (alike x y)) xs in
      let few = hits-once alike xs (and_second others (distinct alike xs) h) f in
      by-test (p x)
      (λ t.
      let z : hits xs ≡ 0 =
      hits-none xs
      (λ y m.
      by-test (p y)
      (λ u. never (f x y t u) (not-true (alike x y) (every-member (λ z. not (alike x z)) xs y (and_first others (distinct alike xs) h) m)))
      (λ u. u)) in
      rw (t, z) (omega arith))
      (λ t. rw t (omega arith))

module _ {L A : Type 0} (R : L → A → Bool) where
  -- for each element of xs, how many of ls belong to it
  unfoldable pub tally : List L → List A → ℕ
  tally ls [] = 0
  tally ls (x ∷ xs) = hits (λ l. R l x) ls + tally ls xs

  pub tally-none : (xs : List A) → tally [] xs ≡ 0
  unfolding tally hits
  tally-none [] = refl
  tally-none (x ∷ xs) = let n = tally-none xs in omega arith

  pub tally-more : (l : L) (ls : List L) (xs : List A) → tally (l ∷ ls) xs ≡ hits (R l) xs + tally ls xs
  unfolding tally hits
  tally-more l ls [] = refl
  tally-more l ls (x ∷ xs) = let n = tally-more l ls xs in omega arith

  pub tally-most : (ls : List L) (xs : List A) → ((x : A) → hits (λ l. R l x) ls ≤ 1) → tally ls xs ≤ length xs
  unfolding tally
  tally-most ls [] f = omega arith
  tally-most ls (x ∷ xs) f = omega (arith, f x, tally-most ls xs f)
