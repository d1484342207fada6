-- For every timeline that a list of calls can come to, and every cutting of it, there is a list that offers it, with no piece across a cut or an
-- event.
use mathlib.Core.Path.{◌≡◌, refl, sym, ap, subst, ◌∙◌}
use Prim.Native.Nat.{ℕ, zero, suc, ◌+◌, ◌≤◌}
use native.Mathlib.Omega.{arith}
use mathlib.Core.Logic.{inl, inr}
use mathlib.Core.List.{List, [], ◌∷◌, ◌++◌}
use mathlib.Core.Bool.{Bool, true, false}
use lib.ListN.{length, take, drop, length-append, length-drop, length-map}
use borrow.Author.Tests.{eq-eqb}
use Rattle.lists.specs.Lists.{every}
use Rattle.streams.specs.Model.{Receiver, Item, byte, bytes, bytes_in}
use Rattle.streams.specs.Calls.{Step, reading, happening, scan, read_call, Offers, on_step, of_bytes, reads_in, Part, piece, moment, on_part, timeline, begun, current, without, WithinCuts, reachable}
use Rattle.streams.specs.Claim.{Lawful, Offering, EveryOffering}
use Rattle.lists.proofs.Cases.{by-test}
use Rattle.lists.proofs.Every.{every-nil}
use Rattle.streams.proofs.Basics.{every-cons, every-both, every_drop}
use Rattle.streams.proofs.OneCall.{call-reads, as-model}
use Rattle.streams.proofs.Theorem.{call-inside, call-good}
use Rattle.streams.proofs.Reachable.{eventless-bytes, reached-closed, scan-reachable}

bytes-length : (E : Type 0) (xs : List ℕ) → length (bytes {E = E} xs) ≡ length xs
bytes-length E xs = rw length-map

-- A piece is what was taken of it and what is left
bytes-split : {E : Type 0} (n : ℕ) (xs : List ℕ) (later : List (Item E)) → bytes (take n xs) ++ (bytes (drop n xs) ++ later) ≡ bytes xs ++ later
bytes-split zero xs later = refl
bytes-split (suc n) [] later = refl
bytes-split (suc n) (x ∷ xs) later = ap (byte x ∷◌) (bytes-split n xs later)

-- The bytes of a piece and of what follows
bytes-behind : {E : Type 0} (xs : List ℕ) (later : List (Item E)) → xs ++ bytes_in later ≡ bytes_in (bytes xs ++ later)
unfolding bytes_in
bytes-behind [] later = refl
bytes-behind (x ∷ xs) later = ap (x ∷◌) (bytes-behind xs later)

module _ {E : Type 0} (p : List ℕ → Bool) (q : E → Bool) where
  abbrev Has : List (Part E) → Type 0
  Has parts = every (on_part p q) parts ≡ true

  current-has : p [] ≡ true → (parts : List (Part E)) → Has parts → p (current parts) ≡ true
  unfolding current
  current-has h [] y = h
  current-has h (piece [] ∷ parts) y = current-has h parts (every-cons (on_part p q) (piece []) parts y).1
  current-has h (piece (b ∷ bs) ∷ parts) y = (every-cons (on_part p q) (piece (b ∷ bs)) parts y).0
  current-has h (moment e ∷ parts) y = h

  without-has : ((n : ℕ) (xs : List ℕ) → p xs ≡ true → p (drop n xs) ≡ true) → (n : ℕ) (parts : List (Part E)) → Has parts → Has (without n parts)
  unfolding without
  without-has h n [] y = y
  without-has h n (piece [] ∷ parts) y = without-has h n parts (every-cons (on_part p q) (piece []) parts y).1
  without-has h n (piece (b ∷ bs) ∷ parts) y =
      let d = every-cons (on_part p q) (piece (b ∷ bs)) parts y in
      every-both (on_part p q) (piece (drop n (b ∷ bs))) parts (h n (b ∷ bs) d.0) d.1
  without-has h n (moment e ∷ parts) y = y

  begun-has : (parts : List (Part E)) → Has parts → Has (begun parts)
  unfolding begun
  begun-has [] y = y
  begun-has (piece [] ∷ parts) y = begun-has parts (every-cons (on_part p q) (piece []) parts y).1
  begun-has (piece (b ∷ bs) ∷ parts) y = y
  begun-has (moment e ∷ parts) y = y

module _ {S A E : Type 0} (R : Receiver S A E) where
  -- An empty piece is passed over
  within-skip : (s : S) (parts : List (Part E)) (steps : List (Step E)) → WithinCuts R s parts steps → WithinCuts R s (piece [] ∷ parts) steps
  unfolding WithinCuts current without begun
  within-skip s parts [] w = tt
  within-skip s parts (reading bs room ∷ steps) w = w
  within-skip s parts (happening e ∷ steps) w = w

  -- What the pieces and the events have, every step has
  pub within_has : (p : List ℕ → Bool) (q : E → Bool) → p [] ≡ true
      → ((n : ℕ) (xs : List ℕ) → p xs ≡ true → p (drop n xs) ≡ true) → (s : S) (parts : List (Part E)) (steps : List (Step E))
      → every (on_part p q) parts ≡ true → WithinCuts R s parts steps → every (on_step p q) steps ≡ true
  unfolding WithinCuts
  within_has p q none rest s parts [] y w = every-nil (on_step p q)
  within_has p q none rest s parts (reading bs room ∷ steps) y w =
      let c = read_call R s bs room in
      every-both (on_step p q) (reading bs room) steps (rw w.0 (current-has p q none parts y))
      (within_has p q none rest c.state (without c.taken parts) steps (without-has p q rest c.taken parts y) w.1)
  within_has p q none rest s parts (happening e ∷ steps) y w =
      let d = every-cons (on_part p q) (moment e) w.0 (subst (λ (l : List (Part E)). every (on_part p q) l ≡ true) w.1 (begun-has p q parts y)) in
      every-both (on_step p q) (happening e) steps d.0 (within_has p q none rest (R.act e s) w.0 steps d.1 w.2)

  module _ {Good : S → Type 0} (law : Lawful R Good) (room : ℕ) (enough : R.least ≤ room) where
    abbrev on_bytes : Part E → Bool
    on_bytes = on_part (every R.is_byte) (λ e. true)

    -- On an open session a call reads, and what it leaves is reachable from where it came to
    call-reachable : (s : S) (p : List ℕ) (later : List (Item E)) → Good s → R.closed s ≡ false → reachable R s (bytes p ++ later) ≡ true
        → reachable R (read_call R s p room).state (bytes (drop (read_call R s p room).taken p) ++ later) ≡ true
    call-reachable s p later g t r =
        let n = (scan R s p).taken in
        rw (call-reads R s p room enough (law.good-sound s g) t)
        (sym (scan-reachable R law s p (bytes (drop n p) ++ later) t) ∙ (ap (reachable R s) (bytes-split n p later) ∙ r))

    -- n is at least the number of bytes, events and parts that are left
    offer : (n : ℕ) (s : S) (parts : List (Part E)) → length (timeline parts) + length parts ≤ n → Good s → every on_bytes parts ≡ true
        → reachable R s (timeline parts) ≡ true → Offering R s parts room
    unfolding Offers WithinCuts current without begun timeline
    offer n s [] l g q r =
        record { steps = []; offers = inl refl; within = tt; calls = every-nil (reads_in room); on-bytes = every-nil (of_bytes R) }
    offer zero s (part ∷ parts) l g q r = let z : ⊥ = omega arith in absurd z
    offer (suc n) s (piece [] ∷ parts) l g q r =
        let o = offer n s parts (omega arith) g (every-cons on_bytes (piece []) parts q).1 r in
        record { steps = o.steps; offers = o.offers; within = within-skip s parts o.steps o.within; calls = o.calls; on-bytes = o.on-bytes }
    offer (suc n) s (moment e ∷ parts) l g q r =
        let o = offer n (R.act e s) parts (omega arith) (law.good-act e s g) (every-cons on_bytes (moment e) parts q).1 (unfold reachable in r) in
        record {
          steps = happening e ∷ o.steps;
          offers = (timeline parts, refl, o.offers);
          within = (parts, refl, o.within);
          calls = every-both (reads_in room) (happening e) o.steps refl o.calls;
          on-bytes = every-both (of_bytes R) (happening e) o.steps refl o.on-bytes;
        }
    offer (suc n) s (piece (b ∷ bs) ∷ parts) l g q r =
        by-test (R.closed s)
        (λ t.
        let k = eventless-bytes E (bytes bs ++ timeline parts) (sym (reached-closed R s b (bytes bs ++ timeline parts) t) ∙ r) in
        record {
          steps = [];
          offers = inr (t, (b ∷ k.0, ap (byte b ∷◌) k.1));
          within = tt;
          calls = every-nil (reads_in room);
          on-bytes = every-nil (of_bytes R);
        })
        (λ t.
        let p = b ∷ bs in
        let c = read_call R s p room in
        let d = every-cons on_bytes (piece p) parts q in
        let m = (as-model R s p room (law.good-sound s g)).moves enough t (omega arith) in
        let i = call-inside R law s p room in
        let f : length (bytes {E = E} (drop c.taken p) ++ timeline parts) + suc (length parts) ≤ n =
        omega (arith, length-append (bytes {E = E} (drop c.taken p)) (timeline parts), length-append (bytes {E = E} p) (timeline parts), bytes-length E (drop c.taken p), bytes-length E p, length-drop c.taken p) in
        let o =
        offer n c.state (piece (drop c.taken p) ∷ parts) f (call-good R law s p room g d.0)
        (every-both on_bytes (piece (drop c.taken p)) parts (every_drop R.is_byte c.taken p d.0) d.1)
        (call-reachable s p (timeline parts) g t r) in
        record {
          steps = reading p room ∷ o.steps;
          offers = (
            inr (bytes_in (timeline parts), bytes-behind p (timeline parts)),
            bytes (drop c.taken p) ++ timeline parts,
            bytes-split c.taken p (timeline parts),
            o.offers,
          );
          within = (refl, o.within);
          calls = every-both (reads_in room) (reading p room) o.steps (eq-eqb room room refl) o.calls;
          on-bytes = every-both (of_bytes R) (reading p room) o.steps d.0 o.on-bytes;
        })

  pub offering : {Good : S → Type 0} → Lawful R Good → EveryOffering R Good
  offering law s parts room g q enough r = offer law room enough (length (timeline parts) + length parts) s parts (omega arith) g q r
