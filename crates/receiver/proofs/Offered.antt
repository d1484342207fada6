-- For every cutting of every stream, with times at positions that calls come to, there is a list of calls that offers it.
use Prim.Native.Nat.{ℕ, ◌^◌, ◌≤◌}
use mathlib.Core.Path.{◌≡◌, refl, sym, subst, ◌∙◌, ap}
use mathlib.Core.Logic.{inl, inr, ⊎_elim}
use mathlib.Core.List.{List, [], ◌∷◌, ◌++◌}
use mathlib.Core.Bool.{Bool, true}
use lib.ListN.{length, take}
use lib.Dec.{eqb}
use borrow.Author.Tests.{eqb-true, ltb-true}
use Rattle.lists.specs.Lists.{every, front}
use Rattle.lists.proofs.Cases.{by-test}
use Rattle.store.specs.declared.Store.{Store}
use Rattle.store.specs.Shape.{StoreShape}
use Rattle.store.specs.Time.{Passed, pass_number, pass_store, PassPromise}
use Rattle.session.specs.declared.Session.{Session}
use Rattle.session_soundness.specs.Sound.{sound}
use Rattle.session.proofs.Shapes.{holding-shape}
use Rattle.streams.specs.Model.{Item, bytes}
use Rattle.streams.specs.Calls.{Step, reading, happening, read_call, Offers, on_step, reads_in, Part, piece, moment, on_part, timeline, without, WithinCuts, reachable}
use Rattle.streams.specs.Claim.{Lawful}
use Rattle.lists.proofs.Every.{every-nil}
use Rattle.streams.proofs.Basics.{every-cons, every-both, every_drop}
use Rattle.streams.proofs.Theorem.{call-good}
use Rattle.streams.proofs.Offering.{within_has, offering}
use Rattle.receiver.specs.Model.{State, Event, held_by, is_byte, is_time, peers, reply_room}
use Rattle.receiver.specs.Good.{Good}
use Rattle.receiver.specs.Promise.{Made, Shaped, ReadPromise, call_of, outcome_of, session_of}
use Rattle.receiver.specs.Demand3.{Called, reads, passes, Chain, OffersTo, WithinCutsOf, RoomsAre, Offering}
use Rattle.receiver.proofs.Held.{state-fits}
use Rattle.receiver.proofs.OneRead.{model_call, made-taken, made-store, made-state, made-sound, kept, taken-session}
use Rattle.receiver.proofs.OnePass.{passed-keeps-sound, passed-state, passed-shaped}
use Rattle.receiver.proofs.Chained.{good-held, closed-held}

-- a call that keeps its promise: what the promise says of it is what it is
abbrev made : Session → Store → List ℕ → List ℕ → Made
made s t room bs =
    let c = call_of s t bs (length room) in
    record {
      piece = bs;
      room = room;
      outcome = outcome_of c;
      session = session_of s c;
      store = c.state.store;
      final = front c.reply room;
    }

promised : (s : Session) (t : Store) (room bs : List ℕ) → Shaped s t → every is_byte bs ≡ true → ReadPromise s t (made s t room bs)
promised s t room bs sh q = record { outcome = refl; session = refl; store = refl; final = refl; shaped = sh; bytes = q }

abbrev pub spent : Store → ℕ → Passed
spent t e = record { milliseconds = e; number = pass_number t; store = pass_store e t }

pub pass-promised : (t : Store) (e : ℕ) → StoreShape t → is_time e ≡ true → PassPromise t (spent t e)
pass-promised t e sh q = record { number = refl; store = refl; shaped = sh; small = ltb-true e (2 ^ 32) q }

-- the calls of a list of steps
unfoldable calls_of : Session → Store → List ℕ → List (Step Event) → List Called
calls_of s t room [] = []
calls_of s t room (reading bs n ∷ steps) =
    reads (made s t room bs) ∷ calls_of (made s t room bs).session (made s t room bs).store room steps
calls_of s t room (happening e ∷ steps) = passes (spent t e) ∷ calls_of s (spent t e).store room steps

rooms : (s : Session) (t : Store) (room : List ℕ) (steps : List (Step Event)) → RoomsAre room (calls_of s t room steps)
unfolding RoomsAre calls_of
rooms s t room [] = tt
rooms s t room (reading bs n ∷ steps) = (refl, rooms (made s t room bs).session (made s t room bs).store room steps)
rooms s t room (happening e ∷ steps) = rooms s (spent t e).store room steps

-- pieces of bytes and 32-bit times
abbrev on_call : Step Event → Bool
on_call = on_step (every is_byte) is_time

module _ (law : Lawful peers Good) where
  -- the shape is kept
  pub next-shaped : (s : Session) (t : Store) (m : Made) → ReadPromise s t m → sound s t ≡ true → Good (held_by s t) → Shaped m.session m.store
  next-shaped s t m p f g =
      let k = (model_call s t m).state in
      let n = call-good peers law (held_by s t) m.piece (length m.room) g p.bytes in
      by-test (eqb (model_call s t m).taken 0)
      (λ e. let same = kept s t m p f (made-taken s t m p f ∙ eqb-true (model_call s t m).taken 0 e) in rw (same.0, same.1) p.shaped)
      (λ e.
      record {
        session =
            rw (taken-session s t m p f e)
            (holding-shape n.connection p.shaped.session.sending k.unfinished (state-fits k n.sound) n.unfinished);
        store = rw (made-store s t m p f) n.store;
      })

  module _ (room : List ℕ) where
    chain : (s : Session) (t : Store) (steps : List (Step Event)) → Shaped s t → sound s t ≡ true → every on_call steps ≡ true
        → Chain s t (calls_of s t room steps)
    unfolding Chain calls_of
    chain s t [] sh f q = tt
    chain s t (reading bs n ∷ steps) sh f q =
        let d = every-cons on_call (reading bs n) steps q in
        let p = promised s t room bs sh d.0 in
        let g = good-held s t sh f in
        let m = made s t room bs in
        (p, chain m.session m.store steps (next-shaped s t m p f g) (made-sound s t m p f law g) d.1)
    chain s t (happening e ∷ steps) sh f q =
        let d = every-cons on_call (happening e) steps q in
        let p = pass-promised t e sh.store d.0 in
        let k = spent t e in
        (p, chain s k.store steps (passed-shaped t k p s f sh.session) (passed-keeps-sound t k p s f) d.1)

    offered : (s : Session) (t : Store) (rest : List (Item Event)) (steps : List (Step Event)) → Shaped s t → sound s t ≡ true
        → every on_call steps ≡ true → every (reads_in (length room)) steps ≡ true → Offers peers (held_by s t) rest steps
        → OffersTo s rest (calls_of s t room steps)
    unfolding Offers OffersTo calls_of
    offered s t rest [] sh f q r o = ⊎_elim (λ e. inl e) (λ c. inr (sym (closed-held s t) ∙ c.0, c.1)) o
    offered s t rest (reading bs n ∷ steps) sh f q r o =
        let d = every-cons on_call (reading bs n) steps q in
        let k = every-cons (reads_in (length room)) (reading bs n) steps r in
        let e = eqb-true n (length room) k.0 in
        let p = promised s t room bs sh d.0 in
        let g = good-held s t sh f in
        let m = made s t room bs in
        let w : Offers peers (held_by m.session m.store) o.1 steps =
        subst (λ (x : State). Offers peers x o.1 steps) (sym (made-state s t m p f law g))
        (subst (λ (x : ℕ). Offers peers (read_call peers (held_by s t) bs x).state o.1 steps) e o.3) in
        let n-is : (read_call peers (held_by s t) bs n).taken ≡ m.outcome.taken =
        ap (λ (x : ℕ). (read_call peers (held_by s t) bs x).taken) e ∙ sym (made-taken s t m p f) in (
          ⊎_elim (λ c. inl (sym (closed-held s t) ∙ c)) inr o.0,
          o.1,
          ap (λ (x : ℕ). bytes (take x bs) ++ o.1) (sym n-is) ∙ o.2,
          offered m.session m.store o.1 steps (next-shaped s t m p f g) (made-sound s t m p f law g) d.1 k.1 w,
        )
    offered s t rest (happening e ∷ steps) sh f q r o =
        let d = every-cons on_call (happening e) steps q in
        let p = pass-promised t e sh.store d.0 in
        let k = spent t e in
        let w = subst (λ (x : State). Offers peers x o.0 steps) (sym (passed-state t k p s f)) o.2 in (
          o.0,
          o.1,
          offered s k.store o.0 steps (passed-shaped t k p s f sh.session) (passed-keeps-sound t k p s f) d.1
              (every-cons (reads_in (length room)) (happening e) steps r).1 w,
        )

    within : (s : Session) (t : Store) (parts : List (Part Event)) (steps : List (Step Event)) → Shaped s t → sound s t ≡ true
        → every on_call steps ≡ true → every (reads_in (length room)) steps ≡ true → WithinCuts peers (held_by s t) parts steps
        → WithinCutsOf parts (calls_of s t room steps)
    unfolding WithinCuts WithinCutsOf calls_of
    within s t parts [] sh f q r o = tt
    within s t parts (reading bs n ∷ steps) sh f q r o =
        let d = every-cons on_call (reading bs n) steps q in
        let k = every-cons (reads_in (length room)) (reading bs n) steps r in
        let e = eqb-true n (length room) k.0 in
        let p = promised s t room bs sh d.0 in
        let g = good-held s t sh f in
        let m = made s t room bs in
        let w : WithinCuts peers (held_by m.session m.store) (without m.outcome.taken parts) steps =
        subst (λ (x : ℕ). WithinCuts peers (held_by m.session m.store) (without x parts) steps) (sym (made-taken s t m p f))
        (subst (λ (x : State). WithinCuts peers x (without (model_call s t m).taken parts) steps) (sym (made-state s t m p f law g))
        (subst (λ (x : ℕ). WithinCuts peers (read_call peers (held_by s t) bs x).state (without (read_call peers (held_by s t) bs x).taken parts) steps) e o.1)) in (
          o.0,
          within m.session m.store (without m.outcome.taken parts) steps (next-shaped s t m p f g) (made-sound s t m p f law g) d.1 k.1 w,
        )
    within s t parts (happening e ∷ steps) sh f q r o =
        let d = every-cons on_call (happening e) steps q in
        let p = pass-promised t e sh.store d.0 in
        let k = spent t e in
        let w = subst (λ (x : State). WithinCuts peers x o.0 steps) (sym (passed-state t k p s f)) o.2 in (
          o.0,
          o.1,
          within s k.store o.0 steps (passed-shaped t k p s f sh.session) (passed-keeps-sound t k p s f) d.1
              (every-cons (reads_in (length room)) (happening e) steps r).1 w,
        )

  no-times : (parts : List (Part Event)) → every (on_part (every is_byte) is_time) parts ≡ true → every (on_part (every is_byte) (λ e. true)) parts ≡ true
  no-times [] q = every-nil (on_part (every is_byte) (λ e. true))
  no-times (part ∷ parts) q =
      let d = every-cons (on_part (every is_byte) is_time) part parts q in
      every-both (on_part (every is_byte) (λ e. true)) part parts (bytes_of part d.0) (no-times parts d.1)
    where
      bytes_of : (part : Part Event) → on_part (every is_byte) is_time part ≡ true → on_part (every is_byte) (λ (e : ℕ). true) part ≡ true
      bytes_of (piece bs) h = h
      bytes_of (moment e) h = refl

  pub every-cutting : (s : Session) (t : Store) → sound s t ≡ true → Shaped s t → (parts : List (Part Event)) (room : List ℕ)
      → every (on_part (every is_byte) is_time) parts ≡ true → reply_room ≤ length room → reachable peers (held_by s t) (timeline parts) ≡ true
      → Offering s t parts room
  every-cutting s t f sh parts room q l r =
      let o = offering peers law (held_by s t) parts (length room) (good-held s t sh f) (no-times parts q) l r in
      let y = within_has peers (every is_byte) is_time (every-nil is_byte) (λ n xs h. every_drop is_byte n xs h) (held_by s t) parts o.steps q o.within in
      record {
        calls = calls_of s t room o.steps;
        rooms = rooms s t room o.steps;
        chain = chain room s t o.steps sh f y;
        offers = offered room s t (timeline parts) o.steps sh f y o.calls o.offers;
        within = within room s t parts o.steps sh f y o.calls o.within;
      }
