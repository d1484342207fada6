-- Every list of reading calls and events comes to what the byte model says, for every lawful receiver.
use mathlib.Core.Path.{◌≡◌, refl, sym, ap, ◌∙◌}
use Prim.Native.Nat.{ℕ, zero, suc, ◌≤◌}
use native.Mathlib.Omega.{arith}
use mathlib.Core.Logic.{⊎_elim}
use mathlib.Core.List.{List, [], ◌∷◌, ◌++◌, flatten}
use mathlib.Core.Bool.{true, false}
use lib.ListN.{length, take}
use lib.Dec.{ltb}
use borrow.Author.Tests.{ltb-true, ltb-false}
use Rattle.lists.specs.Lists.{every}
use Rattle.streams.specs.Model.{Receiver, Item, byte, event, bytes, feed_all}
use Rattle.streams.specs.Calls.{Call, Step, reading, happening, Result, stay, result_of, scan, read_call, respond, run_calls, taken_of, Offers, of_bytes}
use Rattle.streams.specs.Claim.{Lawful, EachAsModel, EachSound, EveryDivision}
use Rattle.streams.proofs.OneCall.{scan-nil, scan-quiet, scan-answered, scan-inside, call-short, call-unsound, call-closed, call-reads, as-model}
use Rattle.lists.proofs.Cases.{by-test}
use Rattle.streams.proofs.Basics.{by-fed, every-cons, fed-none, fed-quiet, fed-answered, fed-event}

bytes_take : {E : Type 0} (n : ℕ) (xs : List ℕ) → ◌≡◌ {A = List (Item E)} (bytes (take n xs)) (take n (bytes xs))
bytes_take zero xs = refl
bytes_take (suc n) [] = refl
bytes_take (suc n) (x ∷ xs) = ap (byte x ∷◌) (bytes_take n xs)

module _ {S A E : Type 0} (R : Receiver S A E) where
  -- The result does not depend on the bytes unfinished at the start
  pub any-start : (s : S) (u v : List ℕ) (items : List (Item E)) → result_of (feed_all R s u items) ≡ result_of (feed_all R s v items)
  any-start s u v [] = rw (fed-none R s u, fed-none R s v)
  any-start s u v (byte b ∷ rest) =
      by-fed (R.feed s b)
      (λ t h. rw (fed-quiet R s t u b rest h, fed-quiet R s t v b rest h) (any-start t (u ++ (b ∷ [])) (v ++ (b ∷ [])) rest))
      (λ a r t h. rw (fed-answered R s t u b rest a r h, fed-answered R s t v b rest a r h))
  any-start s u v (event e ∷ rest) = rw (fed-event R s u e rest, fed-event R s v e rest) (any-start (R.act e s) u v rest)

  abbrev preceded : Call S A → Result S A → Result S A
  preceded c r = record { responses = respond R c r.responses; replies = c.reply ++ r.replies; state = r.state }

  module _ {Good : S → Type 0} (law : Lawful R Good) where
    pub feed_all-closed : (s : S) (u xs : List ℕ) → R.closed s ≡ true → feed_all R s u (bytes xs) ≡ record { ended = []; state = s }
    feed_all-closed s u [] h = fed-none R s u
    feed_all-closed s u (b ∷ xs) h = fed-quiet R s s u b (bytes xs) (law.closed-ignores s b h) ∙ feed_all-closed s (u ++ (b ∷ [])) xs h

    scan-fed : (s : S) (u p : List ℕ) (rest : List (Item E))
        → preceded (scan R s p) (result_of (feed_all R (scan R s p).state u rest)) ≡ result_of (feed_all R s u (bytes (take (scan R s p).taken p) ++ rest))
    unfolding flatten
    scan-fed s u [] rest = rw (scan-nil R s, law.more-not-end)
    scan-fed s u (b ∷ bs) rest =
        by-fed (R.feed s b)
        (λ t h.
        rw (scan-quiet R s t b bs h, fed-quiet R s t u b (bytes (take (scan R t bs).taken bs) ++ rest) h)
        (ap (preceded (scan R t bs)) (any-start (scan R t bs).state u (u ++ (b ∷ [])) rest) ∙ scan-fed t (u ++ (b ∷ [])) bs rest))
        (λ a r t h.
        rw (scan-answered R s t b bs a r h, fed-answered R s t u b rest a r h)
        (ap (preceded (record { taken = 1; answer = a; reply = r; state = t })) (any-start t u [] rest) ∙ rw (law.answers-end s b a r t h)))

    -- What a call is: it keeps the state, with a refusal that is no answer of the model, or it reads on an open session
    pub data Called (s : S) (p : List ℕ) : Call S A → Type 0 where
      stays : (n : ℕ) → R.ends (R.refused n) ≡ false → Called s p (stay s (R.refused n))
      reads : R.closed s ≡ false → Called s p (scan R s p)

    pub called : (s : S) (p : List ℕ) (room : ℕ) → Called s p (read_call R s p room)
    called s p room =
        by-test (ltb room R.least)
        (λ h. rw (call-short R s p room (ltb-true _ _ h)) (stays 1 law.refusals-not-end.0))
        (λ h.
        let l = ltb-false room R.least h in
        by-test (R.sound s)
        (λ f.
        by-test (R.closed s)
        (λ t. rw (call-closed R s p room l f t) (stays 2 law.refusals-not-end.1))
        (λ t. rw (call-reads R s p room l f t) (reads t)))
        (λ f. rw (call-unsound R s p room l f) (stays 4 law.refusals-not-end.2)))

    called-fed : (s : S) (u p : List ℕ) (rest : List (Item E)) (c : Call S A) → Called s p c
        → preceded c (result_of (feed_all R c.state u rest)) ≡ result_of (feed_all R s u (bytes (take c.taken p) ++ rest))
    called-fed s u p rest c (stays n e) = rw e
    called-fed s u p rest c (reads t) = scan-fed s u p rest

    called-inside : (s : S) (p : List ℕ) (c : Call S A) → Called s p c → c.taken ≤ length p
    called-inside s p c (stays n e) = omega arith
    called-inside s p c (reads t) = scan-inside R s p

    -- A call on a closed session takes nothing
    closed-takes : (s : S) (p : List ℕ) (room : ℕ) → R.closed s ≡ true → (read_call R s p room).taken ≡ 0
    closed-takes s p room t =
        by-test (ltb room R.least)
        (λ h. rw (call-short R s p room (ltb-true _ _ h)))
        (λ h.
        let l = ltb-false room R.least h in
        by-test (R.sound s) (λ f. rw (call-closed R s p room l f t)) (λ f. rw (call-unsound R s p room l f)))

    pub call-inside : (s : S) (p : List ℕ) (room : ℕ) → (read_call R s p room).taken ≤ length p
    call-inside s p room = called-inside s p (read_call R s p room) (called s p room)

    scan_good : (s : S) (p : List ℕ) → Good s → every R.is_byte p ≡ true → Good (scan R s p).state
    scan_good s [] g q = rw (scan-nil R s) g
    scan_good s (b ∷ bs) g q =
        let c = every-cons R.is_byte b bs q in
        let n = law.good-feed s b g c.0 in
        by-fed (R.feed s b)
        (λ t h. rw (scan-quiet R s t b bs h) (scan_good t bs (rw h at n) c.1))
        (λ a r t h. rw (scan-answered R s t b bs a r h) (rw h at n))

    called-good : (s : S) (p : List ℕ) (c : Call S A) → Called s p c → Good s → every R.is_byte p ≡ true → Good c.state
    called-good s p c (stays n e) g q = g
    called-good s p c (reads t) g q = scan_good s p g q

    pub call-good : (s : S) (p : List ℕ) (room : ℕ) → Good s → every R.is_byte p ≡ true → Good (read_call R s p room).state
    call-good s p room = called-good s p (read_call R s p room) (called s p room)

    pub runs_taken : (s : S) (u : List ℕ) (steps : List (Step E)) → run_calls R s steps ≡ result_of (feed_all R s u (taken_of R s steps))
    unfolding run_calls taken_of feed_all flatten
    runs_taken s u [] = refl
    runs_taken s u (reading p room ∷ steps) =
        let c = read_call R s p room in
        ap (preceded c) (runs_taken c.state u steps) ∙ called-fed s u p (taken_of R c.state steps) c (called s p room)
    runs_taken s u (happening e ∷ steps) = runs_taken (R.act e s) u steps

    pub runs-whole : (s : S) (u : List ℕ) (steps : List (Step E)) (stream : List (Item E)) → Offers R s stream steps
        → run_calls R s steps ≡ result_of (feed_all R s u stream)
    unfolding run_calls Offers feed_all flatten
    runs-whole s u [] stream o = ⊎_elim (λ e. rw e) (λ t. rw (t.1.1, feed_all-closed s u t.1.0 t.0)) o
    runs-whole s u (reading p room ∷ steps) stream o =
        let c = read_call R s p room in
        ap (preceded c) (runs-whole c.state u steps o.1 o.3)
        ∙ (called-fed s u p o.1 c (called s p room) ∙ ap (λ (l : List (Item E)). result_of (feed_all R s u l)) o.2)
    runs-whole s u (happening e ∷ steps) stream o = rw (← o.1) (runs-whole (R.act e s) u steps o.0 o.2)

    each-call : (s : S) (steps : List (Step E)) → Good s → every (of_bytes R) steps ≡ true
        → EachAsModel R s steps × Good (run_calls R s steps).state × EachSound R s steps
    unfolding EachAsModel EachSound run_calls
    each-call s [] g q = (tt, g, tt)
    each-call s (reading p room ∷ steps) g q =
        let d = every-cons (of_bytes R) (reading p room) steps q in
        let f = law.good-sound s g in
        let w = each-call (read_call R s p room).state steps (call-good s p room g d.0) d.1 in
        ((as-model R s p room f, w.0), w.1, (f, w.2))
    each-call s (happening e ∷ steps) g q =
        each-call (R.act e s) steps (law.good-act e s g) (every-cons (of_bytes R) (happening e) steps q).1

    pub every-division : EveryDivision R Good
    every-division s u steps g q =
        let w = each-call s steps g q in
        record { each = w.0; taken = runs_taken s u steps; whole = runs-whole s u steps; sound = w.1; never-unsound = w.2 }

    -- Two lists of calls that offer one stream come to the same
    pub same-stream : (s : S) (stream : List (Item E)) (steps others : List (Step E)) → Offers R s stream steps → Offers R s stream others
        → run_calls R s steps ≡ run_calls R s others
    same-stream s stream steps others o q = runs-whole s [] steps stream o ∙ sym (runs-whole s [] others stream q)
