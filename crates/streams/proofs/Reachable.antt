-- The timelines that lists of calls offer: each event stands at a position that they come to.
use mathlib.Core.Path.{◌≡◌, refl, sym, ap, ◌∙◌}
use Prim.Native.Nat.{ℕ}
use mathlib.Core.Logic.{⊎_elim}
use mathlib.Core.List.{List, [], ◌∷◌, ◌++◌, flatten, map-append}
use mathlib.Core.Bool.{true, false, true≢false}
use lib.ListN.{take}
use Rattle.streams.specs.Model.{state_of, Receiver, Item, byte, event, bytes}
use Rattle.streams.specs.Calls.{Call, reading, happening, scan, read_call, Offers, pieces, timeline, eventless, reachable}
use Rattle.streams.specs.Claim.{Lawful, OfferedReachable, BytesReachable}
use Rattle.lists.proofs.Cases.{by-test}
use Rattle.streams.proofs.Basics.{by-fed}
use Rattle.streams.proofs.OneCall.{scan-nil, scan-quiet, scan-answered}
use Rattle.streams.proofs.Theorem.{Called, stays, reads, called}

module _ (E : Type 0) where
  pub bytes-eventless : (xs : List ℕ) → eventless (bytes {E = E} xs) ≡ true
  unfolding eventless
  bytes-eventless [] = refl
  bytes-eventless (x ∷ xs) = bytes-eventless xs

  pub eventless-bytes : (items : List (Item E)) → eventless items ≡ true → (xs : List ℕ) × (items ≡ bytes xs)
  unfolding eventless
  eventless-bytes [] h = ([], refl)
  eventless-bytes (byte b ∷ rest) h = let r = eventless-bytes rest h in (b ∷ r.0, ap (byte b ∷◌) r.1)
  eventless-bytes (event e ∷ rest) h = absurd (true≢false (sym h))

  -- Pieces alone
  pub pieces-timeline : (cuts : List (List ℕ)) → timeline (pieces {E = E} cuts) ≡ bytes (flatten cuts)
  unfolding timeline flatten
  pieces-timeline [] = refl
  pieces-timeline (c ∷ cuts) = ap (bytes c ++◌) (pieces-timeline cuts) ∙ sym (map-append byte c (flatten cuts))

module _ {S A E : Type 0} (R : Receiver S A E) where
  pub reached-closed : (s : S) (b : ℕ) (rest : List (Item E)) → R.closed s ≡ true → reachable R s (byte b ∷ rest) ≡ eventless rest
  unfolding reachable
  reached-closed s b rest h = rw h

  pub reached-open : (s : S) (b : ℕ) (rest : List (Item E)) → R.closed s ≡ false → reachable R s (byte b ∷ rest) ≡ reachable R (state_of (R.feed s b)) rest
  unfolding reachable
  reached-open s b rest h = rw h

  pub bytes-reachable : BytesReachable R
  bytes-reachable s [] = unfold reachable in refl
  bytes-reachable s (b ∷ xs) =
      by-test (R.closed s)
      (λ h. reached-closed s b (bytes xs) h ∙ bytes-eventless E xs)
      (λ h. reached-open s b (bytes xs) h ∙ bytes-reachable (state_of (R.feed s b)) xs)

  pub pieces-reachable : (s : S) (cuts : List (List ℕ)) → reachable R s (timeline (pieces cuts)) ≡ true
  pieces-reachable s cuts = ap (reachable R s) (pieces-timeline E cuts) ∙ bytes-reachable s (flatten cuts)

  module _ {Good : S → Type 0} (law : Lawful R Good) where
    -- What a call takes of a piece on an open session, it comes to
    pub scan-reachable : (s : S) (p : List ℕ) (later : List (Item E)) → R.closed s ≡ false
        → reachable R s (bytes (take (scan R s p).taken p) ++ later) ≡ reachable R (scan R s p).state later
    scan-reachable s [] later o = rw (scan-nil R s)
    scan-reachable s (b ∷ bs) later o =
        by-fed (R.feed s b)
        (λ t h.
        rw (scan-quiet R s t b bs h)
        (reached-open s b (bytes (take (scan R t bs).taken bs) ++ later) o ∙ rw h (scan-reachable t bs later (law.quiet-open s b t o h))))
        (λ a r t h. rw (scan-answered R s t b bs a r h) (reached-open s b later o ∙ rw h))

    called-reachable : (s : S) (p : List ℕ) (c : Call S A) → Called R law s p c → (later : List (Item E))
        → reachable R c.state later ≡ true → reachable R s (bytes (take c.taken p) ++ later) ≡ true
    called-reachable s p c (stays n e) later h = h
    called-reachable s p c (reads t) later h = scan-reachable s p later t ∙ h

    pub offered-reachable : OfferedReachable R
    unfolding Offers reachable
    offered-reachable s stream [] o =
        ⊎_elim (λ e. rw e) (λ c. ap (reachable R s) c.1.1 ∙ bytes-reachable s c.1.0) o
    offered-reachable s stream (reading p room ∷ steps) o =
        let c = read_call R s p room in
        ap (reachable R s) (sym o.2) ∙ called-reachable s p c (called R law s p room) o.1 (offered-reachable c.state o.1 steps o.3)
    offered-reachable s stream (happening e ∷ steps) o =
        ap (reachable R s) (sym o.1) ∙ offered-reachable (R.act e s) o.0 steps o.2
