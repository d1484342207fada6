-- One reading call against the byte model, on any state.
use mathlib.Core.Path.{◌≡◌, refl, ap, ◌∙◌}
use Prim.Native.Nat.{ℕ, suc, ◌+◌, ◌≤◌, ◌<◌}
use native.Mathlib.Omega.{arith}
use mathlib.Core.Logic.{◌⊎◌, inl, inr, ⊎_elim}
use mathlib.Core.List.{List, [], ◌∷◌, ◌++◌}
use mathlib.Core.Bool.{true, false}
use lib.ListN.{length}
use borrow.Author.Tests.{lt-ltb, le-ltb}
use Rattle.streams.specs.Model.{quiet, answered, Receiver, bytes}
use Rattle.streams.specs.Calls.{Call, stay, onward, scan, read_call}
use Rattle.streams.specs.Claim.{TookAll, StoppedAt, AsModel}
use Rattle.streams.proofs.Basics.{by-fed, fed-none, fed-quiet}

module _ {S A : Type 0} where
  -- The call that took n bytes more, before its others
  abbrev pub ahead : ℕ → Call S A → Call S A
  ahead n c = record { taken = n + c.taken; answer = c.answer; reply = c.reply; state = c.state }

  counted : (n : ℕ) (c : Call S A) → c.taken ≡ n → c ≡ record { taken = n; answer = c.answer; reply = c.reply; state = c.state }
  counted n c e = λ i. record { taken = e i; answer = c.answer; reply = c.reply; state = c.state }

module _ {S A E : Type 0} (R : Receiver S A E) where
  pub scan-nil : (s : S) → scan R s [] ≡ stay s R.more
  unfolding scan
  scan-nil s = refl

  pub scan-quiet : (s t : S) (b : ℕ) (bs : List ℕ) → R.feed s b ≡ quiet t → scan R s (b ∷ bs) ≡ onward (scan R t bs)
  unfolding scan
  scan-quiet s t b bs h = rw (h, scan)

  pub scan-answered : (s t : S) (b : ℕ) (bs : List ℕ) (a : A) (r : List ℕ) → R.feed s b ≡ answered a r t
      → scan R s (b ∷ bs) ≡ record { taken = 1; answer = a; reply = r; state = t }
  unfolding scan
  scan-answered s t b bs a r h = rw (h, scan)

  -- The bytes xs are all quiet and lead from s to t
  unfoldable pub Quietly : S → List ℕ → S → Type 0
  Quietly s [] t = s ≡ t
  Quietly s (b ∷ bs) t = (m : S) × (R.feed s b ≡ quiet m) × Quietly m bs t

  pub scan-over : (s t : S) (xs ys : List ℕ) → Quietly s xs t → scan R s (xs ++ ys) ≡ ahead (length xs) (scan R t ys)
  unfolding Quietly
  scan-over s t [] ys q = rw q (counted (0 + (scan R t ys).taken) (scan R t ys) (omega arith))
  scan-over s t (b ∷ bs) ys q =
      let c = ahead (length bs) (scan R t ys) in
      scan-quiet s q.0 b (bs ++ ys) q.1
      ∙ (ap onward (scan-over q.0 t bs ys q.2) ∙ counted (suc (length bs) + (scan R t ys).taken) (onward c) (omega arith))

  pub scan-inside : (s : S) (p : List ℕ) → (scan R s p).taken ≤ length p
  scan-inside s [] = rw (scan-nil s) (omega arith)
  scan-inside s (b ∷ bs) =
      by-fed (R.feed s b)
      (λ t h. rw (scan-quiet s t b bs h) (omega (arith, scan-inside t bs)))
      (λ a r t h. rw (scan-answered s t b bs a r h) (omega arith))

  scan-as : (s : S) (p : List ℕ) → TookAll R s p (scan R s p) ⊎ StoppedAt R s p (scan R s p)
  scan-as s [] = inl (rw (scan-nil s) (record { taken = refl; answer = refl; reply = refl; fed = fed-none R s }))
  scan-as s (b ∷ bs) =
      by-fed (R.feed s b)
      (λ t h.
      rw (scan-quiet s t b bs h)
      (⊎_elim
      (λ w. inl (record { taken = ap suc w.taken; answer = w.answer; reply = w.reply; fed = λ u. fed-quiet R s t u b (bytes bs) h ∙ w.fed (u ++ (b ∷ [])) }))
      (λ w.
      inr
      (record {
        before = b ∷ w.before;
        last = w.last;
        later = w.later;
        reached = w.reached;
        split = ap (b ∷◌) w.split;
        fed-before = λ u. fed-quiet R s t u b (bytes w.before) h ∙ w.fed-before (u ++ (b ∷ []));
        fed = w.fed;
        taken = ap suc w.taken;
      }))
      (scan-as t bs)))
      (λ a r t h.
      rw (scan-answered s t b bs a r h)
      (inr (record { before = []; last = b; later = bs; reached = s; split = refl; fed-before = fed-none R s; fed = h; taken = refl })))

  -- A call by the tests that it makes, on any state
  module _ (s : S) (piece : List ℕ) (room : ℕ) where
    pub call-short : room < R.least → read_call R s piece room ≡ stay s (R.refused 1)
    unfolding read_call
    call-short h = rw (lt-ltb room R.least h)

    pub call-unsound : R.least ≤ room → R.sound s ≡ false → read_call R s piece room ≡ stay s (R.refused 4)
    unfolding read_call
    call-unsound h f = rw (le-ltb room R.least h, f)

    pub call-closed : R.least ≤ room → R.sound s ≡ true → R.closed s ≡ true → read_call R s piece room ≡ stay s (R.refused 2)
    unfolding read_call
    call-closed h f t = rw (le-ltb room R.least h, f, t)

    pub call-reads : R.least ≤ room → R.sound s ≡ true → R.closed s ≡ false → read_call R s piece room ≡ scan R s piece
    unfolding read_call
    call-reads h f t = rw (le-ltb room R.least h, f, t)

    pub as-model : R.sound s ≡ true → AsModel R s piece room (read_call R s piece room)
    as-model f =
        record {
          short = call-short;
          closed = λ h t. call-closed h f t;
          reads = λ h t. rw (call-reads h f t) (scan-as s piece);
          moves = λ h t n. rw (call-reads h f t) (⊎_elim (λ w. omega (arith, w.taken)) (λ w. omega (arith, w.taken)) (scan-as s piece));
        }
