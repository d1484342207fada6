-- The small receiver is lawful, so the theorems hold of it.
use mathlib.Core.Path.{◌≡◌, refl, sym, ◌∙◌}
use Prim.Native.Nat.{ℕ, suc, ◌+◌, ◌-◌, ◌≤◌, ◌<◌}
use native.Mathlib.Omega.{arith}
use mathlib.Core.List.{List, [], ◌∷◌}
use mathlib.Core.Bool.{true, false, true≢false, cond, ◌&&◌}
use lib.Dec.{ltb, leb, eqb}
use borrow.Author.Tests.{leb-true, leb-false, ltb-true, le-leb, lt-leb, eqb-false, ne_eqb}
use Rattle.streams.specs.Model.{Fed, quiet, answered, state_of, Item, bytes_in, Ended, feed_all}
use Rattle.streams.specs.Claim.{Lawful, EveryDivision, EveryOffering, OfferedReachable}
use Rattle.streams.specs.Fold.{AllAlong, Folds}
use Rattle.streams.specs.Toy.{Answer, Message, Event, shorter, closed_toy, begun, feed_toy, ends_toy, reply_toy, act_toy, toy, GoodToy}
use Rattle.lists.proofs.Cases.{by-test, and_first, and_second}
use Rattle.streams.proofs.Theorem.{every-division}
use Rattle.streams.proofs.Offering.{offering}
use Rattle.streams.proofs.Reachable.{offered-reachable}
use Rattle.streams.proofs.Timeline.{folded}
use Rattle.lists.specs.Lists.{every}

between-open : (s : ℕ) → 0 < s → s < 20 → closed_toy s ≡ false
between-open s h l = rw (ne_eqb s 0 (λ e. omega arith), lt-leb 20 s l)

open-between : (s : ℕ) → closed_toy s ≡ false → (0 < s) × (s < 20)
open-between s h =
    by-test (eqb s 0)
    (λ e. absurd (true≢false (rw e at h)))
    (λ e. let n = eqb-false s 0 e in let l : s < 20 = leb-false 20 s (rw e at h) in (omega arith, l))

-- What holds of every byte's outcome: from a sound state the next is sound, without an answer an open state stays open, and an answer ends
-- and has its reply
abbrev Outcome : ℕ → Fed ℕ Answer → Type 0
Outcome s (quiet t) = (s ≤ 9 → t ≤ 9) × (closed_toy s ≡ false → closed_toy t ≡ false)
Outcome s (answered a r t) = (s ≤ 9 → t ≤ 9) × (ends_toy a ≡ true) × (r ≡ reply_toy a)

-- Between messages a byte is a length, and else one of the bytes to come
begins : (s b : ℕ) → Outcome s (begun b)
begins s b =
    by-test (eqb b 0)
    (λ z. rw z ((λ l. omega arith), refl, refl))
    (λ z.
    rw z
    (by-test (leb b 8)
    (λ m. let n = leb-true b 8 m in rw m ((λ l. omega arith), (λ o. between-open (1 + b) (omega arith) (omega arith))))
    (λ m. rw m ((λ l. omega arith), refl, refl))))

goes_on : (s : ℕ) → closed_toy s ≡ false → (s ≡ 1 → ⊥) → Outcome s (cond (eqb s 2) (answered Message (6 ∷ []) 1) (quiet (s - 1)))
goes_on s h n =
    by-test (eqb s 2)
    (λ z. rw z ((λ l. omega arith), refl, refl))
    (λ z. let o = open-between s h in rw z ((λ l. omega arith), (λ k. between-open (s - 1) (omega arith) (omega arith))))

outcome : (s b : ℕ) → Outcome s (feed_toy s b)
outcome s b =
    by-test (closed_toy s)
    (λ h. rw h ((λ l. l), (λ k. k)))
    (λ h. rw h (by-test (eqb s 1) (λ e. rw e (begins s b)) (λ e. rw e (goes_on s h (eqb-false s 1 e)))))

outcome-state : (s : ℕ) (f : Fed ℕ Answer) → Outcome s f → s ≤ 9 → state_of f ≤ 9
outcome-state s (quiet t) o l = o.0 l
outcome-state s (answered a r t) o l = o.0 l

act-keeps-closed : (e : Event) (s : ℕ) → closed_toy (act_toy e s) ≡ closed_toy s
act-keeps-closed shorter s =
    by-test (leb 3 s && ltb s 20)
    (λ h.
    let m = leb-true 3 s (and_first (leb 3 s) (ltb s 20) h) in
    let l = ltb-true s 20 (and_second (leb 3 s) (ltb s 20) h) in
    rw h (between-open (s - 1) (omega arith) (omega arith) ∙ sym (between-open s (omega arith) l)))
    (λ h. rw h)

act-sound : (e : Event) (s : ℕ) → leb s 9 ≡ true → leb (act_toy e s) 9 ≡ true
act-sound shorter s g =
    by-test (leb 3 s && ltb s 20) (λ h. rw h (le-leb (s - 1) 9 (omega (arith, leb-true s 9 g)))) (λ h. rw h g)

lawful : Lawful toy GoodToy
lawful = record {
  more-not-end = refl;
  refusals-not-end = (refl, refl, refl);
  answers-end = λ s b a r t h. (rw h at (outcome s b)).1;
  closed-ignores = λ s b h. rw h;
  quiet-open = λ s b t o h. (rw h at (outcome s b)).1 o;
  act-closed = act-keeps-closed;
  good-sound = λ s g. g;
  good-feed = λ s b g q. le-leb (state_of (feed_toy s b)) 9 (outcome-state s (feed_toy s b) (outcome s b) (leb-true s 9 g));
  good-act = act-sound;
}

toy-division : EveryDivision toy GoodToy
toy-division = every-division toy lawful

toy-offering : EveryOffering toy GoodToy
toy-offering = offering toy lawful

toy-reachable : OfferedReachable toy
toy-reachable = offered-reachable toy lawful

-- Every message that ends has its answer's reply, by a ledger that counts messages
toy-folds : Folds (λ (n : ℕ) (e : Ended Answer). suc n) toy GoodToy (λ n m e. e.reply ≡ reply_toy e.answer) (λ s u n. Unit {0})
toy-folds = record {
  at-quiet = λ s t u n b g c q h i. tt;
  at-answer = λ s t u n b a r g c q h i. ((rw h at (outcome s b)).2, tt);
  at-event = λ s u n e g c i. tt;
}

toy-replies : (s : ℕ) (u : List ℕ) (items : List (Item Event)) → GoodToy s → every (λ b. ltb b 256) (bytes_in items) ≡ true
    → AllAlong (λ (n : ℕ) (e : Ended Answer). suc n) (λ n m e. e.reply ≡ reply_toy e.answer) 0 (feed_all toy s u items).ended
toy-replies s u items g q = folded toy lawful (λ (n : ℕ) (e : Ended Answer). suc n) toy-folds s u 0 items g q tt
