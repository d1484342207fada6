-- Along a list of calls, each acknowledgement carries its table's IDs by the ledger of the messages so far.
use Prim.Native.Nat.{ℕ}
use mathlib.Core.Path.{◌≡◌, refl, sym, ap, ◌∙◌, subst}
use mathlib.Core.Logic.{⊎_elim}
use mathlib.Core.Bool.{true, false}
use mathlib.Core.List.{List, [], ◌∷◌, ◌++◌, append-nil}
use lib.ListN.{length, take}
use Rattle.store.specs.declared.Store.{Store}
use Rattle.store.specs.Time.{Passed}
use Rattle.session.specs.declared.Connection.{Connection}
use Rattle.session.specs.declared.Session.{Session}
use Rattle.session.specs.declared.Answer.{Answer}
use Rattle.session.specs.declared.Answer.TheVariants as answer
use Rattle.session.specs.Session.{unfinished, is_closed}
use Rattle.session_soundness.specs.Sound.{sound}
use Rattle.message.specs.declared.Effect.{Effect}
use Rattle.streams.specs.Model.{Ended}
use Rattle.streams.specs.Calls.{Call}
use Rattle.receiver.specs.Model.{ends_refused, State, held_by, ends}
use Rattle.receiver.specs.Good.{Good}
use Rattle.receiver.specs.Promise.{Made, ReadPromise, call_of}
use Rattle.receiver.specs.Ledger.{Ledger, post, RightReply}
use Rattle.receiver.specs.Demand3.{Called, reads, passes, Chain, reply_in, ended_by, AcknowledgedCalls}
use Rattle.receiver.specs.Corollaries.{message_of}
use Rattle.receiver.proofs.OneRead.{call-is, made-state, made-sound, made-good}
use Rattle.receiver.proofs.OnePass.{passed-keeps-sound, passed-good}
use Rattle.receiver.proofs.SettledLaws.{settled-ends}
use Rattle.receiver.proofs.Following.{Follows, ended_as}
use Rattle.receiver.proofs.Laws.{Right}
use Rattle.receiver.proofs.Lawfully.{lawful}
use Rattle.receiver.proofs.Ways.{Way, Early, Waiting, Judging, staying, waiting-on, judging, ways, answer-is, taken_is, reply-is, record-stays}
use Rattle.receiver.proofs.Acknowledging.{right}

early-ends : (n : ℕ) → Early n → ends (answer.Refused n) ≡ false
unfolding ends ends_refused
early-ends n h = ⊎_elim (λ e. rw e) (λ k. ⊎_elim (λ e. rw e) (λ e. rw e) k) h

more-ends : ends answer.More ≡ false
unfolding ends ends_refused
more-ends = refl

module _ (s : Session) (t : Store) (m : Made) (p : ReadPromise s t m) (f : sound s t ≡ true) (g : Good (held_by s t)) where
  abbrev call : Call State Answer
  call = call_of s t m.piece (length m.room)

  state-is : held_by m.session m.store ≡ call.state
  state-is =
      made-state s t m p f lawful g ∙ ap (λ (c : Call State Answer). c.state) (sym (call-is s t m.piece (length m.room) f g.sound))

  connection-is : m.session.connection ≡ call.state.connection
  unfolding held_by
  connection-is = ap (λ (k : State). k.connection) state-is

  unfinished-is : unfinished m.session ≡ call.state.unfinished
  unfolding held_by
  unfinished-is = ap (λ (k : State). k.unfinished) state-is

  module _ (l : Ledger) (k : Follows s.connection l) (u : List ℕ) (o : is_closed s.connection ≡ false → u ≡ unfinished s) (cs : List Called)
      (next : (l' : Ledger) → Follows m.session.connection l' → (u' : List ℕ)
      → (is_closed m.session.connection ≡ false → u' ≡ unfinished m.session) → AcknowledgedCalls l' u' cs) where
    quiet-on : ends m.outcome.answer ≡ false → reply_in m ≡ [] → AcknowledgedCalls l (u ++ take m.outcome.taken m.piece) cs → AcknowledgedCalls l u (reads m ∷ cs)
    unfolding AcknowledgedCalls
    quiet-on e r h = rw e (r, h)

    stays_on : m.session ≡ s → m.outcome.taken ≡ 0 → AcknowledgedCalls l (u ++ take m.outcome.taken m.piece) cs
    stays_on e z =
        subst (λ (v : List ℕ). AcknowledgedCalls l v cs) (sym (ap (λ (n : ℕ). u ++ take n m.piece) z ∙ append-nil u))
        (next l (subst (λ (x : Session). Follows x.connection l) (sym e) k) u
        (λ c. o (ap (λ (x : Session). is_closed x.connection) (sym e) ∙ c) ∙ ap unfinished (sym e)))

    waits-on : Waiting s t m.piece call → AcknowledgedCalls l (u ++ take m.outcome.taken m.piece) cs
    waits-on w =
        let e = connection-is ∙ ap (λ (x : State). x.connection) w.state in
        next l (subst (λ (x : Connection). Follows x l) (sym e) k) (u ++ take m.outcome.taken m.piece)
        (λ c.
        ap (λ (v : List ℕ). v ++ take m.outcome.taken m.piece) (o (ap is_closed (sym e) ∙ c))
        ∙ (ap (λ (n : ℕ). unfinished s ++ take n m.piece) (taken_is s t m p) ∙ sym (unfinished-is ∙ ap (λ (x : State). x.unfinished) w.state)))

    module _ (e : Effect) (j : Judging s t m.piece call e) where
      abbrev fact : Right s.connection t (message_of s m) e
      fact = right s t m p e j

      ended_is : ended_by u m ≡ ended_as (message_of s m) e
      ended_is = λ i. record {
        message = (ap (λ (v : List ℕ). v ++ take m.outcome.taken m.piece) (o j.opened)) i;
        answer = (answer-is s t m p ∙ j.answer) i;
        reply = (reply-is s t m p ∙ j.reply) i;
      }

      ends_now : ends m.outcome.answer ≡ true
      ends_now = ap ends (answer-is s t m p ∙ j.answer) ∙ settled-ends s.connection t _ e j.judged

      right-now : RightReply (post l (ended_by u m)) (ended_by u m).message (ended_by u m).reply (ended_by u m).answer
      right-now = subst (λ (x : Ended Answer). RightReply (post l x) x.message x.reply x.answer) (sym ended_is) (fact.follow.right l k)

      follows-now : Follows m.session.connection (post l (ended_by u m))
      follows-now =
          subst (λ (x : Connection). Follows x (post l (ended_by u m))) (sym (connection-is ∙ ap (λ (x : State). x.connection) j.state))
          (subst (λ (x : Ended Answer). Follows e.connection (post l x)) (sym ended_is) (fact.follow.follows l k))

      answers-on : AcknowledgedCalls l u (reads m ∷ cs)
      unfolding AcknowledgedCalls
      answers-on =
          rw ends_now
          (right-now, next (post l (ended_by u m)) follows-now [] (λ c. sym (unfinished-is ∙ ap (λ (x : State). x.unfinished) j.state)))

    -- one call, before others of which it holds
    pub acknowledged-next : Way s t m.piece call → AcknowledgedCalls l u (reads m ∷ cs)
    acknowledged-next (staying n h q) =
        let z = ap (λ (x : Call State Answer). x.taken) q in
        quiet-on (ap ends (answer-is s t m p ∙ ap (λ (x : Call State Answer). x.answer) q) ∙ early-ends n h)
        (reply-is s t m p ∙ ap (λ (x : Call State Answer). x.reply) q)
        (stays_on (record-stays s t m p z) (taken_is s t m p ∙ z))
    acknowledged-next (waiting-on w) = quiet-on (ap ends (answer-is s t m p ∙ w.answer) ∙ more-ends) (reply-is s t m p ∙ w.reply) (waits-on w)
    acknowledged-next (judging e j) = answers-on e j

-- a time is none of the ledger's
passed-next : (l : Ledger) (u : List ℕ) (p : Passed) (cs : List Called) → AcknowledgedCalls l u cs → AcknowledgedCalls l u (passes p ∷ cs)
unfolding AcknowledgedCalls
passed-next l u p cs h = h

pub ledger-along : (s : Session) (t : Store) (cs : List Called) → Chain s t cs → sound s t ≡ true → Good (held_by s t) → (l : Ledger) → Follows s.connection l
    → (u : List ℕ) → (is_closed s.connection ≡ false → u ≡ unfinished s) → AcknowledgedCalls l u cs
unfolding Chain
ledger-along s t [] c f g l k u o = unfold AcknowledgedCalls in tt
ledger-along s t (reads m ∷ cs) c f g l k u o =
    acknowledged-next s t m c.0 f g l k u o cs
    (λ l' k' u' o'.
    ledger-along m.session m.store cs c.1 (made-sound s t m c.0 f lawful g) (made-good s t m c.0 f lawful g) l' k' u' o')
    (ways s t m c.0)
ledger-along s t (passes p ∷ cs) c f g l k u o =
    passed-next l u p cs
    (ledger-along s p.store cs c.1 (passed-keeps-sound t p c.0 s f) (passed-good t p c.0 s f g) l k u o)
