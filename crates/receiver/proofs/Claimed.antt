-- Demand 3 for a lawful receiver whose replies are short and whose acknowledgements follow the ledger.
use Prim.Native.Nat.{ℕ, ◌≤◌}
use native.Mathlib.Omega.{arith}
use mathlib.Core.Path.{◌≡◌, refl, sym, ap, subst, ◌∙◌}
use mathlib.Core.Logic.{◌⊎◌, inl, inr, ⊎_elim}
use mathlib.Core.List.{List, [], ◌∷◌, flatten}
use mathlib.Core.Option.{some}
use mathlib.Core.Bool.{Bool, true, false, cond, not, true≢false, ◌||◌}
use lib.ListN.{length}
use lib.Dec.{eqb}
use borrow.Author.Tests.{eqb-true}
use Rattle.lists.specs.Lists.{every}
use Rattle.lists.proofs.Cases.{by-test, cond-true}
use Rattle.store.specs.declared.Store.{Store}
use Rattle.store.specs.Time.{Passed, PassPromise}
use Rattle.session.specs.declared.Session.{Session}
use Rattle.session.specs.Answers.{refusal_of}
use Rattle.session.specs.declared.Answer.{Answer}
use Rattle.session.specs.declared.Answer.TheVariants as answer
use Rattle.session.specs.Session.{holding, is_closed, unfinished}
use Rattle.session_soundness.specs.Sound.{sound}
use Rattle.streams.specs.Model.{answered, Item, event, Ran, bytes_in, feed_all}
use Rattle.streams.specs.Calls.{Result, result_of, read_call}
use Rattle.streams.specs.Claim.{Lawful, AsModel, Division}
use Rattle.streams.specs.Fold.{AllAlong, Folds}
use Rattle.streams.proofs.OneCall.{as-model}
use Rattle.streams.proofs.Theorem.{every-division, feed_all-closed}
use Rattle.streams.proofs.Timeline.{folded, taken-bytes}
use Rattle.receiver.specs.Model.{ends_refused, State, Event, held_by, ends, feed, is_byte, peers}
use Rattle.receiver.specs.Good.{Good}
use Rattle.receiver.specs.Promise.{Made, ReadPromise}
use Rattle.receiver.specs.Ledger.{Ledger, start_ledger, post, Acknowledged}
use Rattle.receiver.specs.Demand3.{Called, reads, passes, Chain, taken_by, last_session, last_store, responses_of, replies_of, came_to, model_ran, CallAsModel, EachCall, OffersTo, AcknowledgedCalls, NeverUnsound, Demand3}
use Rattle.receiver.proofs.OneRead.{made-answer, made-sound, made-good, made-is, made-count, kept, room-kept, final-length}
use Rattle.receiver.proofs.OnePass.{passed-model, passed-keeps-sound, passed-state, passed-good}
use Rattle.receiver.proofs.NoneTaken.{none-test}
use Rattle.receiver.proofs.Offered.{every-cutting}
use Rattle.receiver.proofs.Chained.{steps_of, good-held, steps-bytes, runs, takes, offers, call-has, not-4, ends-sound, ends_at, closed-held}

-- ---- the answers left out are exactly more wanted, 1, 2 and 4

-- a number that passes no test of three
three : (n : ℕ) → not (eqb n 1 || (eqb n 2 || eqb n 4)) ≡ false → (n ≡ 1) ⊎ ((n ≡ 2) ⊎ (n ≡ 4))
three n h =
    by-test (eqb n 1)
    (λ a. inl (eqb-true n 1 a))
    (λ a.
    by-test (eqb n 2)
    (λ b. inr (inl (eqb-true n 2 b)))
    (λ b.
    by-test (eqb n 4)
    (λ c. inr (inr (eqb-true n 4 c)))
    (λ c. absurd (true≢false (rw (a, b, c) at h)))))

one_of : (n : ℕ) → (n ≡ 1) ⊎ ((n ≡ 2) ⊎ (n ≡ 4)) → (some n ≡ some 1) ⊎ ((some n ≡ some 2) ⊎ (some n ≡ some 4))
one_of n h = ⊎_elim (λ e. inl (ap some e)) (λ r. ⊎_elim (λ e. inr (inl (ap some e))) (λ e. inr (inr (ap some e))) r) h

pub left_out : (a : Answer) → ends a ≡ false → (a ≡ answer.More) ⊎ ((refusal_of a ≡ some 1) ⊎ ((refusal_of a ≡ some 2) ⊎ (refusal_of a ≡ some 4)))
unfolding ends ends_refused refusal_of
left_out answer.More h = inl refl
left_out (answer.Hello p r) h = absurd (true≢false h)
left_out answer.Status h = absurd (true≢false h)
left_out answer.Request h = absurd (true≢false h)
left_out answer.Finished h = absurd (true≢false h)
left_out answer.Partial h = absurd (true≢false h)
left_out answer.Confirmed h = absurd (true≢false h)
left_out answer.Heartbeat h = absurd (true≢false h)
left_out (answer.Error type) h = absurd (true≢false h)
left_out (answer.Table place) h = absurd (true≢false h)
left_out (answer.Switch place) h = absurd (true≢false h)
left_out (answer.Update table id entry how) h = absurd (true≢false h)
left_out (answer.Acknowledgement id update) h = absurd (true≢false h)
left_out (answer.Skipped kind) h = absurd (true≢false h)
left_out (answer.Refused n) h = inr (one_of n (three n h))
left_out (answer.RefusedAt n offset) h = inr (one_of n (three n h))

module _ (law : Lawful peers Good)
    (short : (k : State) (b : ℕ) (a : Answer) (r : List ℕ) (k' : State) → Good k → is_byte b ≡ true → feed k b ≡ answered a r k' → length r ≤ 12)
    {I : State → List ℕ → Ledger → Type 0}
    (folds : Folds post peers Good Acknowledged I)
    (starts : (s : Session) (t : Store) → I (held_by s t) (unfinished s) (start_ledger s.connection))
    (along : (s : Session) (t : Store) (cs : List Called) → Chain s t cs → sound s t ≡ true → Good (held_by s t)
    → AcknowledgedCalls (start_ledger s.connection) (unfinished s) cs) where
  -- ---- 1

  Short : Answer → List ℕ → Type 0
  Short a r = length r ≤ 12

  none-short : (a : Answer) → Short a []
  unfolding Short
  none-short a = omega arith

  reply-short : (s : State) (p : List ℕ) (n : ℕ) → Good s → every is_byte p ≡ true → length (read_call peers s p n).reply ≤ 12
  unfolding Short
  reply-short = call-has law Short short (none-short answer.More) (none-short (answer.Refused 1)) (none-short (answer.Refused 2))

  as-model-call : (s : Session) (t : Store) (m : Made) → ReadPromise s t m → sound s t ≡ true → Good (held_by s t) → CallAsModel s t m
  as-model-call s t m p f g = record {
    model =
        subst (AsModel peers (held_by s t) m.piece (length m.room)) (sym (made-is s t m p f law g))
        (as-model peers (held_by s t) m.piece (length m.room) g.sound);
    count = made-count s t m p f;
    room = room-kept s t m p f;
    size = final-length s t m p f (reply-short (held_by s t) m.piece (length m.room) g p.bytes);
    kept = kept s t m p f;
  }

  each : (s : Session) (t : Store) (cs : List Called) → Chain s t cs → sound s t ≡ true → Good (held_by s t) → EachCall s t cs
  unfolding Chain EachCall
  each s t [] h f g = tt
  each s t (reads m ∷ cs) h f g = (
    as-model-call s t m h.0 f g,
    each m.session m.store cs h.1 (made-sound s t m h.0 f law g) (made-good s t m h.0 f law g),
  )
  each s t (passes p ∷ cs) h f g = (
    passed-model t p h.0 s f,
    each s p.store cs h.1 (passed-keeps-sound t p h.0 s f) (passed-good t p h.0 s f g),
  )

  -- ---- 5

  never : (s : Session) (t : Store) (cs : List Called) → Chain s t cs → sound s t ≡ true → Good (held_by s t) → NeverUnsound cs
  unfolding Chain NeverUnsound
  never s t [] h f g = tt
  never s t (reads m ∷ cs) h f g = (
    (λ e. not-4 law (held_by s t) m.piece (length m.room) g h.0.bytes (sym (ap refusal_of (made-answer s t m h.0 f)) ∙ e)),
    never m.session m.store cs h.1 (made-sound s t m h.0 f law g) (made-good s t m h.0 f law g),
  )
  never s t (passes p ∷ cs) h f g = (
    (passed-model t p h.0 s f).number,
    never s p.store cs h.1 (passed-keeps-sound t p h.0 s f) (passed-good t p h.0 s f g),
  )

  -- ---- the claim, where the first record and store have their shape

  module _ (s : Session) (t : Store) (cs : List Called) (h : Chain s t cs) (f : sound s t ≡ true) (g : Good (held_by s t)) where
    division : Division peers Good (held_by s t) (unfinished s) (steps_of cs)
    division = every-division peers law (held_by s t) (unfinished s) (steps_of cs) g (steps-bytes s t cs h)

    taken : came_to s t cs ≡ result_of (model_ran s t (taken_by cs))
    unfolding model_ran
    taken =
        runs law s t cs h f g
        ∙ (division.taken ∙ ap (λ (l : List (Item Event)). result_of (feed_all peers (held_by s t) (unfinished s) l)) (takes law s t cs h f g))

    whole : (stream : List (Item Event)) → OffersTo s stream cs → came_to s t cs ≡ result_of (model_ran s t stream)
    unfolding model_ran
    whole stream o = runs law s t cs h f g ∙ division.whole stream (offers law s t cs stream h f g o)

    end-state : held_by (last_session s cs) (last_store t cs) ≡ (model_ran s t (taken_by cs)).state
    unfolding came_to
    end-state = ap (λ (r : Result State Answer). r.state) taken

    record_is : last_session s cs
        ≡ (let end = (model_ran s t (taken_by cs)).state in cond (eqb (length (bytes_in (taken_by cs))) 0) s (holding s.sending end.connection end.unfinished))
    record_is =
        ends_at law s t cs h f g
        ∙ (unfold held_by in
        ap (λ (k : State). cond (eqb (length (bytes_in (taken_by cs))) 0) s (holding s.sending k.connection k.unfinished)) end-state)

    whole-record : (stream : List (Item Event)) → OffersTo s stream cs
        → last_session s cs
        ≡ (let end = (model_ran s t stream).state in
        cond (eqb (length (bytes_in stream)) 0 || is_closed s.connection) s (holding s.sending end.connection end.unfinished))
    whole-record stream o =
        record_is
        ∙ (ap (λ (k : State). cond (eqb (length (bytes_in (taken_by cs))) 0) s (holding s.sending k.connection k.unfinished))
        (ap (λ (r : Result State Answer). r.state) (sym taken ∙ whole stream o))
        ∙ ap (λ (b : Bool). cond b s (holding s.sending (model_ran s t stream).state.connection (model_ran s t stream).state.unfinished)) (none-test s t stream cs h o))

    bytes-taken : every is_byte (bytes_in (taken_by cs)) ≡ true
    bytes-taken = rw (← takes law s t cs h f g) (taken-bytes peers law (held_by s t) (steps_of cs) (steps-bytes s t cs h))

    acknowledged : AllAlong post Acknowledged (start_ledger s.connection) (model_ran s t (taken_by cs)).ended
    unfolding model_ran
    acknowledged =
        folded peers law post folds (held_by s t) (unfinished s) (start_ledger s.connection) (taken_by cs) g bytes-taken (starts s t)

    all-claimed : Demand3 s t cs
    all-claimed = record {
      each = each s t cs h f g;
      taken = taken;
      left_out = left_out;
      record_is = record_is;
      whole = whole;
      whole-record = whole-record;
      exists = every-cutting law s t f;
      acknowledged = acknowledged;
      acknowledged-calls = along s t cs h f g;
      sound = ends-sound law s t cs h f g;
      never-4 = never s t cs h f g;
    }

  -- no call at all
  none-record : (s : Session) (t : Store) (stream : List (Item Event)) → OffersTo s stream []
      → s
      ≡ (let end = (model_ran s t stream).state in
      cond (eqb (length (bytes_in stream)) 0 || is_closed s.connection) s (holding s.sending end.connection end.unfinished))
  none-record s t stream o =
      sym (cond-true (eqb (length (bytes_in stream)) 0 || is_closed s.connection) _ _ (sym (none-test s t stream [] (unfold Chain in tt) o) ∙ unfold taken_by bytes_in in refl))

  none : (s : Session) (t : Store) → sound s t ≡ true → Demand3 s t []
  unfolding EachCall NeverUnsound came_to model_ran taken_by last_session last_store responses_of replies_of bytes_in feed_all AllAlong OffersTo flatten
  none s t f = record {
    each = tt;
    taken = refl;
    left_out = left_out;
    record_is = refl;
    whole = λ stream o. ⊎_elim (λ e. rw e) (λ c. rw (c.1.1, feed_all-closed peers law (held_by s t) (unfinished s) c.1.0 (closed-held s t ∙ c.0))) o;
    whole-record = λ stream o. none-record s t stream o;
    exists = every-cutting law s t f;
    acknowledged = tt;
    acknowledged-calls = unfold AcknowledgedCalls in tt;
    sound = f;
    never-4 = tt;
  }

  -- a time first: the claim is that of the calls behind it, from the store that it left
  module _ (s : Session) (t : Store) (p : Passed) (cs : List Called) (promise : PassPromise t p) (f : sound s t ≡ true) (d : Demand3 s p.store cs) where
    ran_on : (rest : List (Item Event)) → model_ran s p.store rest ≡ model_ran s t (event p.milliseconds ∷ rest)
    unfolding model_ran feed_all
    ran_on rest = ap (λ (k : State). feed_all peers k (unfinished s) rest) (passed-state t p promise s f)

    -- the record after a stream, where the model ran so
    abbrev record_after : Bool → Ran State Answer → Session
    record_after stays r = cond stays s (holding s.sending r.state.connection r.state.unfinished)

    passed_first : Demand3 s t (passes p ∷ cs)
    unfolding EachCall NeverUnsound came_to taken_by last_session last_store responses_of replies_of bytes_in OffersTo AcknowledgedCalls
    passed_first = record {
      each = (passed-model t p promise s f, d.each);
      taken = d.taken ∙ ap result_of (ran_on (taken_by cs));
      left_out = left_out;
      record_is = d.record_is ∙ ap (record_after (eqb (length (bytes_in (taken_by cs))) 0)) (ran_on (taken_by cs));
      whole = λ stream o. d.whole o.0 o.2 ∙ ap result_of (ran_on o.0 ∙ ap (model_ran s t) o.1);
      whole-record = λ stream o.
          d.whole-record o.0 o.2
          ∙ (ap (record_after (eqb (length (bytes_in o.0)) 0 || is_closed s.connection)) (ran_on o.0)
          ∙ ap (λ (l : List (Item Event)). record_after (eqb (length (bytes_in l)) 0 || is_closed s.connection) (model_ran s t l)) o.1);
      exists = every-cutting law s t f;
      acknowledged =
          subst (λ (r : Ran State Answer). AllAlong post Acknowledged (start_ledger s.connection) r.ended) (ran_on (taken_by cs)) d.acknowledged;
      acknowledged-calls = d.acknowledged-calls;
      sound = d.sound;
      never-4 = ((passed-model t p promise s f).number, d.never-4);
    }

  pub claimed : (s : Session) (t : Store) (cs : List Called) → sound s t ≡ true → Chain s t cs → Demand3 s t cs
  unfolding Chain
  claimed s t [] f h = none s t f
  claimed s t (reads m ∷ cs) f h = all-claimed s t (reads m ∷ cs) h f (good-held s t h.0.shaped f)
  claimed s t (passes p ∷ cs) f h = passed_first s t p cs h.0 f (claimed s p.store cs (passed-keeps-sound t p h.0 s f) h.1)
