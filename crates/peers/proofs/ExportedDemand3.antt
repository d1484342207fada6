-- Demand 3 for lists of the exported calls, from that for calls with the answer enum.
use Prim.Native.Nat.{ℕ}
use native.Mathlib.Omega.{arith}
use mathlib.Core.Path.{◌≡◌, refl, sym, ap, ◌∙◌, subst}
use mathlib.Core.Logic.{◌⊎◌, inl, inr}
use mathlib.Core.Option.{some}
use mathlib.Core.Bool.{true, false, true≢false}
use mathlib.Core.List.{List, [], ◌∷◌, ◌++◌, map}
use lib.ListN.{length, take}
use lib.Dec.{eqb}
use borrow.Author.Tests.{eqb-true, ne_eqb}
use Rattle.lists.proofs.Cases.{by-test}
use Rattle.lists.proofs.Bytes.{pad-drop}
use Rattle.store.specs.declared.Store.{Store}
use Rattle.session.specs.declared.Session.{Session}
use Rattle.session.specs.declared.Answer.{Answer}
use Rattle.session.specs.declared.Answer.TheVariants as answer
use Rattle.session.specs.Answers.{refusal_of, answer_number, answer_values}
use Rattle.session.specs.Session.{unfinished}
use Rattle.session.proofs.answers.OneToOne.{RefusedByte}
use Rattle.session.proofs.answers.Refusals.{refused-is}
use Rattle.session_soundness.specs.Sound.{sound}
use Rattle.streams.specs.Model.{Item, event, Ended, bytes}
use Rattle.streams.specs.Calls.{Part, timeline, without}
use Rattle.receiver.specs.Model.{Event, ends_refused, held_by, ends}
use Rattle.receiver.specs.Promise.{Made}
use Rattle.receiver.specs.Ledger.{Ledger, start_ledger, post, RightReply}
use Rattle.receiver.specs.Demand3.{Called, reads, passes, Chain, reply_in, taken_by, last_session, last_store, responses_of, replies_of, came_to, call_made, CallAsModel, EachCall, OffersTo, WithinCutsOf, RoomsAre, Offering, ended_by, AcknowledgedCalls, NeverUnsound}
use Rattle.receiver.proofs.Demand3.{demand-3}
use Rattle.receiver.proofs.Sharing.{refused-byte}
use Rattle.peers.specs.Numbers.{raw_outcome}
use Rattle.peers.specs.ExportedDemand3.{RawCalled, raw_reads, raw_reply, raw_taken, raw_last_session, raw_last_store, ends_number, raw_responses, raw_replies, raw_came_to, response_in_numbers, in_numbers, RawCallAsModel, RawEachCall, RawOffersTo, RawWithinCuts, RawRooms, RawOffering, raw_post, RawRightReply, RawAcknowledgedCalls, RawNeverUnsound, ExportedDemand3, EveryListOfCalls}
use Rattle.peers.proofs.AsMade.{raw_of, raw_called, mades_by, mades-chain, mades-same, raw-chain, values-most, values-told}

-- ---- the test on the number is the test on the answer

four : (n : ℕ) → ends_number n ≡ false → (n ≡ 256) ⊎ ((n ≡ 1) ⊎ ((n ≡ 2) ⊎ (n ≡ 4)))
unfolding ends_number
four n h =
    by-test (eqb n 256)
    (λ z. inl (eqb-true n 256 z))
    (λ z.
    by-test (eqb n 1)
    (λ a. inr (inl (eqb-true n 1 a)))
    (λ a.
    by-test (eqb n 2)
    (λ b. inr (inr (inl (eqb-true n 2 b))))
    (λ b.
    by-test (eqb n 4)
    (λ c. inr (inr (inr (eqb-true n 4 c))))
    (λ c. absurd (true≢false (rw (z, a, b, c) at h))))))

ends-number : (a : Answer) → RefusedByte a → ends_number (answer_number a) ≡ ends a
unfolding ends_number answer_number ends ends_refused refusal_of
ends-number answer.More h = refl
ends-number (answer.Hello process relative) h = refl
ends-number answer.Status h = refl
ends-number answer.Request h = refl
ends-number answer.Finished h = refl
ends-number answer.Partial h = refl
ends-number answer.Confirmed h = refl
ends-number answer.Heartbeat h = refl
ends-number (answer.Error type) h = refl
ends-number (answer.Table place) h = refl
ends-number (answer.Switch place) h = refl
ends-number (answer.Update table id entry how) h = refl
ends-number (answer.Acknowledgement id update) h = refl
ends-number (answer.Skipped type) h = refl
ends-number (answer.Refused n) h = let l = h n refl in rw (ne_eqb n 256 (λ e. omega (arith, l, e)))
ends-number (answer.RefusedAt n offset) h = let l = h n refl in rw (ne_eqb n 256 (λ e. omega (arith, l, e)))

-- ---- what the calls took, wrote and left

pub same-reply : (m : Made) → raw_reply (raw_of m) ≡ reply_in m
unfolding raw_reply reply_in raw_outcome
same-reply m = refl

pub same_taken : (cs : List Called) → raw_taken (map raw_called cs) ≡ taken_by cs
unfolding raw_taken taken_by raw_outcome
same_taken [] = refl
same_taken (reads m ∷ cs) = ap (bytes (take m.outcome.taken m.piece) ++◌) (same_taken cs)
same_taken (passes p ∷ cs) = ap (event p.milliseconds ∷◌) (same_taken cs)

pub same-session : (s : Session) (cs : List Called) → raw_last_session s (map raw_called cs) ≡ last_session s cs
unfolding raw_last_session last_session
same-session s [] = refl
same-session s (reads m ∷ cs) = same-session m.session cs
same-session s (passes p ∷ cs) = same-session s cs

pub same_store : (t : Store) (cs : List Called) → raw_last_store t (map raw_called cs) ≡ last_store t cs
unfolding raw_last_store last_store
same_store t [] = refl
same_store t (reads m ∷ cs) = same_store m.store cs
same_store t (passes p ∷ cs) = same_store p.store cs

same-replies : (cs : List Called) → raw_replies (map raw_called cs) ≡ replies_of cs
unfolding raw_replies replies_of
same-replies [] = refl
same-replies (reads m ∷ cs) = λ i. same-reply m i ++ same-replies cs i
same-replies (passes p ∷ cs) = same-replies cs

same-responses : (s : Session) (t : Store) (cs : List Called) → Chain s t cs → raw_responses (map raw_called cs) ≡ map response_in_numbers (responses_of cs)
unfolding raw_responses responses_of Chain raw_outcome
same-responses s t [] c = refl
same-responses s t (reads m ∷ cs) c =
    let a = m.outcome.answer in
    let e = ends-number a (refused-byte s t m c.0) in
    let rest = same-responses m.session m.store cs c.1 in
    by-test (ends a)
    (λ h.
    rw (e, h)
    (λ i. record { number = answer_number a; values = values-told m i; reply = same-reply m i } ∷ rest i))
    (λ h. rw (e, h) rest)
same-responses s t (passes p ∷ cs) c = same-responses s p.store cs c.1

same-came : (s : Session) (t : Store) (cs : List Called) → Chain s t cs → raw_came_to s t (map raw_called cs) ≡ in_numbers (came_to s t cs)
unfolding raw_came_to came_to in_numbers
same-came s t cs c = λ i. record {
  responses = same-responses s t cs c i;
  replies = same-replies cs i;
  state = held_by (same-session s cs i) (same_store t cs i);
}

-- ---- each call

each-call : (s : Session) (t : Store) (m : Made) → CallAsModel s t m → RawCallAsModel s t (raw_of m)
unfolding raw_outcome
each-call s t m h = record {
  call = call_made m;
  model = h.model;
  taken = refl;
  number = refl;
  values = values-told m;
  reply = same-reply m;
  state = refl;
  values-count = ap length (sym (values-told m));
  zeros = pad-drop 4 (answer_values m.outcome.answer) (values-most m.outcome.answer);
  count = h.count ∙ ap length (sym (same-reply m));
  room = h.room;
  size = h.size;
  kept = h.kept;
}

each-calls : (s : Session) (t : Store) (cs : List Called) → EachCall s t cs → RawEachCall s t (map raw_called cs)
unfolding EachCall RawEachCall
each-calls s t [] h = tt
each-calls s t (reads m ∷ cs) h = (each-call s t m h.0, each-calls m.session m.store cs h.1)
each-calls s t (passes p ∷ cs) h = (h.0, each-calls s p.store cs h.1)

-- ---- offering

pub offered : (s : Session) (rest : List (Item Event)) (cs : List Called) → RawOffersTo s rest (map raw_called cs) → OffersTo s rest cs
unfolding RawOffersTo OffersTo raw_outcome
offered s rest [] o = o
offered s rest (reads m ∷ cs) o = (o.0, o.1, o.2, offered m.session o.1 cs o.3)
offered s rest (passes p ∷ cs) o = (o.0, o.1, offered s o.0 cs o.2)

offers : (s : Session) (rest : List (Item Event)) (cs : List Called) → OffersTo s rest cs → RawOffersTo s rest (map raw_called cs)
unfolding RawOffersTo OffersTo raw_outcome
offers s rest [] o = o
offers s rest (reads m ∷ cs) o = (o.0, o.1, o.2, offers m.session o.1 cs o.3)
offers s rest (passes p ∷ cs) o = (o.0, o.1, offers s o.0 cs o.2)

within : (parts : List (Part Event)) (cs : List Called) → WithinCutsOf parts cs → RawWithinCuts parts (map raw_called cs)
unfolding RawWithinCuts WithinCutsOf raw_outcome
within parts [] o = tt
within parts (reads m ∷ cs) o = (o.0, within (without m.outcome.taken parts) cs o.1)
within parts (passes p ∷ cs) o = (o.0, o.1, within o.0 cs o.2)

rooms : (room : List ℕ) (cs : List Called) → RoomsAre room cs → RawRooms room (map raw_called cs)
unfolding RawRooms RoomsAre
rooms room [] o = tt
rooms room (reads m ∷ cs) o = (o.0, rooms room cs o.1)
rooms room (passes p ∷ cs) o = rooms room cs o

pub offering : (s : Session) (t : Store) (parts : List (Part Event)) (room : List ℕ) → Offering s t parts room → RawOffering s t parts room
offering s t parts room o = record {
  calls = map raw_called o.calls;
  rooms = rooms room o.calls o.rooms;
  chain = raw-chain s t o.calls o.chain;
  offers = offers s (timeline parts) o.calls o.offers;
  within = within parts o.calls o.within;
}

-- ---- acknowledgements

module _ (l : Ledger) (message reply : List ℕ) where
  abbrev ended : Answer → Ended Answer
  ended a = record { message = message; answer = a; reply = reply }

  posted : (a : Answer) → RefusedByte a → raw_post l message (answer_number a) (answer_values a) ≡ post l (ended a)
  unfolding raw_post post answer_number answer_values refusal_of
  posted answer.More h = refl
  posted (answer.Hello process relative) h = refl
  posted answer.Status h = refl
  posted answer.Request h = refl
  posted answer.Finished h = refl
  posted answer.Partial h = refl
  posted answer.Confirmed h = refl
  posted answer.Heartbeat h = refl
  posted (answer.Error type) h = refl
  posted (answer.Table place) h = refl
  posted (answer.Switch place) h = refl
  posted (answer.Update table id entry how) h = refl
  posted (answer.Acknowledgement id update) h = refl
  posted (answer.Skipped type) h = refl
  posted (answer.Refused n) h =
      let k = h n refl in
      rw (ne_eqb n 265 (λ e. omega (arith, k, e)), ne_eqb n 266 (λ e. omega (arith, k, e)), ne_eqb n 267 (λ e. omega (arith, k, e)))
  posted (answer.RefusedAt n offset) h =
      let k = h n refl in
      rw (ne_eqb n 265 (λ e. omega (arith, k, e)), ne_eqb n 266 (λ e. omega (arith, k, e)), ne_eqb n 267 (λ e. omega (arith, k, e)))

right : (l : Ledger) (message reply : List ℕ) (a : Answer) → RefusedByte a → RightReply l message reply a → RawRightReply l message reply (answer_number a) (answer_values a)
unfolding RawRightReply answer_number answer_values refusal_of
right l message reply answer.More h r = r
right l message reply (answer.Hello process relative) h r = r
right l message reply answer.Status h r = r
right l message reply answer.Request h r = r
right l message reply answer.Finished h r = r
right l message reply answer.Partial h r = r
right l message reply answer.Confirmed h r = r
right l message reply answer.Heartbeat h r = r
right l message reply (answer.Error type) h r = r
right l message reply (answer.Table place) h r = r
right l message reply (answer.Switch place) h r = r
right l message reply (answer.Update table id entry how) h r = r
right l message reply (answer.Acknowledgement id update) h r = r
right l message reply (answer.Skipped type) h r = r
right l message reply (answer.Refused n) h r = let k = h n refl in rw (ne_eqb n 267 (λ e. omega (arith, k, e)), ne_eqb n 266 (λ e. omega (arith, k, e))) r
right l message reply (answer.RefusedAt n offset) h r = let k = h n refl in rw (ne_eqb n 267 (λ e. omega (arith, k, e)), ne_eqb n 266 (λ e. omega (arith, k, e))) r

-- one call, before others of which it holds
pub acknowledged-call : (l : Ledger) (u : List ℕ) (m : Made) (cs : List Called) (others : List RawCalled) → RefusedByte m.outcome.answer
    → ((l' : Ledger) (u' : List ℕ) → AcknowledgedCalls l' u' cs → RawAcknowledgedCalls l' u' others) → AcknowledgedCalls l u (reads m ∷ cs)
    → RawAcknowledgedCalls l u (raw_reads (raw_of m) ∷ others)
unfolding AcknowledgedCalls RawAcknowledgedCalls raw_outcome
acknowledged-call l u m cs others b next k =
    let a = m.outcome.answer in
    let e = ended_by u m in
    let same = posted l e.message e.reply a b in
    by-test (ends a)
    (λ h.
    let k' : RightReply (post l e) e.message e.reply a × AcknowledgedCalls (post l e) [] cs = rw h at k in
    rw (ends-number a b, h, values-told m, same, same-reply m) (right (post l e) e.message e.reply a b k'.0, next (post l e) [] k'.1))
    (λ h.
    let k' : (reply_in m ≡ []) × AcknowledgedCalls l e.message cs = rw h at k in
    rw (ends-number a b, h) (same-reply m ∙ k'.0, next l e.message k'.1))

acknowledged-calls : (s : Session) (t : Store) (l : Ledger) (u : List ℕ) (cs : List Called) → Chain s t cs → AcknowledgedCalls l u cs
    → RawAcknowledgedCalls l u (map raw_called cs)
unfolding Chain AcknowledgedCalls RawAcknowledgedCalls
acknowledged-calls s t l u [] c k = tt
acknowledged-calls s t l u (reads m ∷ cs) c k =
    acknowledged-call l u m cs (map raw_called cs) (refused-byte s t m c.0) (λ l' u' k'. acknowledged-calls m.session m.store l' u' cs c.1 k') k
acknowledged-calls s t l u (passes p ∷ cs) c k = acknowledged-calls s p.store l u cs c.1 k

-- ---- never 4

never-4 : (cs : List Called) → NeverUnsound cs → RawNeverUnsound (map raw_called cs)
unfolding NeverUnsound RawNeverUnsound raw_outcome
never-4 [] h = tt
never-4 (reads m ∷ cs) h = ((λ e. h.0 (refused-is m.outcome.answer (omega (arith, e)) ∙ ap some e)), never-4 cs h.1)
never-4 (passes p ∷ cs) h = (h.0, never-4 cs h.1)

-- ---- the claim

carried : (s : Session) (t : Store) (cs : List Called) → sound s t ≡ true → Chain s t cs → ExportedDemand3 s t (map raw_called cs)
carried s t cs f c =
    let d = demand-3 s t cs f c in
    record {
      each = each-calls s t cs d.each;
      taken = rw (same_taken cs) (same-came s t cs c ∙ ap in_numbers d.taken);
      left_out = four;
      record_is = rw (same_taken cs) (same-session s cs ∙ d.record_is);
      whole = λ stream o. same-came s t cs c ∙ ap in_numbers (d.whole stream (offered s stream cs o));
      whole-record = λ stream o. same-session s cs ∙ d.whole-record stream (offered s stream cs o);
      exists = λ sh parts room q l r. offering s t parts room (d.exists sh parts room q l r);
      acknowledged = rw (same_taken cs) d.acknowledged;
      acknowledged-calls = acknowledged-calls s t (start_ledger s.connection) (unfinished s) cs c d.acknowledged-calls;
      sound = rw (same-session s cs, same_store t cs) d.sound;
      never-4 = never-4 cs d.never-4;
    }

pub exported-demand-3 : EveryListOfCalls
exported-demand-3 s t cs f c =
    subst (ExportedDemand3 s t) (sym (mades-same s t cs c)) (carried s t (mades_by s t cs) f (mades-chain s t cs c))
