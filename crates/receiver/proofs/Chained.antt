-- A list of real calls is the model's list of calls on the state that the first record and store hold.
use Prim.Native.Nat.{ℕ, zero, suc, ◌+◌, ◌^◌, ◌≤◌, ◌<◌, min}
use native.Mathlib.Omega.{arith}
use mathlib.Core.Path.{◌≡◌, refl, sym, ap, subst, ◌∙◌}
use mathlib.Core.Logic.{inl, inr, ⊎_elim}
use mathlib.Core.List.{List, [], ◌∷◌, ◌++◌}
use mathlib.Core.Option.{some}
use mathlib.Core.Bool.{true, false, cond, true≢false}
use lib.ListN.{length, get_or, take, length-append}
use lib.Seq.{length-take-le}
use lib.Dec.{eqb, ltb, lit<}
use borrow.Author.Tests.{eqb-true, eqb-false, ne_eqb, ltb-true, ltb-false}
use Rattle.lists.specs.Lists.{every}
use Rattle.lists.proofs.Cases.{by-test, cond-true, cond-false}
use Rattle.store.specs.declared.Store.{Store}
use Rattle.store.specs.Time.{Passed}
use Rattle.session.specs.declared.Sending.{Sending}
use Rattle.session.specs.declared.Session.{Session}
use Rattle.session.specs.Answers.{refusal_of}
use Rattle.session.proofs.answers.Refusals.{of-refusal, no_number, same_number}
use Rattle.session.specs.declared.Answer.{Answer}
use Rattle.session.specs.declared.Answer.TheVariants as answer
use Rattle.session.specs.Session.{holding, is_closed, unfinished}
use Rattle.session.proofs.Holding.{unfinished-held}
use Rattle.session_soundness.specs.Sound.{sound}
use Rattle.streams.specs.Model.{answered, Item, event, bytes, bytes_in}
use Rattle.streams.specs.Calls.{Call, Step, reading, happening, Result, respond, scan, read_call, run_calls, taken_of, Offers, of_bytes}
use Rattle.streams.specs.Claim.{Lawful}
use Rattle.lists.proofs.Every.{every-nil}
use Rattle.streams.proofs.Basics.{by-fed, every-cons, every-both}
use Rattle.streams.proofs.OneCall.{scan-nil, scan-quiet, scan-answered, call-short, call-closed, call-reads}
use Rattle.streams.proofs.Theorem.{call-inside, call-good}
use Rattle.streams.proofs.Timeline.{bytes_in-bytes}
use Rattle.receiver.specs.Model.{ends_refused, State, Event, held_by, sound_state, ends, feed, pass, is_byte, peers}
use Rattle.receiver.specs.Good.{Good}
use Rattle.receiver.specs.Promise.{Made, Shaped, ReadPromise}
use Rattle.receiver.specs.Demand3.{Called, reads, passes, Chain, taken_by, last_session, last_store, responses_of, replies_of, came_to, call_made, OffersTo}
use Rattle.receiver.proofs.Held.{sound-held, state-fits}
use Rattle.receiver.proofs.OneRead.{model_call, made-taken, made-state, made-sound, made-good, made-is, kept, taken-session, sending-kept}
use Rattle.receiver.proofs.OnePass.{passed-keeps-sound, passed-state, passed-good}

-- the calls as steps of the model
unfoldable pub steps_of : List Called → List (Step Event)
steps_of [] = []
steps_of (reads m ∷ cs) = reading m.piece (length m.room) ∷ steps_of cs
steps_of (passes p ∷ cs) = happening p.milliseconds ∷ steps_of cs

-- a first part of bytes
take-small : (n : ℕ) (xs : List ℕ) (i : ℕ) → get_or xs i 0 < 2 ^ 8 → get_or (take n xs) i 0 < 2 ^ 8
take-small zero xs i h = lit< tt
take-small (suc n) [] i h = h
take-small (suc n) (x ∷ xs) zero h = h
take-small (suc n) (x ∷ xs) (suc i) h = take-small n xs i h

pub good-held : (s : Session) (t : Store) → Shaped s t → sound s t ≡ true → Good (held_by s t)
unfolding held_by unfinished
good-held s t sh f =
    record {
      sound = sound-held s t sh.session.buffer.size f;
      connection = sh.session.connection;
      unfinished = λ i. take-small (min s.len 1027) s.buffer i (sh.session.buffer.small i);
      store = sh.store;
    }

abbrev preceded : Call State Answer → Result State Answer → Result State Answer
preceded c r = record { responses = respond peers c r.responses; replies = c.reply ++ r.replies; state = r.state }

came-cons : (s : Session) (t : Store) (m : Made) (cs : List Called) → came_to s t (reads m ∷ cs) ≡ preceded (call_made m) (came_to m.session m.store cs)
unfolding came_to responses_of replies_of last_session last_store
came-cons s t m cs = refl

came-passed : (s : Session) (t : Store) (p : Passed) (cs : List Called) → came_to s t (passes p ∷ cs) ≡ came_to s p.store cs
unfolding came_to responses_of replies_of last_session last_store
came-passed s t p cs = refl

run-cons : (s : State) (p : List ℕ) (n : ℕ) (steps : List (Step Event))
    → run_calls peers s (reading p n ∷ steps) ≡ preceded (read_call peers s p n) (run_calls peers (read_call peers s p n).state steps)
unfolding run_calls
run-cons s p n steps = refl

run-passed : (s : State) (e : ℕ) (steps : List (Step Event)) → run_calls peers s (happening e ∷ steps) ≡ run_calls peers (pass e s) steps
unfolding run_calls
run-passed s e steps = refl

pub steps-bytes : (s : Session) (t : Store) (cs : List Called) → Chain s t cs → every (of_bytes peers) (steps_of cs) ≡ true
unfolding Chain steps_of
steps-bytes s t [] h = every-nil (of_bytes peers)
steps-bytes s t (reads m ∷ cs) h =
    every-both (of_bytes peers) (reading m.piece (length m.room)) (steps_of cs) h.0.bytes (steps-bytes m.session m.store cs h.1)
steps-bytes s t (passes p ∷ cs) h =
    every-both (of_bytes peers) (happening p.milliseconds) (steps_of cs) refl (steps-bytes s p.store cs h.1)

pub closed-held : (s : Session) (t : Store) → is_closed (held_by s t).connection ≡ is_closed s.connection
unfolding held_by
closed-held s t = refl

taken-cons : (s : State) (p : List ℕ) (n : ℕ) (steps : List (Step Event))
    → taken_of peers s (reading p n ∷ steps) ≡ bytes (take (read_call peers s p n).taken p) ++ taken_of peers (read_call peers s p n).state steps
unfolding taken_of
taken-cons s p n steps = refl

taken-passed : (s : State) (e : ℕ) (steps : List (Step Event)) → taken_of peers s (happening e ∷ steps) ≡ event e ∷ taken_of peers (pass e s) steps
unfolding taken_of
taken-passed s e steps = refl

module _ (law : Lawful peers Good) where
  -- what the calls came to is what the model's calls come to
  pub runs : (s : Session) (t : Store) (cs : List Called) → Chain s t cs → sound s t ≡ true → Good (held_by s t)
      → came_to s t cs ≡ run_calls peers (held_by s t) (steps_of cs)
  unfolding Chain steps_of
  runs s t [] h f g = unfold came_to responses_of replies_of last_session last_store run_calls in refl
  runs s t (reads m ∷ cs) h f g =
      let f' = made-sound s t m h.0 f law g in
      let g' = made-good s t m h.0 f law g in
      came-cons s t m cs
      ∙ (ap (λ (c : Call State Answer). preceded c (came_to m.session m.store cs)) (made-is s t m h.0 f law g)
      ∙ (ap (preceded (model_call s t m)) (runs m.session m.store cs h.1 f' g' ∙ ap (λ (k : State). run_calls peers k (steps_of cs)) (made-state s t m h.0 f law g))
      ∙ sym (run-cons (held_by s t) m.piece (length m.room) (steps_of cs))))
  runs s t (passes p ∷ cs) h f g =
      came-passed s t p cs
      ∙ (runs s p.store cs h.1 (passed-keeps-sound t p h.0 s f) (passed-good t p h.0 s f g)
      ∙ (ap (λ (k : State). run_calls peers k (steps_of cs)) (passed-state t p h.0 s f) ∙ sym (run-passed (held_by s t) p.milliseconds (steps_of cs))))

  -- the bytes that they took and the times where they passed are the model's
  pub takes : (s : Session) (t : Store) (cs : List Called) → Chain s t cs → sound s t ≡ true → Good (held_by s t)
      → taken_of peers (held_by s t) (steps_of cs) ≡ taken_by cs
  unfolding Chain steps_of
  takes s t [] h f g = unfold taken_of taken_by in refl
  takes s t (reads m ∷ cs) h f g =
      let f' = made-sound s t m h.0 f law g in
      let g' = made-good s t m h.0 f law g in
      taken-cons (held_by s t) m.piece (length m.room) (steps_of cs)
      ∙ (ap (λ (k : State). bytes (take (model_call s t m).taken m.piece) ++ taken_of peers k (steps_of cs)) (sym (made-state s t m h.0 f law g))
      ∙ (ap (λ (l : List (Item Event)). bytes (take (model_call s t m).taken m.piece) ++ l) (takes m.session m.store cs h.1 f' g')
      ∙ (ap (λ (n : ℕ). bytes (take n m.piece) ++ taken_by cs) (sym (made-taken s t m h.0 f)) ∙ unfold taken_by in refl)))
  takes s t (passes p ∷ cs) h f g =
      taken-passed (held_by s t) p.milliseconds (steps_of cs)
      ∙ (ap (λ (k : State). event p.milliseconds ∷ taken_of peers k (steps_of cs)) (sym (passed-state t p h.0 s f))
      ∙ (ap (event p.milliseconds ∷◌) (takes s p.store cs h.1 (passed-keeps-sound t p h.0 s f) (passed-good t p h.0 s f g))
      ∙ unfold taken_by in refl))

  -- calls that offer a stream are the model's calls that offer it
  pub offers : (s : Session) (t : Store) (cs : List Called) (stream : List (Item Event)) → Chain s t cs → sound s t ≡ true → Good (held_by s t)
      → OffersTo s stream cs → Offers peers (held_by s t) stream (steps_of cs)
  unfolding Chain steps_of OffersTo Offers
  offers s t [] stream h f g o = ⊎_elim (λ e. inl e) (λ c. inr (closed-held s t ∙ c.0, c.1)) o
  offers s t (reads m ∷ cs) stream h f g o =
      let f' = made-sound s t m h.0 f law g in
      let g' = made-good s t m h.0 f law g in
      let e = made-state s t m h.0 f law g in
      let r = offers m.session m.store cs o.1 h.1 f' g' o.3 in (
        ⊎_elim (λ c. inl (closed-held s t ∙ c)) inr o.0,
        o.1,
        ap (λ (n : ℕ). bytes (take n m.piece) ++ o.1) (sym (made-taken s t m h.0 f)) ∙ o.2,
        subst (λ (k : State). Offers peers k o.1 (steps_of cs)) e r,
      )
  offers s t (passes p ∷ cs) stream h f g o =
      let r = offers s p.store cs o.0 h.1 (passed-keeps-sound t p h.0 s f) (passed-good t p h.0 s f g) o.2 in
      (o.0, o.1, subst (λ (k : State). Offers peers k o.0 (steps_of cs)) (passed-state t p h.0 s f) r)

  -- record and store stay sound
  pub ends-sound : (s : Session) (t : Store) (cs : List Called) → Chain s t cs → sound s t ≡ true → Good (held_by s t)
      → sound (last_session s cs) (last_store t cs) ≡ true
  unfolding Chain last_session last_store
  ends-sound s t [] h f g = f
  ends-sound s t (reads m ∷ cs) h f g =
      ends-sound m.session m.store cs h.1 (made-sound s t m h.0 f law g) (made-good s t m h.0 f law g)
  ends-sound s t (passes p ∷ cs) h f g =
      ends-sound s p.store cs h.1 (passed-keeps-sound t p h.0 s f) (passed-good t p h.0 s f g)

  -- ---- each call

  -- what every reading call from a good state has: of the model's own answers, and of the answers that no byte gives
  module _ (P : Answer → List ℕ → Type 0)
      (byte-has : (k : State) (b : ℕ) (a : Answer) (r : List ℕ) (k' : State) → Good k → is_byte b ≡ true → feed k b ≡ answered a r k' → P a r)
      (more-has : P answer.More [])
      (one-has : P (answer.Refused 1) [])
      (two-has : P (answer.Refused 2) []) where
    scan-has : (s : State) (p : List ℕ) → Good s → every is_byte p ≡ true → P (scan peers s p).answer (scan peers s p).reply
    scan-has s [] g q = rw (scan-nil peers s) more-has
    scan-has s (b ∷ bs) g q =
        let d = every-cons is_byte b bs q in
        let n = law.good-feed s b g d.0 in
        by-fed (feed s b)
        (λ k h. rw (scan-quiet peers s k b bs h) (scan-has k bs (rw h at n) d.1))
        (λ a r k h. rw (scan-answered peers s k b bs a r h) (byte-has s b a r k g d.0 h))

    pub call-has : (s : State) (p : List ℕ) (n : ℕ) → Good s → every is_byte p ≡ true → P (read_call peers s p n).answer (read_call peers s p n).reply
    call-has s p n g q =
        by-test (ltb n 12)
        (λ a. rw (call-short peers s p n (ltb-true n 12 a)) one-has)
        (λ a.
        let l = ltb-false n 12 a in
        by-test (is_closed s.connection)
        (λ c. rw (call-closed peers s p n l g.sound c) two-has)
        (λ c. rw (call-reads peers s p n l g.sound c) (scan-has s p g q)))

  -- 4 is none of them
  four-left : (a : Answer) → refusal_of a ≡ some 4 → ends a ≡ false
  unfolding ends ends_refused
  four-left = of-refusal (λ (b : Answer). ends b ≡ false) 4 refl (λ offset. refl)

  Not4 : Answer → List ℕ → Type 0
  Not4 a r = refusal_of a ≡ some 4 → ⊥

  pub not-4 : (s : State) (p : List ℕ) (n : ℕ) → Good s → every is_byte p ≡ true → refusal_of (read_call peers s p n).answer ≡ some 4 → ⊥
  unfolding Not4
  not-4 s p n g q =
      call-has Not4
      (λ k b a r k' g' q' h e. true≢false (sym (law.answers-end k b a r k' h) ∙ four-left a e))
      (λ e. no_number 4 (unfold refusal_of in e))
      (λ e. omega (arith, same_number 1 4 (unfold refusal_of in e)))
      (λ e. omega (arith, same_number 2 4 (unfold refusal_of in e)))
      s p n g q

  -- ---- the record at the end

  -- how many bytes a list of calls took
  taken-length : (s : Session) (t : Store) (m : Made) (cs : List Called) → ReadPromise s t m → sound s t ≡ true
      → length (bytes_in (taken_by (reads m ∷ cs))) ≡ m.outcome.taken + length (bytes_in (taken_by cs))
  unfolding taken_by
  taken-length s t m cs p f =
      let i : m.outcome.taken ≤ length m.piece = rw (made-taken s t m p f) (call-inside peers law (held_by s t) m.piece (length m.room)) in
      ap length (bytes_in-bytes (take m.outcome.taken m.piece) (taken_by cs))
      ∙ (length-append (take m.outcome.taken m.piece) (bytes_in (taken_by cs))
      ∙ ap (λ (n : ℕ). n + length (bytes_in (taken_by cs))) (length-take-le m.outcome.taken m.piece i))

  passed_length : (p : Passed) (cs : List Called) → length (bytes_in (taken_by (passes p ∷ cs))) ≡ length (bytes_in (taken_by cs))
  unfolding taken_by bytes_in
  passed_length p cs = refl

  none-taken : (s : Session) (t : Store) (cs : List Called) → Chain s t cs → sound s t ≡ true → Good (held_by s t)
      → length (bytes_in (taken_by cs)) ≡ 0 → last_session s cs ≡ s
  unfolding Chain last_session
  none-taken s t [] h f g e = refl
  none-taken s t (reads m ∷ cs) h f g e =
      let n = sym (taken-length s t m cs h.0 f) ∙ e in
      none-taken m.session m.store cs h.1 (made-sound s t m h.0 f law g) (made-good s t m h.0 f law g) (omega arith)
      ∙ (kept s t m h.0 f (omega arith)).0
  none-taken s t (passes p ∷ cs) h f g e =
      none-taken s p.store cs h.1 (passed-keeps-sound t p h.0 s f) (passed-good t p h.0 s f g) (sym (passed_length p cs) ∙ e)

  -- a record that holds its state with zeros behind the unfinished bytes
  abbrev Held : Sending → Session → Type 0
  Held x s = s ≡ holding x s.connection (unfinished s)

  holding-held : (x : Sending) (s : Session) (k : State) → sound_state k ≡ true → s ≡ holding x k.connection k.unfinished → Held x s
  holding-held x s k f e =
      let u = ap unfinished e ∙ unfinished-held x k.connection k.unfinished (state-fits k f) in
      let c : s.connection ≡ k.connection = ap (λ (x : Session). x.connection) e ∙ unfold holding in refl in
      e ∙ rw (u, c) refl

  some-taken : (s : Session) (t : Store) (cs : List Called) → Chain s t cs → sound s t ≡ true → Good (held_by s t)
      → (length (bytes_in (taken_by cs)) ≡ 0 → ⊥) → Held s.sending (last_session s cs)
  unfolding Chain last_session
  some-taken s t [] h f g e = absurd (e (unfold taken_by bytes_in in refl))
  some-taken s t (reads m ∷ cs) h f g e =
      let f' = made-sound s t m h.0 f law g in
      let g' = made-good s t m h.0 f law g in
      by-test (eqb (length (bytes_in (taken_by cs))) 0)
      (λ z.
      let y = eqb-true (length (bytes_in (taken_by cs))) 0 z in
      let n = taken-length s t m cs h.0 f in
      let k : eqb (model_call s t m).taken 0 ≡ false = ne_eqb (model_call s t m).taken 0 (λ w. e (let v = made-taken s t m h.0 f in omega arith)) in
      let q = call-good peers law (held_by s t) m.piece (length m.room) g h.0.bytes in
      rw (none-taken m.session m.store cs h.1 f' g' y)
      (holding-held s.sending m.session (model_call s t m).state q.sound (taken-session s t m h.0 f k)))
      (λ z.
      subst (λ (x : Sending). Held x (last_session m.session cs)) (sending-kept s t m h.0)
      (some-taken m.session m.store cs h.1 f' g' (eqb-false (length (bytes_in (taken_by cs))) 0 z)))
  some-taken s t (passes p ∷ cs) h f g e =
      some-taken s p.store cs h.1 (passed-keeps-sound t p h.0 s f) (passed-good t p h.0 s f g) (λ z. e (passed_length p cs ∙ z))

  pub ends_at : (s : Session) (t : Store) (cs : List Called) → Chain s t cs → sound s t ≡ true → Good (held_by s t)
      → last_session s cs ≡ cond (eqb (length (bytes_in (taken_by cs))) 0) s (holding s.sending (last_session s cs).connection (unfinished (last_session s cs)))
  ends_at s t cs h f g =
      by-test (eqb (length (bytes_in (taken_by cs))) 0)
      (λ z.
      none-taken s t cs h f g (eqb-true (length (bytes_in (taken_by cs))) 0 z) ∙ sym (cond-true (eqb (length (bytes_in (taken_by cs))) 0) _ _ z))
      (λ z.
      some-taken s t cs h f g (eqb-false (length (bytes_in (taken_by cs))) 0 z) ∙ sym (cond-false (eqb (length (bytes_in (taken_by cs))) 0) _ _ z))
