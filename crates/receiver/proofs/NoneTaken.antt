-- Calls that take nothing: on a closed session, and of an empty piece. Where a stream was offered and no byte was taken, it was one of these.
use Prim.Native.Nat.{ℕ, zero, suc, ◌≤◌}
use native.Mathlib.Omega.{arith}
use mathlib.Core.Path.{◌≡◌, refl, sym, ap, ◌∙◌}
use mathlib.Core.Logic.{◌⊎◌, inl, inr, ⊎_elim}
use mathlib.Core.Bool.{true, false, ◌||◌}
use mathlib.Core.List.{List, [], ◌∷◌, ◌++◌}
use lib.ListN.{length, take}
use lib.Dec.{ltb, eqb}
use borrow.Author.Tests.{ltb-true, ltb-false, eqb-true, eq-eqb}
use Rattle.lists.proofs.Cases.{by-test, cond-true, or-true, or-false, not-passed, never}
use Rattle.store.specs.declared.Store.{Store}
use Rattle.store.specs.Time.{Passed}
use Rattle.session.specs.declared.Session.{Session}
use Rattle.session.specs.declared.Answer.{Answer}
use Rattle.session.specs.declared.Outcome.{Outcome}
use Rattle.session.specs.Session.{is_closed}
use Rattle.session_soundness.specs.Sound.{sound}
use Rattle.streams.specs.Model.{Item, event, bytes_in, bytes}
use Rattle.streams.specs.Calls.{Call, scan}
use Rattle.streams.proofs.OneCall.{scan-nil, scan-inside}
use Rattle.streams.proofs.Timeline.{bytes_in-bytes}
use Rattle.receiver.specs.Model.{State, Event, held_by, peers}
use Rattle.receiver.specs.Promise.{Made, ReadPromise, call_of, outcome_of, session_of}
use Rattle.receiver.specs.Demand3.{Called, reads, passes, Chain, OffersTo, taken_by}
use Rattle.receiver.proofs.CallCases.{call-short, call-unsound, call-closed, call-open}

-- in each case of a call
by-case : (P : ℕ → Type 0) (s : Session) (t : Store) (piece room : List ℕ) → P 0 → (is_closed s.connection ≡ false → P (scan peers (held_by s t) piece).taken)
    → P (call_of s t piece (length room)).taken
by-case P s t piece room z f =
    by-test (ltb (length room) 12)
    (λ a. rw (call-short s t piece room (ltb-true (length room) 12 a)) z)
    (λ a.
    let l = ltb-false (length room) 12 a in
    by-test (sound s t)
    (λ g.
    by-test (is_closed s.connection)
    (λ o. rw (call-closed s t piece room l g o) z)
    (λ o. rw (call-open s t piece room l g o) (f o)))
    (λ g. rw (call-unsound s t piece room l g) z))

module _ (s : Session) (t : Store) (m : Made) (p : ReadPromise s t m) where
  taken_is : m.outcome.taken ≡ (call_of s t m.piece (length m.room)).taken
  unfolding outcome_of
  taken_is = ap (λ (o : Outcome). o.taken) p.outcome

  closed-takes : is_closed s.connection ≡ true → m.outcome.taken ≡ 0
  closed-takes o = taken_is ∙ by-case (λ (n : ℕ). n ≡ 0) s t m.piece m.room refl (λ c. never o c)

  empty-takes : m.piece ≡ [] → m.outcome.taken ≡ 0
  empty-takes e =
      taken_is
      ∙ by-case (λ (n : ℕ). n ≡ 0) s t m.piece m.room refl
      (λ c. ap (λ (x : List ℕ). (scan peers (held_by s t) x).taken) e ∙ ap (λ (k : Call State Answer). k.taken) (scan-nil peers (held_by s t)))

  takes-inside : m.outcome.taken ≤ length m.piece
  takes-inside =
      rw (taken_is)
      (by-case (λ (n : ℕ). n ≤ length m.piece) s t m.piece m.room (omega arith) (λ c. scan-inside peers (held_by s t) m.piece))

  same-record : m.outcome.taken ≡ 0 → m.session ≡ s
  unfolding session_of
  same-record z =
      p.session
      ∙ cond-true (eqb (call_of s t m.piece (length m.room)).taken 0) _ _
      (eq-eqb (call_of s t m.piece (length m.room)).taken 0 (sym (taken_is) ∙ z))

-- parts of an empty list are empty
first-none : (xs ys : List ℕ) → xs ++ ys ≡ [] → xs ≡ []
first-none [] ys h = refl
first-none (x ∷ xs) ys h = absurd (let z = ap length h in omega arith)

second_none : (xs ys : List ℕ) → xs ++ ys ≡ [] → ys ≡ []
second_none [] ys h = h
second_none (x ∷ xs) ys h = absurd (let z = ap length h in omega arith)

none-taken : (n : ℕ) (xs : List ℕ) → n ≤ length xs → take n xs ≡ [] → n ≡ 0
none-taken zero xs l h = refl
none-taken (suc n) [] l h = absurd (omega arith)
none-taken (suc n) (x ∷ xs) l h = absurd (let z = ap length h in omega arith)

-- the bytes of a call's part of the timeline, and of the rest
pub taken_in : (m : Made) (cs : List Called) → bytes_in (taken_by (reads m ∷ cs)) ≡ take m.outcome.taken m.piece ++ bytes_in (taken_by cs)
unfolding taken_by
taken_in m cs = bytes_in-bytes (take m.outcome.taken m.piece) (taken_by cs)

pub passed-in : (p : Passed) (cs : List Called) → bytes_in (taken_by (passes p ∷ cs)) ≡ bytes_in (taken_by cs)
unfolding taken_by bytes_in
passed-in p cs = refl

none-none : bytes_in {E = Event} [] ≡ []
unfolding bytes_in
none-none = refl

time-in : (e : ℕ) (later : List (Item Event)) → bytes_in (event e ∷ later) ≡ bytes_in later
unfolding bytes_in
time-in e later = refl

none_in : (m : Made) (cs : List Called) → m.outcome.taken ≡ 0 → bytes_in (taken_by cs) ≡ [] → bytes_in (taken_by (reads m ∷ cs)) ≡ []
none_in m cs z e = taken_in m cs ∙ rw (z, e)

closed_none : (s : Session) (t : Store) (cs : List Called) → is_closed s.connection ≡ true → Chain s t cs → bytes_in (taken_by cs) ≡ []
unfolding Chain
closed_none s t [] o c = unfold taken_by bytes_in in refl
closed_none s t (reads m ∷ cs) o c =
    let z = closed-takes s t m c.0 o in
    let e = same-record s t m c.0 z in
    none_in m cs z (closed_none m.session m.store cs (ap (λ (x : Session). is_closed x.connection) e ∙ o) c.1)
closed_none s t (passes p ∷ cs) o c = passed-in p cs ∙ closed_none s p.store cs o c.1

-- a call that takes nothing leaves all of the stream
left_over : (m : Made) (stream later : List (Item Event)) → m.outcome.taken ≡ 0 → bytes (take m.outcome.taken m.piece) ++ later ≡ stream
    → later ≡ stream
left_over m stream later z e = ap (λ (n : ℕ). bytes (take n m.piece) ++ later) (sym z) ∙ e

empty-none : (s : Session) (t : Store) (stream : List (Item Event)) (cs : List Called) → bytes_in stream ≡ [] → Chain s t cs → OffersTo s stream cs
    → bytes_in (taken_by cs) ≡ []
unfolding Chain OffersTo
empty-none s t stream [] n c o = unfold taken_by bytes_in in refl
empty-none s t stream (reads m ∷ cs) n c o =
    let z =
    ⊎_elim
    (λ k. closed-takes s t m c.0 k)
    (λ r. empty-takes s t m c.0 (first-none m.piece r.0 (r.1 ∙ n)))
    o.0 in
    none_in m cs z
    (empty-none m.session m.store o.1 cs (ap bytes_in (left_over m stream o.1 z o.2) ∙ n) c.1 o.3)
empty-none s t stream (passes p ∷ cs) n c o =
    passed-in p cs
    ∙ empty-none s p.store o.0 cs (sym (time-in p.milliseconds o.0) ∙ (ap bytes_in o.1 ∙ n)) c.1 o.2

-- where a stream was offered and no byte was taken, the stream has none or the session was closed
pub none-why : (s : Session) (t : Store) (stream : List (Item Event)) (cs : List Called) → Chain s t cs → OffersTo s stream cs → bytes_in (taken_by cs) ≡ []
    → (bytes_in stream ≡ []) ⊎ (is_closed s.connection ≡ true)
unfolding Chain OffersTo
none-why s t stream [] c o h = ⊎_elim (λ e. inl (ap bytes_in e ∙ none-none)) (λ k. inr k.0) o
none-why s t stream (reads m ∷ cs) c o h =
    let k = sym (taken_in m cs) ∙ h in
    let z = none-taken m.outcome.taken m.piece (takes-inside s t m c.0) (first-none (take m.outcome.taken m.piece) (bytes_in (taken_by cs)) k) in
    let e = same-record s t m c.0 z in
    ⊎_elim
    (λ r. inl (ap bytes_in (sym (left_over m stream o.1 z o.2)) ∙ r))
    (λ r. inr (ap (λ (x : Session). is_closed x.connection) (sym e) ∙ r))
    (none-why m.session m.store o.1 cs c.1 o.3
    (second_none (take m.outcome.taken m.piece) (bytes_in (taken_by cs)) k))
none-why s t stream (passes p ∷ cs) c o h =
    ⊎_elim
    (λ r. inl (sym (ap bytes_in o.1) ∙ (time-in p.milliseconds o.0 ∙ r)))
    inr
    (none-why s p.store o.0 cs c.1 o.2 (sym (passed-in p cs) ∙ h))

no_length : (xs : List ℕ) → length xs ≡ 0 → xs ≡ []
no_length [] h = refl
no_length (x ∷ xs) h = absurd (omega arith)

-- so the test of what was taken is a test of the stream and of the first record
pub none-test : (s : Session) (t : Store) (stream : List (Item Event)) (cs : List Called) → Chain s t cs → OffersTo s stream cs
    → eqb (length (bytes_in (taken_by cs))) 0 ≡ (eqb (length (bytes_in stream)) 0 || is_closed s.connection)
none-test s t stream cs c o =
    let taken = eqb (length (bytes_in (taken_by cs))) 0 in
    let empty = eqb (length (bytes_in stream)) 0 in
    by-test taken
    (λ a.
    ⊎_elim
    (λ e. a ∙ sym (or-true empty (is_closed s.connection) (eq-eqb (length (bytes_in stream)) 0 (ap length e))))
    (λ e.
    by-test empty
    (λ b. a ∙ sym (or-true empty (is_closed s.connection) b))
    (λ b. a ∙ sym (or-false empty (is_closed s.connection) b ∙ e)))
    (none-why s t stream cs c o (no_length (bytes_in (taken_by cs)) (eqb-true (length (bytes_in (taken_by cs))) 0 a))))
    (λ a.
    let f : empty ≡ false =
    not-passed empty
    (λ b.
    let e = no_length (bytes_in stream) (eqb-true (length (bytes_in stream)) 0 b) in
    never (eq-eqb (length (bytes_in (taken_by cs))) 0 (ap length (empty-none s t stream cs e c o))) a) in
    let g : is_closed s.connection ≡ false =
    not-passed (is_closed s.connection) (λ b. never (eq-eqb (length (bytes_in (taken_by cs))) 0 (ap length (closed_none s t cs b c))) a) in
    a ∙ sym (or-false empty (is_closed s.connection) f ∙ g))
