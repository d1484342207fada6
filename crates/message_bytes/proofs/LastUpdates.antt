-- For each place of the store that a list of calls left, the last call that updated it, by induction on the list.
use Prim.Native.Nat.{ℕ}
use native.Mathlib.Omega.{arith}
use mathlib.Core.Path.{◌≡◌, refl, sym, ap, subst, ◌∙◌}
use mathlib.Core.Logic.{◌⊎◌, inl, inr, ⊎_elim}
use mathlib.Core.Bool.{true}
use mathlib.Core.List.{List, [], ◌∷◌, ◌++◌, append_assoc, append-nil}
use lib.ListN.{length, take, get_or}
use Rattle.lists.proofs.Cases.{eq-or-ne}
use Rattle.store.specs.declared.Entry.{Entry}
use Rattle.store.specs.declared.Store.{Store}
use Rattle.store.specs.Store.{no_entry}
use Rattle.store.specs.Time.{Passed, PassPromise}
use Rattle.session.specs.declared.Session.{Session}
use Rattle.session.specs.declared.Commit.{Commit}
use Rattle.session.specs.declared.Answer.{Answer}
use Rattle.session.specs.Session.{unfinished}
use Rattle.session.specs.declared.Answer.TheVariants as answer
use Rattle.session_soundness.specs.Sound.{sound}
use Rattle.streams.specs.Model.{bytes_in}
use Rattle.streams.specs.Calls.{Call}
use Rattle.receiver.specs.Model.{State, held_by}
use Rattle.receiver.specs.Promise.{Made, ReadPromise, call_of}
use Rattle.receiver.specs.Demand3.{Called, reads, passes, Chain, taken_by, last_session, last_store}
use Rattle.receiver.specs.Corollaries.{message_of}
use Rattle.receiver.proofs.Chained.{good-held}
use Rattle.receiver.proofs.NoneTaken.{taken_in, passed-in}
use Rattle.receiver.proofs.OneRead.{call-is, made-state}
use Rattle.receiver.proofs.Lawfully.{lawful}
use Rattle.receiver.proofs.Ways.{Way, staying, waiting-on, judging, ways, taken_is, record-stays}
use Rattle.receiver.proofs.Acknowledging.{others-untouched}
use Rattle.message_bytes.specs.LastUpdates.{last_entry, NoneUpdates, passing, NonePasses, Since, same, NeverUpdated, LastUpdate, BytesOfEveryEntry}
use Rattle.message_bytes.proofs.Aging.{passed-since}
use Rattle.message_bytes.proofs.UpdateMessages.{bytes-of-update, place-of-update, updated-elsewhere}
use Rattle.message_bytes.proofs.DefinitionMessages.{bytes-of-definition}

-- ---- what an answer is

abbrev Updates : Answer → Type 0
Updates a = (table : ℕ) × ((id : ℕ) × ((place : ℕ) × ((how : Commit) × (a ≡ answer.Update table id place how))))

abbrev Defines : Answer → Type 0
Defines a = (place : ℕ) × (a ≡ answer.Table place)

abbrev Other : Answer → Type 0
Other a = ((place : ℕ) → a ≡ answer.Table place → ⊥) × ((table id place : ℕ) (how : Commit) → a ≡ answer.Update table id place how → ⊥)

kind-of : (a : Answer) → Updates a ⊎ (Defines a ⊎ Other a)
kind-of answer.More = inr (inr ((λ place q. absurd (let z : ◌≡◌ {A = ℕ} 0 1 = cc in omega arith)), (λ table id place how q. absurd (let z : ◌≡◌ {A = ℕ} 0 1 = cc in omega arith))))
kind-of (answer.Hello x0 x1) = inr (inr ((λ place q. absurd (let z : ◌≡◌ {A = ℕ} 0 1 = cc in omega arith)), (λ table id place how q. absurd (let z : ◌≡◌ {A = ℕ} 0 1 = cc in omega arith))))
kind-of answer.Status = inr (inr ((λ place q. absurd (let z : ◌≡◌ {A = ℕ} 0 1 = cc in omega arith)), (λ table id place how q. absurd (let z : ◌≡◌ {A = ℕ} 0 1 = cc in omega arith))))
kind-of answer.Request = inr (inr ((λ place q. absurd (let z : ◌≡◌ {A = ℕ} 0 1 = cc in omega arith)), (λ table id place how q. absurd (let z : ◌≡◌ {A = ℕ} 0 1 = cc in omega arith))))
kind-of answer.Finished = inr (inr ((λ place q. absurd (let z : ◌≡◌ {A = ℕ} 0 1 = cc in omega arith)), (λ table id place how q. absurd (let z : ◌≡◌ {A = ℕ} 0 1 = cc in omega arith))))
kind-of answer.Partial = inr (inr ((λ place q. absurd (let z : ◌≡◌ {A = ℕ} 0 1 = cc in omega arith)), (λ table id place how q. absurd (let z : ◌≡◌ {A = ℕ} 0 1 = cc in omega arith))))
kind-of answer.Confirmed = inr (inr ((λ place q. absurd (let z : ◌≡◌ {A = ℕ} 0 1 = cc in omega arith)), (λ table id place how q. absurd (let z : ◌≡◌ {A = ℕ} 0 1 = cc in omega arith))))
kind-of answer.Heartbeat = inr (inr ((λ place q. absurd (let z : ◌≡◌ {A = ℕ} 0 1 = cc in omega arith)), (λ table id place how q. absurd (let z : ◌≡◌ {A = ℕ} 0 1 = cc in omega arith))))
kind-of (answer.Error x0) = inr (inr ((λ place q. absurd (let z : ◌≡◌ {A = ℕ} 0 1 = cc in omega arith)), (λ table id place how q. absurd (let z : ◌≡◌ {A = ℕ} 0 1 = cc in omega arith))))
kind-of (answer.Switch x0) = inr (inr ((λ place q. absurd (let z : ◌≡◌ {A = ℕ} 0 1 = cc in omega arith)), (λ table id place how q. absurd (let z : ◌≡◌ {A = ℕ} 0 1 = cc in omega arith))))
kind-of (answer.Acknowledgement x0 x1) = inr (inr ((λ place q. absurd (let z : ◌≡◌ {A = ℕ} 0 1 = cc in omega arith)), (λ table id place how q. absurd (let z : ◌≡◌ {A = ℕ} 0 1 = cc in omega arith))))
kind-of (answer.Skipped x0) = inr (inr ((λ place q. absurd (let z : ◌≡◌ {A = ℕ} 0 1 = cc in omega arith)), (λ table id place how q. absurd (let z : ◌≡◌ {A = ℕ} 0 1 = cc in omega arith))))
kind-of (answer.Refused x0) = inr (inr ((λ place q. absurd (let z : ◌≡◌ {A = ℕ} 0 1 = cc in omega arith)), (λ table id place how q. absurd (let z : ◌≡◌ {A = ℕ} 0 1 = cc in omega arith))))
kind-of (answer.RefusedAt x0 x1) = inr (inr ((λ place q. absurd (let z : ◌≡◌ {A = ℕ} 0 1 = cc in omega arith)), (λ table id place how q. absurd (let z : ◌≡◌ {A = ℕ} 0 1 = cc in omega arith))))
kind-of (answer.Table place) = inr (inl (place, refl))
kind-of (answer.Update table id place how) = inl (table, (id, (place, (how, refl))))

-- ---- one call

-- where a call didn't update a place, the place holds what it held
module _ (s : Session) (t : Store) (m : Made) (p : ReadPromise s t m) (place : ℕ) where
  abbrev Stays : Type 0
  Stays = ((table id : ℕ) (how : Commit) → m.outcome.answer ≡ answer.Update table id place how → ⊥) × (get_or m.store.entries place no_entry ≡ get_or t.entries place no_entry)

  abbrev Changes : Type 0
  Changes = (table : ℕ) × ((id : ℕ) × ((how : Commit) × (m.outcome.answer ≡ answer.Update table id place how)))

  one-call : Changes ⊎ Stays
  one-call =
      ⊎_elim
      (λ u.
      let a = u.1.1.1.1 in
      ⊎_elim
      (λ z. inl (u.0, (u.1.0, (u.1.1.1.0, a ∙ ap (λ (i : ℕ). answer.Update u.0 u.1.0 i u.1.1.1.0) z))))
      (λ f.
      inr (
        (λ table id how q. f (update-place (sym a ∙ q))),
        updated-elsewhere s t m u.0 u.1.0 u.1.1.0 u.1.1.1.0 p a place (λ z. f (sym z)),
      ))
      (eq-or-ne u.1.1.0 place))
      (λ w.
      ⊎_elim
      (λ d.
      inr (
        (λ table id how q. absurd (let r = sym d.1 ∙ q in let z : ◌≡◌ {A = ℕ} 0 1 = cc in omega arith)),
        ap (λ (es : List Entry). get_or es place no_entry) (bytes-of-definition s t m d.0 p d.1).entries,
      ))
      (λ o.
      inr (
        (λ table id how q. o.1 table id place how q),
        ap (λ (x : Store). get_or x.entries place no_entry) (others-untouched s t m p o.0 o.1).store,
      ))
      w)
      (kind-of m.outcome.answer)
    where
      update-place : {a b c d i j : ℕ} {h k : Commit} → answer.Update a b i h ≡ answer.Update c d j k → i ≡ j
      update-place q = cc

-- ---- the bytes of one call

-- of the unfinished bytes and those taken, some are done with and the others are unfinished afterwards
module _ (s : Session) (t : Store) (m : Made) (p : ReadPromise s t m) where
  abbrev call : Call State Answer
  call = call_of s t m.piece (length m.room)

  abbrev pub Carried : Type 0
  Carried = (done : List ℕ) × (message_of s m ≡ done ++ unfinished m.session)

  unfinished-is : sound s t ≡ true → unfinished m.session ≡ call.state.unfinished
  unfolding held_by
  unfinished-is f =
      let g = good-held s t p.shaped f in
      ap (λ (k : State). k.unfinished)
      (made-state s t m p f lawful g ∙ ap (λ (c : Call State Answer). c.state) (sym (call-is s t m.piece (length m.room) f g.sound)))

  carried : Way s t m.piece call → Carried
  carried (staying n h q) =
      let z : call.taken ≡ 0 = ap (λ (c : Call State Answer). c.taken) q in (
        [],
        ap (λ (k : ℕ). unfinished s ++ take k m.piece) (taken_is s t m p ∙ z) ∙ (append-nil (unfinished s) ∙ ap unfinished (sym (record-stays s t m p z))),
      )
  carried (waiting-on w) = (
    [],
    ap (λ (k : ℕ). unfinished s ++ take k m.piece) (taken_is s t m p)
        ∙ sym (unfinished-is w.sound ∙ ap (λ (k : State). k.unfinished) w.state),
  )
  carried (judging e j) = (
    message_of s m,
    sym (append-nil (message_of s m)) ∙ ap (λ (u : List ℕ). message_of s m ++ u) (sym (unfinished-is j.sound ∙ ap (λ (k : State). k.unfinished) j.state)),
  )

  pub carries : Carried
  carries = carried (ways s t m p)

-- ---- all calls

later : (s : Session) (t : Store) (m : Made) (calls : List Called) (place : ℕ) → ReadPromise s t m → LastUpdate m.session m.store calls place
    → LastUpdate s t (reads m ∷ calls) place
unfolding last_session last_store
later s t m calls place p u =
    let c = carries s t m p in
    record {
      before = reads m ∷ u.before;
      call = u.call;
      after = u.after;
      among = ap (reads m ∷◌) u.among;
      table = u.table;
      id = u.id;
      how = u.how;
      answer = u.answer;
      last = u.last;
      since = u.since;
      message = u.message;
      placed = u.placed;
      earlier = c.0 ++ u.earlier;
      stood =
          ap (λ (l : List ℕ). unfinished s ++ l) (taken_in m calls)
          ∙ (sym (append_assoc (unfinished s) (take m.outcome.taken m.piece) (bytes_in (taken_by calls)))
          ∙ (ap (λ (l : List ℕ). l ++ bytes_in (taken_by calls)) c.1
          ∙ (append_assoc c.0 (unfinished m.session) (bytes_in (taken_by calls))
          ∙ (ap (λ (l : List ℕ). c.0 ++ l) u.stood ∙ sym (append_assoc c.0 u.earlier _)))));
    }

later-passed : (s : Session) (t : Store) (p : Passed) (calls : List Called) (place : ℕ) → LastUpdate s p.store calls place
    → LastUpdate s t (passes p ∷ calls) place
unfolding last_session last_store
later-passed s t p calls place u = record {
  before = passes p ∷ u.before;
  call = u.call;
  after = u.after;
  among = ap (passes p ∷◌) u.among;
  table = u.table;
  id = u.id;
  how = u.how;
  answer = u.answer;
  last = u.last;
  since = u.since;
  message = u.message;
  placed = u.placed;
  earlier = u.earlier;
  stood = ap (λ (l : List ℕ). unfinished s ++ l) (passed-in p calls) ∙ u.stood;
}

first : (s : Session) (t : Store) (m : Made) (calls : List Called) (place : ℕ) → ReadPromise s t m → NeverUpdated m.store calls place
    → NeverUpdated t (reads m ∷ calls) place ⊎ LastUpdate s t (reads m ∷ calls) place
unfolding last_session last_store NoneUpdates passing
first s t m calls place p n =
    ⊎_elim
    (λ c.
    let a = c.1.1.1 in
    inr
    (record {
      before = [];
      call = m;
      after = calls;
      among = refl;
      table = c.0;
      id = c.1.0;
      how = c.1.1.0;
      answer = a;
      last = n.none;
      since = n.since;
      message = bytes-of-update s t m c.0 c.1.0 place c.1.1.0 p a;
      placed = place-of-update s t m c.0 c.1.0 place c.1.1.0 p a;
      earlier = [];
      stood =
          ap (λ (l : List ℕ). unfinished s ++ l) (taken_in m calls)
          ∙ sym (append_assoc (unfinished s) (take m.outcome.taken m.piece) (bytes_in (taken_by calls)));
    }))
    (λ k.
    inl
    (record {
      none = (k.0, n.none);
      since = subst (λ (x : Entry). Since (passing calls) x (last_entry m.store calls place)) k.1 n.since;
    }))
    (one-call s t m p place)

first-passed : (t : Store) (p : Passed) (calls : List Called) (place : ℕ) → PassPromise t p → NeverUpdated p.store calls place
    → NeverUpdated t (passes p ∷ calls) place
unfolding last_store NoneUpdates passing
first-passed t p calls place promise n =
    record { none = n.none; since = passed-since t p place (passing calls) (last_entry p.store calls place) promise n.since }

pub bytes-of-every-entry : BytesOfEveryEntry
unfolding Chain
bytes-of-every-entry s t [] place c = inl (unfold last_store NoneUpdates passing NonePasses in record { none = tt; since = same (inr tt) })
bytes-of-every-entry s t (reads m ∷ calls) place c =
    ⊎_elim (λ n. first s t m calls place c.0 n) (λ u. inr (later s t m calls place c.0 u))
    (bytes-of-every-entry m.session m.store calls place c.1)
bytes-of-every-entry s t (passes p ∷ calls) place c =
    ⊎_elim (λ n. inl (first-passed t p calls place c.0 n)) (λ u. inr (later-passed s t p calls place u))
    (bytes-of-every-entry s p.store calls place c.1)
