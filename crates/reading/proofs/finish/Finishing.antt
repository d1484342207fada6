-- The end of a reading call: which way it ends, and the change of the store as it is written in place.
use Rattle.std.specs.Prelude.{Option, None, Some, is_some}
use Prim.Native.Nat.{ℕ, ◌≤◌, ◌<◌}
use native.Mathlib.Omega.{arith}
use mathlib.Core.Path.{◌≡◌, refl, sym, ap, subst, ◌∙◌}
use mathlib.Core.Bool.{Bool, true, false, cond, ◌&&◌}
use mathlib.Core.List.{List}
use lib.ListN.{length, set}
use lib.Dec.{eqb, ltb}
use borrow.Author.Tests.{eqb-true, eqb-false, ltb-true, ltb-false}
use Rattle.lists.specs.Lists.{all_of, every, distinct}
use Rattle.lists.proofs.Cases.{by-test, and_second, and-true, and-false, cond-true, cond-false}
use lib.Seq.{set_out}
use Rattle.store.specs.declared.Table.{Table}
use Rattle.store.specs.declared.Entry.{Entry}
use Rattle.store.specs.declared.Store.{Store}
use Rattle.store.specs.declared.entries.Place.{Place}
use Rattle.store.specs.Shape.{StoreShape}
use Rattle.store.specs.Sound.{sound_table, sound_entry, same_name, same_key, counts_right, sound_store}
use Rattle.store.specs.Store.{counts_of, with_entries, put_table, put_entry}
use Rattle.store.proofs.Counting.{right-counts}
use Rattle.session.specs.declared.Connection.{Connection}
use Rattle.session.specs.declared.Session.{Session}
use Rattle.session.specs.declared.Answer.TheVariants as answer
use Rattle.session.specs.Session.{is_closed}
use Rattle.session_soundness.specs.Sound.{sound_session, sound}
use Rattle.message.specs.declared.Change.{Change}
use Rattle.message.specs.declared.Change.TheVariants as change
use Rattle.message.specs.Changes.{changed, no_change}
use Rattle.message.specs.Effects.{Effect, Asks, done}
use Rattle.message.specs.Structs.{sought, finished}
use Rattle.reassembly.specs.Judge.{Judged, waiting as still, settled, judge_bytes, asks_of, effect_of, done_of, judge}
use Rattle.message.proofs.commit.Targets.{finished-done}
use Rattle.reading.specs.declared.results.StepChange.{StepChange}
use Rattle.reading.specs.Results.{stays, waits, gives, replied}
use Rattle.reading.specs.Counts.{answered_counts}
use Rattle.reading.proofs.counts.Answered.{judged-counts}
use Rattle.receiver.specs.Promise.{Made, Shaped, ReadPromise}
use Rattle.reading.proofs.finish.Promising.{short-promise, unsound-promise, closed-promise, open-promise}
use Rattle.reading.proofs.finish.Receiving.{stays_step, stays-room, waits-step, waits-room, answers-step, answers-room}
use Rattle.store_scan.specs.Scan.{Scans}
use Rattle.reading.specs.declared.start.Started.{Started}
use Rattle.reading.specs.Start.{Starts}
use Rattle.reading.specs.declared.finish.Finished.{Finished}
use Rattle.reading.specs.Finish.{End, staying, waiting, answering, end_of, end_at, end_step, end_room, finished_as}

-- ---- soundness in two parts: tables and record, then entries

parted : (a b c d f e : Bool) → ((a && (b && (c && (d && (f && true))))) && e) ≡ (((a && b) && e) && (c && (d && f)))
parted false b c d f e = refl
parted true false c d f e = refl
parted true true false d f true = refl
parted true true false d f false = refl
parted true true true false f true = refl
parted true true true false f false = refl
parted true true true true false true = refl
parted true true true true false false = refl
parted true true true true true true = refl
parted true true true true true false = refl

-- ---- each way to end

module _ (s : Session) (x : Started) (y : (Option Place)) (room : List ℕ) where
  abbrev Ended : StepChange → List ℕ → Type 0
  Ended r final = (r ≡ end_step s x.part (end_of s x y (length room))) × (final ≡ end_room room (end_of s x y (length room)))

  -- sound, open, and the room is large enough
  pub record Reads : Type 0 where
    pub roomy : 12 ≤ length room
    pub sound : (x.sound && is_some y) ≡ true
    pub opened : is_closed s.connection ≡ false

  -- which way it is, and why
  pub data EndAs : End → Type 0 where
    short : length room < 12 → EndAs (staying (answer.Refused 1))
    unsound : 12 ≤ length room → (x.sound && is_some y) ≡ false → EndAs (staying (answer.Refused 4))
    closed : 12 ≤ length room → (x.sound && is_some y) ≡ true → is_closed s.connection ≡ true → EndAs (staying (answer.Refused 2))
    empty : Reads → x.part.taken ≡ 0 → EndAs (staying answer.More)
    waits-on : Reads → (x.part.taken ≡ 0 → ⊥) → x.part.ended ≡ false → EndAs waiting
    answers-now : Reads → (x.part.taken ≡ 0 → ⊥) → x.part.ended ≡ true → (place : Place) → y ≡ Some place → EndAs (answering (finished s.connection place x.asked))

  choose : (b : Bool) (u v : End) → (b ≡ true → EndAs u) → (b ≡ false → EndAs v) → EndAs (cond b u v)
  choose b u v f g =
      by-test b (λ h. subst EndAs (sym (cond-true b u v h)) (f h)) (λ h. subst EndAs (sym (cond-false b u v h)) (g h))

  ends-at : 12 ≤ length room → x.sound ≡ true → (o : (Option Place)) → y ≡ o → EndAs (end_at s x o)
  unfolding end_at
  ends-at l t None e = unsound l (and-true x.sound (is_some y) t ∙ ap is_some e)
  ends-at l t (Some place) e =
      let f = and-true x.sound (is_some y) t ∙ ap is_some e in
      choose (is_closed s.connection) _ _
      (λ c. closed l f c)
      (λ c.
      let k : Reads = record { roomy = l; sound = f; opened = c } in
      choose (eqb x.part.taken 0) _ _
      (λ z. empty k (eqb-true x.part.taken 0 z))
      (λ z.
      let n = eqb-false x.part.taken 0 z in
      choose x.part.ended _ _ (λ h. answers-now k n h place e) (waits-on k n)))

  pub end-as : EndAs (end_of s x y (length room))
  unfolding end_of
  end-as =
      choose (ltb (length room) 12) _ _
      (λ h. short (ltb-true (length room) 12 h))
      (λ h.
      let l = ltb-false (length room) 12 h in
      choose x.sound _ _ (λ t. ends-at l t y refl) (λ f. unsound l (and-false x.sound (is_some y) f)))

-- what was asked, done, is what the bytes come to
done-effect : (c : Connection) (entries : List Entry) (j : Judged Asks) → done c entries (asks_of c j) ≡ effect_of c (done_of c entries j)
unfolding done asks_of effect_of done_of
done-effect c entries still = refl
done-effect c entries (settled a) = refl

-- ---- on a store and a piece of which start and scan said this, the promise of `read` is kept

module _ (s : Session) (x : Started) (y : (Option Place)) (room : List ℕ) (t : Store) (piece : List ℕ) (shape : StoreShape t) (st : Starts s t.tables piece x)
    (sc : Scans (record { tables = t.tables; entry = sought x.asked }) t y) where
  abbrev made : StepChange → List ℕ → Made
  made r final =
      record { piece = piece; room = room; outcome = r.outcome; session = r.session; store = changed t r.change; final = final }

  shaped : Shaped s t
  shaped = record { session = st.session; store = shape }

  is-sound : sound s t ≡ (x.sound && is_some y)
  unfolding sound sound_store all_of
  is-sound =
      parted (every sound_table t.tables) (distinct same_name t.tables) (every (sound_entry t.tables) t.entries) (distinct same_key t.entries) (counts_right t)
      (sound_session t.tables s)
      ∙ ap (λ (b : Bool). b && (every (sound_entry t.tables) t.entries && (distinct same_key t.entries && counts_right t))) (sym st.sound)
      ∙ ap (λ (b : Bool). x.sound && b) (sym sc.sound)

  are-right : is_some y ≡ true → t.counts ≡ counts_of t.entries
  are-right g =
      right-counts t
      (and_second (distinct same_key t.entries) (counts_right t)
      (and_second (every (sound_entry t.tables) t.entries) (distinct same_key t.entries && counts_right t) (sym sc.sound ∙ g)))

  -- what is asked, done at the place that the scan told
  did : (place : Place) → y ≡ Some place → finished s.connection place x.asked ≡ effect_of s.connection (judge s.connection t x.part.bytes)
  unfolding judge
  did place g =
      ap (λ (p : Place). finished s.connection p x.asked) (sc.place place g)
      ∙ (finished-done s.connection t.entries x.asked
      ∙ (ap (done s.connection t.entries) st.asks ∙ done-effect s.connection t.entries (judge_bytes s.connection t.tables x.part.bytes)))

  -- the counts after each way to end are those of the store that it leaves
  counts-as : (w : End) → EndAs s x y room w → answered_counts (end_step s x.part w).outcome.answer t.counts ≡ (changed t (end_step s x.part w).change).counts
  unfolding end_step stays waits gives answered_counts changed no_change
  counts-as w (short l) = refl
  counts-as w (unsound l f) = refl
  counts-as w (closed l f c) = refl
  counts-as w (empty k z) = refl
  counts-as w (waits-on k n z) = refl
  counts-as w (answers-now k n z place g) =
      subst (λ (e : Effect). answered_counts e.answer t.counts ≡ (changed t e.change).counts) (sym (did place g))
      (judged-counts t shape.entries (are-right (ap is_some g)) s.connection x.part.bytes)

  pub counts-kept : answered_counts (end_step s x.part (end_of s x y (length room))).outcome.answer t.counts
      ≡ (changed t (end_step s x.part (end_of s x y (length room))).change).counts
  counts-kept = counts-as (end_of s x y (length room)) (end-as s x y room)

  same-room : (r : StepChange) (final : List ℕ) → final ≡ room → ReadPromise s t (made r room) → ReadPromise s t (made r final)
  same-room r final e h = subst (λ (l : List ℕ). ReadPromise s t (made r l)) (sym e) h

  kept-as : (w : End) → EndAs s x y room w → (r : StepChange) (final : List ℕ) → r ≡ end_step s x.part w → final ≡ end_room room w
      → ReadPromise s t (made r final)
  unfolding end_step end_room
  kept-as w (short l) r final e q = same-room r final q (short-promise s t piece room shaped st.bytes r l e)
  kept-as w (unsound l f) r final e q = same-room r final q (unsound-promise s t piece room shaped st.bytes l r (sym (is-sound ∙ f)) e)
  kept-as w (closed l f c) r final e q = same-room r final q (closed-promise s t piece room shaped st.bytes l (sym (is-sound ∙ f)) r c e)
  kept-as w (empty k z) r final e q =
      let p = is-sound ∙ k.sound in
      same-room r final q
      (open-promise s t piece room shaped st.bytes k.roomy (sym p) r room k.opened
      (stays_step s t piece x.part st.taken p k.opened shaped st.bytes r z e)
      (stays-room s t piece x.part st.taken p k.opened shaped st.bytes room z))
  kept-as w (waits-on k n z) r final e q =
      let p = is-sound ∙ k.sound in
      same-room r final q
      (open-promise s t piece room shaped st.bytes k.roomy (sym p) r room k.opened
      (waits-step s t piece x.part st.taken p k.opened shaped st.bytes n r z e)
      (waits-room s t piece x.part st.taken p k.opened shaped st.bytes n room z))
  kept-as w (answers-now k n z place g) r final e q =
      let p = is-sound ∙ k.sound in
      let d = did place g in
      open-promise s t piece room shaped st.bytes k.roomy (sym p) r final k.opened
      (answers-step s t piece x.part st.taken p k.opened shaped st.bytes n z r (e ∙ ap (gives s.sending x.part.taken) d))
      (answers-room s t piece x.part st.taken p k.opened shaped st.bytes n z room final k.roomy (q ∙ ap (λ (m : Effect). replied m.reply room) d))

  kept : (r : StepChange) (final : List ℕ) → Ended s x y room r final → ReadPromise s t (made r final)
  kept r final e = kept-as (end_of s x y (length room)) (end-as s x y room) r final e.0 e.1

-- ---- the store as the call writes it in place: the counts, and a table or an entry where its place is one

abbrev pub with_counts : Store → List ℕ → Store
with_counts t counts = record { tables = t.tables; counts = counts; entries = t.entries }

abbrev pub with_entry : Store → ℕ → Entry → Store
with_entry t i e = record { tables = t.tables; counts = t.counts; entries = set t.entries i e }

abbrev pub with_table : Store → ℕ → Table → Store
with_table t i u = record { tables = set t.tables i u; counts = t.counts; entries = t.entries }

abbrev pub written : Store → Change → Store
written t change.Nothing = t
written t (change.Table i u) = with_table t i u
written t (change.Entry i e) = with_entry t i e

-- past the last place nothing is put
module _ (t : Store) (shape : StoreShape t) (cs : List ℕ) where
  pub table-past : (i : ℕ) (u : Table) → 8 ≤ i → with_counts t cs ≡ with_table (with_counts t cs) i u
  table-past i u h = rw (set_out t.tables i u (omega (arith, h, shape.tables)))

  pub entry_past : (i : ℕ) (e : Entry) → 128 ≤ i → with_counts t cs ≡ with_entry (with_counts t cs) i e
  entry_past i e h = rw (set_out t.entries i e (omega (arith, h, shape.entries)))

written-change : (t : Store) (c : Change) (cs : List ℕ) → cs ≡ (changed t c).counts → written (with_counts t cs) c ≡ changed t c
unfolding changed put_table put_entry with_entries
written-change t change.Nothing cs e = rw e
written-change t (change.Table i u) cs e = rw e
written-change t (change.Entry i x) cs e = rw e

-- ---- what the three parts of the reading call ensure gives its promise

pub finished-so : (m : StepChange) (cs rs : List ℕ) → rs ≡ answered_counts m.outcome.answer cs
    → ◌≡◌ {A = Finished} (record { outcome = m.outcome; session = m.session; counts = rs; change = m.change }) (finished_as cs m)
unfolding finished_as
finished-so m cs rs o = rw o

pub promised : (s : Session) (t : Store) (piece : List ℕ) (x : Started) (y : (Option Place)) (room : List ℕ) (r : Finished) (h : Store) (final : List ℕ)
    → h ≡ written (with_counts t r.counts) r.change → StoreShape t → Starts s t.tables piece x → Scans (record { tables = t.tables; entry = sought x.asked }) t y
    → (r ≡ finished_as t.counts (end_step s x.part (end_of s x y (length room)))) × (final ≡ end_room room (end_of s x y (length room)))
    → ReadPromise s t (record { piece = piece; room = room; outcome = r.outcome; session = r.session; store = h; final = final })
unfolding finished_as
promised s t piece x y room r h final he shape st sc f =
    let m = end_step s x.part (end_of s x y (length room)) in
    subst (λ (k : Finished). ReadPromise s t (record { piece = piece; room = room; outcome = k.outcome; session = k.session; store = h; final = final }))
    (sym f.0)
    (subst (λ (u : Store). ReadPromise s t (record { piece = piece; room = room; outcome = m.outcome; session = m.session; store = u; final = final }))
    (sym
    (he
    ∙ (ap (λ (k : Finished). written (with_counts t k.counts) k.change) f.0
    ∙ written-change t m.change (answered_counts m.outcome.answer t.counts) (counts-kept s x y room t piece shape st sc))))
    (kept s x y room t piece shape st sc m final (refl, f.1)))
