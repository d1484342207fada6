-- The byte model meets the laws that are asked of a receiver.
use Prim.Native.Nat.{ℕ, zero, suc, ◌^◌, ◌≤◌, ◌<◌}
use native.Mathlib.Omega.{arith}
use mathlib.Core.Path.{◌≡◌, refl, sym, ap, subst, ◌∙◌}
use mathlib.Core.List.{List, [], ◌∷◌, ◌++◌}
use mathlib.Core.Bool.{true, false}
use lib.ListN.{length, get_or}
use lib.Dec.{lit<}
use borrow.Author.Tests.{ltb-true}
use Rattle.lists.proofs.Cases.{by-test, cond-true}
use Rattle.wire.specs.Value.{Bytes}
use Rattle.store.specs.declared.Store.{Store}
use Rattle.store.proofs.Facts.{SoundStore, sound-facts, facts-sound}
use Rattle.session.specs.declared.Connection.{Connection}
use Rattle.session.specs.declared.Sending.{Sending}
use Rattle.session.specs.declared.Session.{Session}
use Rattle.session.specs.declared.Answer.{Answer}
use Rattle.session.specs.declared.Answer.TheVariants as answer
use Rattle.session.specs.Session.{is_closed, holding, unfinished, nothing_sent}
use Rattle.session_soundness.specs.Sound.{waits, sending_ok, sound}
use Rattle.session_soundness.proofs.Facts.{SoundConnection}
use Rattle.session_soundness.proofs.Keeping.{sending-keeps}
use Rattle.session_soundness.proofs.Records.{sound-store, sound-session, sound-both, nothing-sent-ok, holding-sound, empty-sound, open-facts}
use Rattle.message.specs.Changes.{changed}
use Rattle.message.specs.declared.Effect.{Effect}
use Rattle.message.proofs.Kept.{Held, Kept}
use Rattle.streams.specs.Model.{Fed, quiet, answered, state_of, ended_by}
use Rattle.streams.specs.Claim.{Lawful}
use Rattle.streams.specs.Fold.{Folds}
use Rattle.reassembly.specs.Judge.{Judged, waiting, settled, judge}
use Rattle.receiver.specs.Model.{ends_refused, State, joined, feed, pass, ends, sound_state, held_by, is_byte, peers}
use Rattle.receiver.specs.Good.{Good}
use Rattle.receiver.specs.Ledger.{Ledger, start_ledger, post, Acknowledged}
use Rattle.receiver.proofs.Piece.{judged-as, judged-settled, feed-open, feed-waits}
use Rattle.receiver.proofs.Following.{Follows, starts-following}
use Rattle.receiver.proofs.OnePass.{sound-passes, pass-closed, pass-good}
use Rattle.receiver.proofs.SettledLaws.{settled-ends, settled-grows}
use Rattle.receiver.proofs.Laws.{Right, JudgedRight, judge-right}

-- ---- what a good open state holds

module _ (s : State) (g : Good s) (o : is_closed s.connection ≡ false) where
  abbrev record_of : Session
  record_of = holding nothing_sent s.connection s.unfinished

  pub open-held : Held s.connection s.store
  unfolding sound_state holding
  open-held = record {
    store = sound-facts s.store (sound-store record_of s.store g.sound);
    store_shape = g.store;
    connection = (open-facts s.store.tables record_of o (sound-session record_of s.store g.sound)).connection;
    connection_shape = g.connection;
  }

-- ---- a state of a sound record and store

-- with the sending state beside it, the record that holds it
abbrev pub SoundWith : Sending → State → Type 0
SoundWith x s = sound (holding x s.connection s.unfinished) s.store ≡ true

module _ (x : Sending) (c : Connection) (t : Store) (k : sending_ok t.tables x ≡ true) (st : SoundStore t) (sc : SoundConnection t.tables c) where
  -- with unfinished bytes that wait, or with none
  waiting-with : (u : List ℕ) → is_closed c ≡ false → waits c u ≡ true → SoundWith x (record { connection = c; unfinished = u; store = t })
  waiting-with u o w = sound-both (holding x c u) t (facts-sound t st) (holding-sound sc x k u o w)

  settled-with : SoundWith x (record { connection = c; unfinished = []; store = t })
  settled-with = sound-both (holding x c []) t (facts-sound t st) (empty-sound sc x k)

waiting-sound : (c : Connection) (u : List ℕ) (t : Store) → SoundStore t → SoundConnection t.tables c → is_closed c ≡ false → waits c u ≡ true
    → sound_state (record { connection = c; unfinished = u; store = t }) ≡ true
unfolding sound_state
waiting-sound c u t st sc o w = waiting-with nothing_sent c t (nothing-sent-ok t.tables) st sc u o w

settled-sound : (c : Connection) (t : Store) → SoundStore t → SoundConnection t.tables c → sound_state (record { connection = c; unfinished = []; store = t }) ≡ true
unfolding sound_state
settled-sound c t st sc = settled-with nothing_sent c t (nothing-sent-ok t.tables) st sc

-- after an answer no byte is unfinished
settled-good : (t : Store) (e : Effect) → Kept t e → Good (record { connection = e.connection; unfinished = []; store = changed t e.change })
settled-good t e k = record {
  sound = settled-sound e.connection (changed t e.change) k.store k.connection;
  connection = k.connection_shape;
  unfinished = λ i. lit< tt;
  store = k.store_shape;
}

-- ---- one byte

snoc-small : (u : List ℕ) (b : ℕ) → ((i : ℕ) → get_or u i 0 < 2 ^ 8) → b < 2 ^ 8 → (i : ℕ) → get_or (u ++ (b ∷ [])) i 0 < 2 ^ 8
snoc-small [] b h l zero = l
snoc-small [] b h l (suc i) = lit< tt
snoc-small (x ∷ u) b h l zero = h zero
snoc-small (x ∷ u) b h l (suc i) = snoc-small u b (λ j. h (suc j)) l i

-- what a byte on a good open state comes to
pub data Came (s : State) (b : ℕ) : Fed State Answer → Type 0 where
  waited : waits s.connection (s.unfinished ++ (b ∷ [])) ≡ true
      → Came s b (quiet (record { connection = s.connection; unfinished = s.unfinished ++ (b ∷ []); store = s.store }))
  answers : (e : Effect) → judge s.connection s.store (s.unfinished ++ (b ∷ [])) ≡ settled e → Right s.connection s.store (s.unfinished ++ (b ∷ [])) e
      → Came s b (answered e.answer e.reply (record { connection = e.connection; unfinished = []; store = changed s.store e.change }))

module _ (s : State) (b : ℕ) (g : Good s) (o : is_closed s.connection ≡ false) (l : is_byte b ≡ true) where
  abbrev now : List ℕ
  now = s.unfinished ++ (b ∷ [])

  byte_small : b < 2 ^ 8
  byte_small = ltb-true b 256 l

  now-bytes : Bytes now
  now-bytes = record { byte = snoc-small s.unfinished b g.unfinished byte_small }

  pub came : Came s b (feed s b)
  came =
      by-test (waits s.connection now)
      (λ w. subst (Came s b) (sym (feed-waits s.connection s.unfinished s.store b o w)) (waited w))
      (λ w.
      let j = judged-settled (waits s.connection now) (judge s.connection s.store now) (judged-as s.connection s.store now) w in
      let r : Right s.connection s.store now j.0 = subst (JudgedRight s.connection s.store now) j.1 (judge-right s.connection s.store (open-held s g o) now now-bytes) in
      subst (Came s b)
      (sym (feed-open s.connection s.unfinished s.store b o ∙ (ap (joined s.connection s.store now) j.1 ∙ settled-fed s.connection s.store now j.0)))
      (answers j.0 j.1 r))
    where
      settled-fed : (c : Connection) (t : Store) (u : List ℕ) (e : Effect)
          → joined c t u (settled e) ≡ answered e.answer e.reply (record { connection = e.connection; unfinished = []; store = changed t e.change })
      settled-fed c t u e = unfold joined in refl

  came-good : (f : Fed State Answer) → Came s b f → Good (state_of f)
  came-good f (waited w) =
      let h = open-held s g o in
      record {
        sound = waiting-sound s.connection now s.store h.store h.connection o w;
        connection = g.connection;
        unfinished = now-bytes.byte;
        store = g.store;
      }
  came-good f (answers e q r) = settled-good s.store e r.kept

  pub open-good : Good (state_of (feed s b))
  open-good = came-good (feed s b) came

  -- the sending state stays allowed: a table that is held stays held
  module _ (x : Sending) (f : SoundWith x s) where
    known-ok : sending_ok s.store.tables x ≡ true
    unfolding holding
    known-ok = (open-facts s.store.tables (holding x s.connection s.unfinished) o (sound-session (holding x s.connection s.unfinished) s.store f)).sending

    came-with : (k : Fed State Answer) → Came s b k → SoundWith x (state_of k)
    came-with k (waited w) = let h = open-held s g o in waiting-with x s.connection s.store known-ok h.store h.connection now o w
    came-with k (answers e q r) =
        settled-with x e.connection (changed s.store e.change)
        (sending-keeps s.store.tables (changed s.store e.change).tables x (settled-grows s.connection s.store now e q) known-ok)
        r.kept.store r.kept.connection

    pub open-with : SoundWith x (state_of (feed s b))
    open-with = came-with (feed s b) came

feed-closed : (s : State) (b : ℕ) → is_closed s.connection ≡ true → feed s b ≡ quiet s
unfolding feed
feed-closed s b h = cond-true (is_closed s.connection) _ _ h

good-feed : (s : State) (b : ℕ) → Good s → is_byte b ≡ true → Good (state_of (feed s b))
good-feed s b g l =
    by-test (is_closed s.connection)
    (λ k. rw (feed-closed s b k) g)
    (λ k. open-good s b g k l)

-- ---- every answer ends

abbrev AnswerEnds : Fed State Answer → Type 0
AnswerEnds (quiet t) = Unit {0}
AnswerEnds (answered a r t) = ends a ≡ true

joined-ends : (c : Connection) (t : Store) (u : List ℕ) (j : Judged Effect) → judge c t u ≡ j → AnswerEnds (joined c t u j)
unfolding joined
joined-ends c t u waiting e = tt
joined-ends c t u (settled x) e = settled-ends c t u x e

feed-ends : (s : State) (b : ℕ) → AnswerEnds (feed s b)
feed-ends s b =
    by-test (is_closed s.connection)
    (λ k. rw (feed-closed s b k) tt)
    (λ k.
    let u = s.unfinished ++ (b ∷ []) in
    rw (feed-open s.connection s.unfinished s.store b k)
    (joined-ends s.connection s.store u (judge s.connection s.store u) refl))

-- ---- without an answer an open session stays open

abbrev QuietOpen : Fed State Answer → Type 0
QuietOpen (quiet t) = is_closed t.connection ≡ false
QuietOpen (answered a r t) = Unit {0}

joined-open : (c : Connection) (t : Store) (u : List ℕ) (j : Judged Effect) → is_closed c ≡ false → QuietOpen (joined c t u j)
unfolding joined
joined-open c t u waiting o = o
joined-open c t u (settled x) o = tt

feed-open-stays : (s : State) (b : ℕ) (t : State) → is_closed s.connection ≡ false → feed s b ≡ quiet t → is_closed t.connection ≡ false
feed-open-stays s b t o e =
    let u = s.unfinished ++ (b ∷ []) in
    subst QuietOpen (sym (feed-open s.connection s.unfinished s.store b o) ∙ e)
    (joined-open s.connection s.store u (judge s.connection s.store u) o)

pub lawful : Lawful peers Good
lawful = record {
  more-not-end = unfold ends ends_refused in refl;
  refusals-not-end = refusals;
  answers-end = λ s b a r t e. subst AnswerEnds e (feed-ends s b);
  closed-ignores = feed-closed;
  quiet-open = feed-open-stays;
  act-closed = pass-closed;
  good-sound = λ s g. g.sound;
  good-feed = good-feed;
  good-act = pass-good;
}
  where
    refusals : (ends (answer.Refused 1) ≡ false) × (ends (answer.Refused 2) ≡ false) × (ends (answer.Refused 4) ≡ false)
    refusals = (unfold ends ends_refused in refl, unfold ends ends_refused in refl, unfold ends ends_refused in refl)

-- ---- the same with the sending state

pub record GoodWith (x : Sending) (s : State) : Type 0 where
  pub good : Good s
  pub known : SoundWith x s

feed-with : (x : Sending) (s : State) (b : ℕ) → GoodWith x s → is_byte b ≡ true → GoodWith x (state_of (feed s b))
feed-with x s b g l = record {
  good = good-feed s b g.good l;
  known =
      by-test (is_closed s.connection)
      (λ k. rw (feed-closed s b k) g.known)
      (λ k. open-with s b g.good k l x g.known);
}

pass-with : (x : Sending) (e : ℕ) (s : State) → GoodWith x s → GoodWith x (pass e s)
unfolding pass
pass-with x e s g = record { good = pass-good e s g.good; known = sound-passes e (holding x s.connection s.unfinished) s.store g.known }

pub lawful-with : (x : Sending) → Lawful peers (GoodWith x)
lawful-with x = record {
  more-not-end = lawful.more-not-end;
  refusals-not-end = lawful.refusals-not-end;
  answers-end = lawful.answers-end;
  closed-ignores = lawful.closed-ignores;
  quiet-open = lawful.quiet-open;
  act-closed = lawful.act-closed;
  good-sound = λ s g. g.good.sound;
  good-feed = feed-with x;
  good-act = pass-with x;
}

-- ---- every reply is short

came-short : (s : State) (b : ℕ) (f : Fed State Answer) → Came s b f → (a : Answer) (r : List ℕ) (t : State) → f ≡ answered a r t → length r ≤ 12
came-short s b f (waited w) a r t e = absurd (let z : ◌≡◌ {A = ℕ} 0 1 = cc in omega arith)
came-short s b f (answers x q y) a r t e = let q : x.reply ≡ r = cc in rw (← q) y.short

pub replies-short : (s : State) (b : ℕ) (a : Answer) (r : List ℕ) (t : State) → Good s → is_byte b ≡ true → feed s b ≡ answered a r t → length r ≤ 12
replies-short s b a r t g l e =
    by-test (is_closed s.connection)
    (λ k. absurd (let q = sym (feed-closed s b k) ∙ e in let z : ◌≡◌ {A = ℕ} 0 1 = cc in omega arith))
    (λ k. came-short s b (feed s b) (came s b g k l) a r t e)

-- ---- the ledger follows

-- on an open session the bytes since the last answer are the unfinished ones
pub record Along (s : State) (u : List ℕ) (l : Ledger) : Type 0 where
  pub follows : Follows s.connection l
  pub bytes : is_closed s.connection ≡ false → u ≡ s.unfinished

quiet-along : (s : State) (b : ℕ) (f : Fed State Answer) → Came s b f → (t : State) (u : List ℕ) (l : Ledger) → is_closed s.connection ≡ false
    → f ≡ quiet t → Along s u l → Along t (u ++ (b ∷ [])) l
quiet-along s b f (waited w) t u l k e i =
    let q : record { connection = s.connection; unfinished = s.unfinished ++ (b ∷ []); store = s.store } ≡ t = cc in
    rw (← q) (record { follows = i.follows; bytes = λ z. ap (λ (v : List ℕ). v ++ (b ∷ [])) (i.bytes k) })
quiet-along s b f (answers x q y) t u l k e i = absurd (let z : ◌≡◌ {A = ℕ} 0 1 = cc in omega arith)

answer-along : (s : State) (b : ℕ) (f : Fed State Answer) → Came s b f → (t : State) (u : List ℕ) (l : Ledger) (a : Answer) (r : List ℕ)
    → is_closed s.connection ≡ false → f ≡ answered a r t → Along s u l
    → Acknowledged l (post l (ended_by u b a r)) (ended_by u b a r) × Along t [] (post l (ended_by u b a r))
answer-along s b f (waited w) t u l a r k e i = absurd (let z : ◌≡◌ {A = ℕ} 0 1 = cc in omega arith)
answer-along s b f (answers x q y) t u l a r k e i =
    let qa : x.answer ≡ a = cc in
    let qr : x.reply ≡ r = cc in
    let qt : record { connection = x.connection; unfinished = []; store = changed s.store x.change } ≡ t = cc in
    let qu = i.bytes k in
    rw (← qa, ← qr, ← qt, qu)
    (y.follow.right l i.follows, record { follows = y.follow.follows l i.follows; bytes = λ z. refl })

pub folds : Folds post peers Good Acknowledged Along
folds = record {
  at-quiet = λ s t u l b g k y e i. quiet-along s b (feed s b) (came s b g k y) t u l k e i;
  at-answer = λ s t u l b a r g k y e i. answer-along s b (feed s b) (came s b g k y) t u l a r k e i;
  at-event = λ s u l e g k i. unfold pass in record { follows = i.follows; bytes = i.bytes };
}

pub along-start : (s : Session) (t : Store) → Along (held_by s t) (unfinished s) (start_ledger s.connection)
unfolding held_by
along-start s t = record { follows = starts-following s.connection; bytes = λ z. refl }
