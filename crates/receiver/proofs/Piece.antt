-- Taking a piece in one go is what the byte model does byte by byte.
use Prim.Native.Nat.{ℕ, suc}
use native.Mathlib.Omega.{arith}
use mathlib.Core.Path.{◌≡◌, refl, sym, ap, ◌∙◌}
use mathlib.Core.List.{List, [], ◌∷◌, ◌++◌}
use mathlib.Core.Bool.{Bool, true, false, cond}
use lib.Dec.{eqb}
use Rattle.lists.proofs.Cases.{by-test, cond-true, cond-false}
use Rattle.store.specs.declared.Table.{Table}
use Rattle.store.specs.declared.Entry.{Entry}
use Rattle.store.specs.declared.Store.{Store}
use Rattle.handshake.specs.declared.Hello.{Hello}
use Rattle.handshake.specs.declared.Hello.TheVariants as hello
use Rattle.handshake.specs.declared.Status.{Status}
use Rattle.handshake.specs.declared.Status.TheVariants as status
use Rattle.handshake.specs.Handshake.{judge_hello, judge_status}
use Rattle.frame.specs.declared.Frame.{Frame}
use Rattle.frame.specs.declared.Frame.TheVariants as frame
use Rattle.frame.specs.Frame.{judge_frame}
use Rattle.session.specs.declared.Connection.{Connection}
use Rattle.session.specs.declared.Session.{Session}
use Rattle.session.specs.Session.{is_closed, local_name, remote_name}
use Rattle.session_soundness.specs.Sound.{waits, hello_waits, status_waits, frame_waits}
use Rattle.message.specs.Changes.{changed}
use Rattle.message.specs.declared.Effect.{Effect}
use Rattle.streams.specs.Model.{quiet, answered}
use Rattle.streams.specs.Calls.{scan, onward}
use Rattle.streams.proofs.OneCall.{scan-nil, scan-quiet, scan-answered}
use Rattle.reassembly.specs.Judge.{Judged, waiting, settled, judge, judge_bytes, done_of, asks_none, hello_judged, status_judged, frame_judged}
use Rattle.receiver.specs.Model.{State, joined, feed, peers}
use Rattle.reassembly.specs.Pieces.{Part, one_more, take_piece}
use Rattle.receiver.specs.Parts.{judged_call, part_call}

-- bytes that wait come to nothing, and others to something
pub data JudgedAs {A : Type 0} : Bool → Judged A → Type 0 where
  waits-on : JudgedAs true waiting
  settles : (e : A) → JudgedAs false (settled e)

module _ (c : Connection) (entries : List Entry) where
  none-as : (b : Bool) (j : Judged Effect) → JudgedAs b j → JudgedAs b (done_of c entries (asks_none j))
  unfolding done_of asks_none
  none-as b j waits-on = waits-on
  none-as b j (settles e) = settles _

  hello-as : (h : Hello) → JudgedAs (hello_waits h) (hello_judged c h)
  unfolding hello_judged
  hello-as hello.Waiting = waits-on
  hello-as (hello.Accepted p r) = settles _
  hello-as (hello.Refused n) = settles _

  status-as : (h : Status) → JudgedAs (status_waits h) (status_judged c h)
  unfolding status_judged
  status-as status.Waiting = waits-on
  status-as status.Accepted = settles _
  status-as (status.Refused n) = settles _

  frame-as : (tables : List Table) (u : List ℕ) (f : Frame) → JudgedAs (frame_waits f) (done_of c entries (frame_judged c tables u f))
  unfolding done_of frame_judged
  frame-as tables u frame.Waiting = waits-on
  frame-as tables u (frame.Control type) = settles _
  frame-as tables u (frame.Error type) = settles _
  frame-as tables u (frame.Body kind start end) = settles _
  frame-as tables u (frame.Refused n) = settles _

pub judged-as : (c : Connection) (s : Store) (u : List ℕ) → JudgedAs (waits c u) (judge c s u)
unfolding waits judge judge_bytes
judged-as c s u =
    by-test (eqb c.phase 0)
    (λ a. rw a (none-as c s.entries _ _ (hello-as c s.entries (judge_hello (local_name c) (remote_name c) u))))
    (λ a.
    rw a
    (by-test (eqb c.phase 1)
    (λ b. rw b (none-as c s.entries _ _ (status-as c s.entries (judge_status u))))
    (λ b. rw b (frame-as c s.entries s.tables u (judge_frame u)))))

pub judged-waiting : (t : Bool) (j : Judged Effect) → JudgedAs t j → t ≡ true → j ≡ waiting
judged-waiting t j waits-on h = refl
judged-waiting t j (settles e) h = absurd (let z : ◌≡◌ {A = ℕ} 0 1 = cc in omega arith)

pub judged-settled : (t : Bool) (j : Judged Effect) → JudgedAs t j → t ≡ false → (e : Effect) × (j ≡ settled e)
judged-settled t j waits-on h = absurd (let z : ◌≡◌ {A = ℕ} 0 1 = cc in omega arith)
judged-settled t j (settles e) h = (e, refl)

-- ---- one byte on an open session

abbrev state_at : Connection → List ℕ → Store → State
state_at c u s = record { connection = c; unfinished = u; store = s }

pub feed-open : (c : Connection) (u : List ℕ) (s : Store) (b : ℕ) → is_closed c ≡ false
    → feed (state_at c u s) b ≡ joined c s (u ++ (b ∷ [])) (judge c s (u ++ (b ∷ [])))
unfolding feed
feed-open c u s b h = cond-false (is_closed c) _ _ h

pub feed-waits : (c : Connection) (u : List ℕ) (s : Store) (b : ℕ) → is_closed c ≡ false → waits c (u ++ (b ∷ [])) ≡ true
    → feed (state_at c u s) b ≡ quiet (state_at c (u ++ (b ∷ [])) s)
feed-waits c u s b h w =
    feed-open c u s b h
    ∙ ap (joined c s (u ++ (b ∷ []))) (judged-waiting (waits c (u ++ (b ∷ []))) (judge c s (u ++ (b ∷ []))) (judged-as c s (u ++ (b ∷ []))) w)
    ∙ unfold joined in refl

-- ---- a piece

pub scan-takes : (c : Connection) (u : List ℕ) (s : Store) (piece : List ℕ) → is_closed c ≡ false
    → scan peers (state_at c u s) piece ≡ part_call c s (take_piece c u piece)
unfolding take_piece
scan-takes c u s [] h = scan-nil peers (state_at c u s) ∙ unfold part_call judged_call in refl
scan-takes c u s (b ∷ bs) h =
    let v = u ++ (b ∷ []) in
    by-test (waits c v)
    (λ w. rw w (scan-quiet peers (state_at c u s) (state_at c v s) b bs (feed-waits c u s b h w) ∙ (ap onward (scan-takes c v s bs h) ∙ more-call c s (take_piece c v bs))))
    (λ w.
    let j = judged-settled (waits c v) (judge c s v) (judged-as c s v) w in
    let e = j.0 in
    let f : feed (state_at c u s) b ≡ answered e.answer e.reply (state_at e.connection [] (changed s e.change)) =
    feed-open c u s b h ∙ (ap (joined c s v) j.1 ∙ unfold joined in refl) in
    rw w
    (scan-answered peers (state_at c u s) (state_at e.connection [] (changed s e.change)) b bs e.answer e.reply f
    ∙ sym (ap (judged_call c s v 1) j.1 ∙ unfold judged_call in refl) ∙ unfold part_call in refl))
  where
    more-judged : (c : Connection) (s : Store) (u : List ℕ) (n : ℕ) (j : Judged Effect) → onward (judged_call c s u n j) ≡ judged_call c s u (suc n) j
    more-judged c s u n waiting = unfold judged_call in refl
    more-judged c s u n (settled e) = unfold judged_call in refl

    more-call : (c : Connection) (s : Store) (a : Part) → onward (part_call c s a) ≡ part_call c s (one_more a)
    more-call c s a = unfold part_call in more-judged c s a.bytes a.taken (cond a.ended (judge c s a.bytes) waiting)

-- ---- the call of a part

module _ (s : Session) (t : Store) (a : Part) where
  pub waited-call : a.ended ≡ false → part_call s.connection t a ≡ judged_call s.connection t a.bytes a.taken waiting
  unfolding part_call
  waited-call e = ap (judged_call s.connection t a.bytes a.taken) (cond-false a.ended _ _ e)

  pub settled-call : (e : Effect) → a.ended ≡ true → judge s.connection t a.bytes ≡ settled e
      → part_call s.connection t a ≡ judged_call s.connection t a.bytes a.taken (settled e)
  unfolding part_call
  settled-call e h j = ap (judged_call s.connection t a.bytes a.taken) (cond-true a.ended _ _ h ∙ j)
