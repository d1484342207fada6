-- The message that a call ended has no byte past its body: it is class 10, its type, the encoded body length and the body.
use Rattle.std.specs.Prelude.{Err, None, Ok, Option, Result, Some}
use Prim.Native.Nat.{ℕ, ◌+◌, ◌-◌, ◌≤◌}
use native.Mathlib.Omega.{arith}
use mathlib.Core.Path.{◌≡◌, refl, sym, ap, subst, ◌∙◌}
use mathlib.Core.Bool.{true, false, ◌&&◌}
use mathlib.Core.List.{List, [], ◌∷◌, ◌++◌}
use lib.ListN.{length, take, drop, get_or, length-append, length-drop}
use lib.Seq.{drop-cons, drop-append_seam, take_all}
use lib.Dec.{ltb, leb, eqb}
use borrow.Author.Tests.{lt-ltb, le-ltb, ltb-false, eqb-true, eq-eqb, ne_eqb}
use Rattle.lists.proofs.Cases.{by-test, never, lt-or-le, and_first, split}
use Rattle.frame.specs.declared.Header.{Header}
use Rattle.wire.specs.declared.IntError.{IntError}
use Rattle.wire.specs.declared.IntError.TheVariants as int
use Rattle.wire.specs.Integer.{encode_int, read_int}
use Rattle.wire.specs.Value.{Bytes}
use Rattle.wire.proofs.RoundTrip.{one-encoding}
use Rattle.store.specs.declared.Entry.{Entry}
use Rattle.store.specs.declared.Store.{Store}
use Rattle.handshake.specs.declared.Hello.{Hello}
use Rattle.handshake.specs.declared.Hello.TheVariants as hello
use Rattle.handshake.specs.declared.Status.{Status}
use Rattle.handshake.specs.declared.Status.TheVariants as status
use Rattle.handshake.specs.Handshake.{judge_hello, judge_status}
use Rattle.frame.specs.declared.Header.TheVariants as header
use Rattle.frame.specs.declared.Frame.{Frame}
use Rattle.frame.specs.declared.Frame.TheVariants as frame
use Rattle.frame.specs.Frame.{header_of, with_length, with_header, judge_frame}
use Rattle.frame.proofs.Behind.{whole-at-last}
use Rattle.session.specs.declared.Session.{Session}
use Rattle.session.specs.declared.Connection.{Connection}
use Rattle.session.specs.declared.Answer.{Answer}
use Rattle.session.specs.declared.Answer.TheVariants as answer
use Rattle.session.specs.Session.{unfinished, local_name, remote_name}
use Rattle.session_soundness.specs.Sound.{waits}
use Rattle.session_soundness.proofs.Records.{sound-session, open-facts}
use Rattle.session_soundness.proofs.Waiting.{waits-frame, frame-is-waiting}
use Rattle.body.specs.Encodings.{message_bytes, body_start}
use Rattle.body.proofs.Encoding.{Stands, stands-part}
use Rattle.message.specs.declared.Effect.{Effect}
use Rattle.message.specs.Effects.{refuse_with, refuse, note, done}
use Rattle.message.proofs.Kept.{Held}
use Rattle.reassembly.specs.Judge.{Judged, waiting, settled, hello_judged, status_judged, asks_none, judge_bytes, done_of, judge}
use Rattle.reassembly.specs.Pieces.{Part, take_piece}
use Rattle.reassembly.proofs.Taking.{part_bytes}
use Rattle.streams.specs.Calls.{Call}
use Rattle.receiver.specs.Model.{State, held_by, ends}
use Rattle.receiver.specs.Promise.{Made, ReadPromise, call_of}
use Rattle.receiver.specs.Parts.{judged_call, part_call}
use Rattle.receiver.specs.Corollaries.{message_of}
use Rattle.receiver.proofs.CallCases.{call-short, call-open}
use Rattle.receiver.proofs.Piece.{scan-takes, waited-call}
use Rattle.receiver.proofs.SettledLaws.{settled-ends}
use Rattle.receiver.proofs.Ways.{Judging, taken_is}
use Rattle.receiver.proofs.Acknowledging.{judged, right}

-- ---- a whole body, as the frame has it

-- its header has class 10, and its length is the integer behind the header
record Framed (u : List ℕ) (kind start end : ℕ) : Type 0 where
  class : get_or u 0 0 ≡ 10
  type : get_or u 1 0 ≡ kind
  long : 2 ≤ length u
  size : ℕ
  most : size ≤ 1024
  read : read_int u 2 ≡ Ok (size, start)
  ends : end ≡ start + size

FrameIs : List ℕ → Frame → Type 0
FrameIs u frame.Waiting = Unit {0}
FrameIs u (frame.Control type) = Unit {0}
FrameIs u (frame.Error type) = Unit {0}
FrameIs u (frame.Body kind start end) = Framed u kind start end
FrameIs u (frame.Refused n) = Unit {0}

HeaderIs : ℕ → ℕ → Option Header → Type 0
HeaderIs class type (Some (header.Control n)) = Unit {0}
HeaderIs class type (Some (header.Error n)) = Unit {0}
HeaderIs class type (Some (header.StickTable n)) = (class ≡ 10) × (type ≡ n)
HeaderIs class type None = Unit {0}

header_is : (class type : ℕ) → HeaderIs class type (header_of class type)
unfolding header_of HeaderIs
header_is class type =
    by-test (eqb class 0 && leb type 4)
    (λ a. rw a tt)
    (λ a.
    rw a
    (by-test (eqb class 1 && leb type 1)
    (λ b. rw b tt)
    (λ b.
    rw b
    (by-test (eqb class 10 && leb 128 type)
    (λ d. rw d (eqb-true class 10 (and_first (eqb class 10) (leb 128 type) d), refl))
    (λ d. rw d tt)))))

length-is : (u : List ℕ) (kind : ℕ) (i : (Result (ℕ × ℕ) IntError)) → read_int u 2 ≡ i → get_or u 0 0 ≡ 10 → get_or u 1 0 ≡ kind → 2 ≤ length u → FrameIs u (with_length kind u i)
unfolding with_length FrameIs
length-is u kind (Err (int.Short k)) e c t l = tt
length-is u kind (Err (int.Overflow k)) e c t l = tt
length-is u kind (Ok (n, start)) e c t l =
    by-test (ltb 1024 n)
    (λ a. rw a tt)
    (λ a.
    rw a
    (by-test (ltb (length u) (start + n))
    (λ b. rw b tt)
    (λ b. rw b (record { class = c; type = t; long = l; size = n; most = ltb-false 1024 n a; read = e; ends = refl }))))

by-header : (u : List ℕ) (h : (Option Header)) → HeaderIs (get_or u 0 0) (get_or u 1 0) h → 2 ≤ length u → FrameIs u (with_header u h)
unfolding with_header FrameIs HeaderIs
by-header u (Some (header.Control n)) h l = tt
by-header u (Some (header.Error n)) h l = tt
by-header u (Some (header.StickTable n)) h l = length-is u n (read_int u 2) refl h.0 h.1 l
by-header u None h l = tt

frame_is : (u : List ℕ) → FrameIs u (judge_frame u)
unfolding judge_frame FrameIs
frame_is u =
    split (lt-or-le (length u) 2)
    (λ l. rw (lt-ltb (length u) 2 l) tt)
    (λ l. rw (le-ltb (length u) 2 l) (by-header u (header_of (get_or u 0 0) (get_or u 1 0)) (header_is (get_or u 0 0) (get_or u 1 0)) l))

framed : (u : List ℕ) (kind start end : ℕ) → judge_frame u ≡ frame.Body kind start end → Framed u kind start end
unfolding FrameIs
framed u kind start end e = subst (FrameIs u) e (frame_is u)

-- where the body ends with the message
module _ (u : List ℕ) (b : Bytes u) (kind start end : ℕ) (e : judge_frame u ≡ frame.Body kind start end) (last : end ≡ length u) where
  pub body_is : take (end - start) (drop start u) ≡ drop start u
  body_is = let l : length (drop start u) ≤ end - start = simp length-drop (omega arith) in take_all (end - start) (drop start u) l

  pub message-is : u ≡ message_bytes kind (drop start u)
  unfolding message_bytes
  message-is =
      let f = framed u kind start end e in
      let l = f.long in
      let n : length (drop start u) ≡ f.size = simp length-drop (omega (arith, f.ends)) in
      let o = one-encoding u 2 f.size start b f.read in
      let here : Stands u (encode_int f.size) 2 start = stands-part u (encode_int f.size) 2 start o.0 o.1 in
      let h : u ≡ get_or u 0 0 ∷ drop 1 u = drop-cons u 0 0 (omega arith) in
      let k : drop 1 u ≡ get_or u 1 0 ∷ drop 2 u = drop-cons u 1 0 (omega arith) in
      h
      ∙ (ap (λ (x : List ℕ). get_or u 0 0 ∷ x) (k ∙ ap (λ (x : List ℕ). get_or u 1 0 ∷ x) here.split)
      ∙ rw (f.class, f.type, n))

  pub body-most : length (drop start u) ≤ 1024
  body-most = let f = framed u kind start end e in simp length-drop (omega (arith, f.ends, f.most))

-- a message's body stands behind class, type and encoded body length
pub body-behind : (u : List ℕ) (kind : ℕ) (body : List ℕ) → u ≡ message_bytes kind body → drop (body_start body) u ≡ body
unfolding message_bytes body_start
body-behind u kind body e =
    let front : List ℕ = 0x0A ∷ kind ∷ encode_int (length body) in
    let n : 2 + length (encode_int (length body)) ≡ length front = omega arith in
    ap (λ (i : ℕ). drop i u) n ∙ (ap (λ (l : List ℕ). drop (length front) l) e ∙ drop-append_seam front body)

-- ---- a call takes no byte past the first that ends a message

-- all but the last byte wait
record Last (c : Connection) (u : List ℕ) : Type 0 where
  before : List ℕ
  byte : ℕ
  whole : u ≡ before ++ (byte ∷ [])
  waited : waits c before ≡ true

part-last : (c : Connection) (u p : List ℕ) → waits c u ≡ true → (take_piece c u p).ended ≡ true → Last c (take_piece c u p).bytes
unfolding take_piece
part-last c u [] w = λ z. absurd (let y : ◌≡◌ {A = ℕ} 0 1 = cc in omega arith)
part-last c u (b ∷ bs) w =
    by-test (waits c (u ++ (b ∷ [])))
    (λ a. rw a (λ z. part-last c (u ++ (b ∷ [])) bs a z))
    (λ a. rw a (λ z. record { before = u; byte = b; whole = refl; waited = w }))

judged-taken : (c : Connection) (t : Store) (u : List ℕ) (n : ℕ) (j : Judged Effect) → (judged_call c t u n j).taken ≡ n
unfolding judged_call
judged-taken c t u n waiting = refl
judged-taken c t u n (settled e) = refl

more-not : ends answer.More ≡ false
unfolding ends
more-not = refl

-- ---- only a message of class 10 is answered with a table or an update

abbrev pub StickTable : Answer → Type 0
StickTable answer.More = ⊥
StickTable (answer.Hello process relative) = ⊥
StickTable answer.Status = ⊥
StickTable answer.Request = ⊥
StickTable answer.Finished = ⊥
StickTable answer.Partial = ⊥
StickTable answer.Confirmed = ⊥
StickTable answer.Heartbeat = ⊥
StickTable (answer.Error type) = ⊥
StickTable (answer.Table place) = Unit {0}
StickTable (answer.Switch place) = ⊥
StickTable (answer.Update table id entry how) = Unit {0}
StickTable (answer.Acknowledgement id update) = ⊥
StickTable (answer.Skipped kind) = ⊥
StickTable (answer.Refused n) = ⊥
StickTable (answer.RefusedAt n offset) = ⊥

abbrev Other : Judged Effect → Type 0
Other waiting = Unit {0}
Other (settled e) = StickTable e.answer → ⊥

hello-other : (c : Connection) (h : Hello) → Other (hello_judged c h)
unfolding hello_judged note refuse refuse_with
hello-other c hello.Waiting = tt
hello-other c (hello.Accepted process relative) = λ k. k
hello-other c (hello.Refused n) = λ k. k

status-other : (c : Connection) (h : Status) → Other (status_judged c h)
unfolding status_judged note refuse refuse_with
status-other c status.Waiting = tt
status-other c status.Accepted = λ k. k
status-other c (status.Refused n) = λ k. k

none_other : (c : Connection) (entries : List Entry) (j : Judged Effect) → Other j → Other (done_of c entries (asks_none j))
unfolding done_of asks_none done
none_other c entries waiting o = tt
none_other c entries (settled e) o = o

module _ (c : Connection) (t : Store) (u : List ℕ) (e : Effect) (q : judge c t u ≡ settled e) (k : StickTable e.answer) where
  no-hello : c.phase ≡ 0 → ⊥
  unfolding judge judge_bytes
  no-hello z =
      let j = hello_judged c (judge_hello (local_name c) (remote_name c) u) in
      let h : judge c t u ≡ done_of c t.entries (asks_none j) = rw (eq-eqb c.phase 0 z) in
      subst Other (sym h ∙ q) (none_other c t.entries j (hello-other c _)) k

  no-status : c.phase ≡ 1 → ⊥
  unfolding judge judge_bytes
  no-status z =
      let n : c.phase ≡ 0 → ⊥ = λ y. omega arith in
      let j = status_judged c (judge_status u) in
      let h : judge c t u ≡ done_of c t.entries (asks_none j) = rw (ne_eqb c.phase 0 n, eq-eqb c.phase 1 z) in
      subst Other (sym h ∙ q) (none_other c t.entries j (status-other c _)) k

  last-ends : (kind start end : ℕ) → judge_frame u ≡ frame.Body kind start end → Last c u → end ≡ length u
  last-ends kind start end f l =
      let w : judge_frame l.before ≡ frame.Waiting = frame-is-waiting _ (sym (waits-frame c l.before no-hello no-status) ∙ l.waited) in
      let n : length (l.before ++ (l.byte ∷ [])) ≡ length l.before + 1 = length-append l.before (l.byte ∷ []) in
      whole-at-last l.before l.byte kind start end w (ap judge_frame (sym l.whole) ∙ f) ∙ sym (ap length l.whole ∙ n)

module _ (s : Session) (t : Store) (m : Made) (p : ReadPromise s t m) (e : Effect)
    (j : Judging s t m.piece (call_of s t m.piece (length m.room)) e) where
  abbrev call : Call State Answer
  call = call_of s t m.piece (length m.room)

  abbrev part : Part
  part = take_piece s.connection (unfinished s) m.piece

  roomy : 12 ≤ length m.room
  roomy =
      split (lt-or-le (length m.room) 12)
      (λ l. absurd (j.some (ap (λ (k : Call State Answer). k.taken) (call-short s t m.piece m.room l))))
      (λ l. l)

  is-part : call ≡ part_call s.connection t part
  unfolding held_by
  is-part = call-open s t m.piece m.room roomy j.sound j.opened ∙ scan-takes s.connection (unfinished s) t m.piece j.opened

  part-taken : call.taken ≡ part.taken
  unfolding part_call
  part-taken = ap (λ (k : Call State Answer). k.taken) is-part ∙ judged-taken s.connection t part.bytes part.taken _

  is-message : message_of s m ≡ part.bytes
  is-message =
      ap (λ (n : ℕ). unfinished s ++ take n m.piece) (taken_is s t m p ∙ part-taken)
      ∙ sym (part_bytes s.connection (unfinished s) m.piece)

  ended : part.ended ≡ true
  unfolding judged_call
  ended =
      by-test part.ended
      (λ z. z)
      (λ z.
      let more : call.answer ≡ answer.More = ap (λ (k : Call State Answer). k.answer) (is-part ∙ waited-call s t part z) in
      never (settled-ends s.connection t _ e j.judged) (ap ends (sym j.answer ∙ more) ∙ more-not))

  last : waits s.connection (unfinished s) ≡ true → Last s.connection (message_of s m)
  last w = rw is-message (part-last s.connection (unfinished s) m.piece w ended)

  -- record and store are sound afterwards, and of their types' shape
  pub kept : Held e.connection m.store
  kept =
      subst (Held e.connection) (sym (p.store ∙ ap (λ (k : State). k.store) j.state))
      (right s t m p e j).kept

  -- the body ends with the message
  pub message-ends : StickTable e.answer → (kind start end : ℕ) → judge_frame (message_of s m) ≡ frame.Body kind start end → end ≡ length (message_of s m)
  message-ends k kind start end f =
      let w = (open-facts t.tables s j.opened (sound-session s t j.sound)).waiting in
      last-ends s.connection t (message_of s m) e (judged s t m p e j) k kind start end f (last w)
