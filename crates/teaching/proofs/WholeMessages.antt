-- One whole message of class 10, fed to the model of an open session past its handshake: its first parts wait, and at its last byte it does what
-- its body says.
use Rattle.std.specs.Prelude.{Ok, Some}
use Prim.Native.Nat.{ℕ, ◌+◌, ◌-◌, ◌≤◌}
use native.Mathlib.Omega.{arith}
use mathlib.Core.Path.{◌≡◌, refl, sym, ap, ◌∙◌}
use mathlib.Core.List.{List, [], ◌∷◌, ◌++◌, append_assoc}
use mathlib.Core.Bool.{true, false}
use lib.ListN.{length, take, drop, get_or, length-append}
use lib.Seq.{drop-append_seam, take_all}
use borrow.Author.Tests.{ne_eqb}
use Rattle.lists.proofs.Cases.{split}
use Rattle.wire.specs.Integer.{encode_int, read_int}
use Rattle.wire.proofs.RoundTrip.{round_trip}
use Rattle.frame.specs.declared.Frame.TheVariants as frame
use Rattle.frame.specs.declared.Header.TheVariants as header
use Rattle.frame.specs.Frame.{judge_frame, header_of}
use Rattle.frame.proofs.Judging.{stick-table, body-whole, body-judged}
use Rattle.frame.proofs.Behind.{waits-or-stays}
use Rattle.frame.proofs.Limits.{whole-facts}
use Rattle.store.specs.declared.Store.{Store}
use Rattle.session.specs.declared.Connection.{Connection}
use Rattle.session.specs.declared.Answer.{Answer}
use Rattle.session.specs.Session.{is_closed}
use Rattle.session_soundness.specs.Sound.{waits, frame_waits}
use Rattle.session_soundness.proofs.Waiting.{waits-frame}
use Rattle.body.specs.Encodings.{message_bytes, body_start}
use Rattle.message.specs.Changes.{changed}
use Rattle.message.specs.declared.Effect.{Effect}
use Rattle.message.specs.Effects.{stick_table, done}
use Rattle.reassembly.specs.Judge.{settled, judge, judge_bytes, frame_judged, done_of}
use Rattle.streams.specs.Model.{answered, Item, bytes, Ended, ending, feed_all}
use Rattle.streams.proofs.Basics.{fed-quiet, fed-answered}
use Rattle.receiver.specs.Model.{State, feed, joined, peers, Event}
use Rattle.receiver.proofs.Piece.{feed-open, feed-waits}

module _ (kind : ℕ) (body : List ℕ) (high : 128 ≤ kind) (small : length body ≤ 1024) where
  abbrev whole : List ℕ
  whole = message_bytes kind body

  whole_length : length whole ≡ body_start body + length body
  unfolding message_bytes body_start
  whole_length = omega (arith, length-append (encode_int (length body)) body)

  length-read : read_int whole 2 ≡ Ok ((length body), (body_start body))
  unfolding message_bytes body_start
  length-read = round_trip (0x0A ∷ kind ∷ []) body (length body) (omega arith)

  starts-late : 2 ≤ body_start body
  unfolding body_start
  starts-late = omega arith

  class-is : header_of (get_or whole 0 0) (get_or whole 1 0) ≡ Some (header.StickTable kind)
  unfolding message_bytes
  class-is = sym (stick-table 10 kind refl high)

  pub frame-whole : judge_frame whole ≡ frame.Body kind (body_start body) (length whole)
  frame-whole =
      let n = whole_length in
      let e : body_start body + length body ≡ length whole = sym n in
      let long : 2 ≤ length whole = omega (arith, starts-late) in
      let fits : body_start body + length body ≤ length whole = omega arith in
      sym
      (ap (frame.Body kind (body_start body)) (sym e)
      ∙ body-judged whole (header_of (get_or whole 0 0) (get_or whole 1 0)) long refl kind _ class-is
      (body-whole whole (read_int whole 2) refl kind (length body) (body_start body) length-read small fits))

  -- a first part that isn't all of it
  pub part-waits : (u : List ℕ) (b : ℕ) (v : List ℕ) → u ++ (b ∷ v) ≡ whole → judge_frame u ≡ frame.Waiting
  part-waits u b v e =
      split (waits-or-stays u (b ∷ v)) (λ w. w)
      (λ q.
      let f : judge_frame u ≡ frame.Body kind (body_start body) (length whole) = sym q ∙ (ap judge_frame e ∙ frame-whole) in
      let n : length u + length (b ∷ v) ≡ length whole = sym (length-append u (b ∷ v)) ∙ ap length e in
      absurd (omega (arith, (whole-facts u kind (body_start body) (length whole) f).inside)))

  pub body_back : take (length whole - body_start body) (drop (body_start body) whole) ≡ body
  unfolding message_bytes body_start
  body_back =
      let front : List ℕ = 0x0A ∷ kind ∷ encode_int (length body) in
      let n : 2 + length (encode_int (length body)) ≡ length front = omega arith in
      let d : drop (body_start body) whole ≡ body = ap (λ (i : ℕ). drop i whole) n ∙ drop-append_seam front body in
      let l : length body ≤ length whole - body_start body = omega (arith, whole_length) in
      ap (take (length whole - body_start body)) d ∙ take_all (length whole - body_start body) body l

  module _ (c : Connection) (s : Store) (opened : is_closed c ≡ false) (phase : c.phase ≡ 2) where
    -- what the message does
    abbrev pub effect : Effect
    effect = done c s.entries (stick_table c s.tables kind body)

    not-hello : c.phase ≡ 0 → ⊥
    not-hello z = omega arith

    not-status : c.phase ≡ 1 → ⊥
    not-status z = omega arith

    pub judged-whole : judge c s whole ≡ settled effect
    unfolding judge judge_bytes frame_judged done_of
    judged-whole = rw (ne_eqb c.phase 0 not-hello, ne_eqb c.phase 1 not-status, frame-whole, body_back)

    part-waits-here : (u : List ℕ) (b : ℕ) (v : List ℕ) → u ++ (b ∷ v) ≡ whole → waits c u ≡ true
    part-waits-here u b v e = waits-frame c u not-hello not-status ∙ ap frame_waits (part-waits u b v e)

    abbrev state : List ℕ → State
    state u = record { connection = c; unfinished = u; store = s }

    -- the state afterwards
    abbrev pub next : State
    next = record { connection = effect.connection; unfinished = []; store = changed s effect.change }

    abbrev pub ended : Ended Answer
    ended = record { message = whole; answer = effect.answer; reply = effect.reply }

    from-part : (u : List ℕ) (b : ℕ) (v : List ℕ) (rest : List (Item Event)) → u ++ (b ∷ v) ≡ whole
        → feed_all peers (state u) u (bytes (b ∷ v) ++ rest) ≡ ending ended (feed_all peers next [] rest)
    from-part u b [] rest e =
        let f : feed (state u) b ≡ answered effect.answer effect.reply next =
        feed-open c u s b opened
        ∙ (ap (joined c s (u ++ (b ∷ []))) (ap (judge c s) e ∙ judged-whole) ∙ unfold joined in refl) in
        fed-answered peers (state u) next u b rest effect.answer effect.reply f
        ∙ ap (λ (m : List ℕ). ending (record { message = m; answer = effect.answer; reply = effect.reply }) (feed_all peers next [] rest)) e
    from-part u b (d ∷ v) rest e =
        let q : (u ++ (b ∷ [])) ++ (d ∷ v) ≡ whole = append_assoc u (b ∷ []) (d ∷ v) ∙ e in
        fed-quiet peers (state u) (state (u ++ (b ∷ []))) u b (bytes (d ∷ v) ++ rest)
        (feed-waits c u s b opened (part-waits-here (u ++ (b ∷ [])) d v q))
        ∙ from-part (u ++ (b ∷ [])) d v rest q

    pub whole-fed : (rest : List (Item Event)) → feed_all peers (state []) [] (bytes whole ++ rest) ≡ ending ended (feed_all peers next [] rest)
    unfolding message_bytes
    whole-fed rest = from-part [] 0x0A (kind ∷ encode_int (length body) ++ body) rest refl
