-- A reading call on a sound open record: what was taken in one go, and what it came to, is the byte model's call.
use Prim.Native.Nat.{ℕ, ◌<◌, ◌+◌, ◌≤◌}
use native.Mathlib.Omega.{arith}
use mathlib.Core.Path.{◌≡◌, refl, sym, ap, ◌∙◌, subst}
use mathlib.Core.Bool.{true, false}
use mathlib.Core.List.{List, [], ◌∷◌}
use lib.ListN.{length}
use borrow.Author.Tests.{ne_eqb, lt-ltb, le-ltb, le-leb}
use Rattle.lists.specs.Lists.{front, overlay, every}
use Rattle.lists.proofs.Cases.{and_first, and_second}
use Rattle.lists.proofs.Every.{every-cons}
use Rattle.store.specs.declared.Store.{Store}
use Rattle.session.specs.declared.Connection.{Connection}
use Rattle.session.specs.declared.Session.{Session}
use Rattle.session.specs.declared.Answer.{Answer}
use Rattle.session.specs.declared.Answer.TheVariants as answer
use Rattle.wire.specs.Room.{put_room}
use Rattle.session.specs.Session.{unfinished, is_closed}
use Rattle.session_soundness.specs.Sound.{sound}
use Rattle.session_soundness.specs.Sound as sounds
use Rattle.message.specs.Effects.{Effect}
use Rattle.message.specs.Changes.{no_change, changed}
use Rattle.reassembly.specs.Judge.{Judged, settled, judge, effect_of}
use Rattle.reassembly.specs.Pieces.{Part, take_piece}
use Rattle.reassembly.proofs.Taking.{part_none, part-ended}
use Rattle.streams.specs.Model.{Fed, state_of}
use Rattle.streams.specs.Calls.{Call, scan}
use Rattle.streams.proofs.Basics.{by-fed}
use Rattle.streams.proofs.OneCall.{scan-nil, scan-quiet, scan-answered}
use Rattle.reading.specs.declared.results.StepChange.{StepChange}
use Rattle.receiver.specs.Model.{State, held_by, feed, is_byte, peers}
use Rattle.receiver.specs.Good.{Good}
use Rattle.receiver.specs.Promise.{Shaped, outcome_of, session_of}
use Rattle.receiver.specs.Parts.{judged_call, part_call}
use Rattle.reading.specs.Results.{stays, waits, applied, gives, replied, step_of}
use Rattle.receiver.proofs.Piece.{judged-as, judged-settled, scan-takes, waited-call, settled-call}
use Rattle.receiver.proofs.Chained.{good-held}
use Rattle.receiver.proofs.Held.{state-fits}
use Rattle.receiver.proofs.Lawfully.{lawful, replies-short}

-- ---- every reply is short

scan-short : (s : State) (p : List ℕ) → Good s → every is_byte p ≡ true → length (scan peers s p).reply ≤ 12
scan-short s [] g h = rw (scan-nil peers s) (omega arith)
scan-short s (b ∷ bs) g h =
    let k = sym (every-cons is_byte b bs) ∙ h in
    let l = and_first (is_byte b) (every is_byte bs) k in
    by-fed (feed s b)
    (λ t q.
    rw (scan-quiet peers s t b bs q)
    (scan-short t bs (subst (λ (f : Fed State Answer). Good (state_of f)) q (lawful.good-feed s b g l)) (and_second (is_byte b) (every is_byte bs) k)))
    (λ a r t q. rw (scan-answered peers s t b bs a r q) (replies-short s b a r t g l q))

-- ---- the steps of a part

module _ (s : Session) (t : Store) (a : Part) where
  abbrev call : Call State Answer
  call = part_call s.connection t a

  stayed-step : a ≡ record { bytes = unfinished s; taken = 0; ended = false } → applied t (stays s answer.More) ≡ step_of s call
  unfolding applied stays changed no_change step_of part_call judged_call outcome_of session_of
  stayed-step e = rw e

  waited-step : a.ended ≡ false → (a.taken ≡ 0 → ⊥) → applied t (waits s.sending s.connection a.bytes a.taken) ≡ step_of s call
  unfolding applied waits changed no_change step_of judged_call outcome_of session_of
  waited-step e n = rw (waited-call s t a e, ne_eqb a.taken 0 n)

  settled-step : (e : Effect) → a.ended ≡ true → judge s.connection t a.bytes ≡ settled e → (a.taken ≡ 0 → ⊥)
      → applied t (gives s.sending a.taken e) ≡ step_of s call
  unfolding applied gives step_of judged_call outcome_of session_of
  settled-step e h j n = rw (settled-call s t a e h j, ne_eqb a.taken 0 n)

  waited-reply : a.ended ≡ false → call.reply ≡ []
  unfolding judged_call
  waited-reply e = rw (waited-call s t a e)

  settled-reply : (e : Effect) → a.ended ≡ true → judge s.connection t a.bytes ≡ settled e → call.reply ≡ e.reply
  unfolding judged_call
  settled-reply e h j = rw (settled-call s t a e h j)

settled-effect : (c : Connection) (j : Judged Effect) (e : Effect) → j ≡ settled e → effect_of c j ≡ e
unfolding effect_of
settled-effect c j e h = rw h

no_front : (room : List ℕ) → room ≡ front [] room
unfolding front
no_front room = refl

-- a reply of more than twelve bytes isn't put; another is, where the room has place for it, and stands at its front
pub replied-long : (reply room : List ℕ) → 12 < length reply → room ≡ replied reply room
unfolding replied
replied-long reply room h = rw (lt-ltb 12 (length reply) h)

pub replied-short : (reply room : List ℕ) → length reply ≤ 12 → replied reply room ≡ put_room room 0 reply
unfolding replied
replied-short reply room l = rw (le-ltb 12 (length reply) l)

pub replied-front : (reply room : List ℕ) → length reply ≤ 12 → length reply ≤ length room → replied reply room ≡ front reply room
unfolding put_room overlay front
replied-front reply room l h =
    let e : 0 + length reply ≡ length reply = omega arith in
    rw (replied-short reply room l, e, le-leb (length reply) (length room) h)

-- ---- the call

module _ (s : Session) (t : Store) (piece : List ℕ) (x : Part) (p : x ≡ take_piece s.connection (unfinished s) piece)
    (f : sound s t ≡ true) (o : is_closed s.connection ≡ false) (sh : Shaped s t) (by : every is_byte piece ≡ true) where
  abbrev model : Call State Answer
  model = scan peers (held_by s t) piece

  few : length (unfinished s) ≤ 1027
  unfolding held_by
  few = state-fits (held_by s t) (good-held s t sh f).sound

  is-part : model ≡ part_call s.connection t x
  unfolding held_by
  is-part = scan-takes s.connection (unfinished s) t piece o ∙ ap (part_call s.connection t) (sym p)

  -- nothing is taken

  nothing : x.taken ≡ 0 → x ≡ record { bytes = unfinished s; taken = 0; ended = false }
  nothing z = p ∙ part_none s.connection (unfinished s) piece few (ap (λ (y : Part). y.taken) (sym p) ∙ z)

  pub stays_step : (r : StepChange) → x.taken ≡ 0 → r ≡ stays s answer.More → applied t r ≡ step_of s model
  stays_step r z q = ap (applied t) q ∙ (stayed-step s t x (nothing z) ∙ ap (step_of s) (sym is-part))

  pub stays-room : (room : List ℕ) → x.taken ≡ 0 → room ≡ front model.reply room
  stays-room room z =
      no_front room
      ∙ ap (λ (l : List ℕ). front l room)
      (sym (ap (λ (k : Call State Answer). k.reply) is-part ∙ waited-reply s t x (ap (λ (a : Part). a.ended) (nothing z))))

  module _ (n : x.taken ≡ 0 → ⊥) where
    -- more is wanted

    pub waits-step : (r : StepChange) → x.ended ≡ false → r ≡ waits s.sending s.connection x.bytes x.taken → applied t r ≡ step_of s model
    waits-step r z q = ap (applied t) q ∙ (waited-step s t x z n ∙ ap (step_of s) (sym is-part))

    pub waits-room : (room : List ℕ) → x.ended ≡ false → room ≡ front model.reply room
    waits-room room z =
        no_front room
        ∙ ap (λ (l : List ℕ). front l room) (sym (ap (λ (k : Call State Answer). k.reply) is-part ∙ waited-reply s t x z))

    -- an answer

    module _ (z : x.ended ≡ true) where
      abbrev judged : Judged Effect
      judged = judge s.connection t x.bytes

      ends-settled : (e : Effect) × (judged ≡ settled e)
      ends-settled =
          judged-settled (sounds.waits s.connection x.bytes) judged (judged-as s.connection t x.bytes)
          (ap (λ (y : Part). sounds.waits s.connection y.bytes) p
          ∙ part-ended s.connection (unfinished s) piece few (ap (λ (y : Part). y.ended) (sym p) ∙ z))

      effect_is : effect_of s.connection judged ≡ ends-settled.0
      effect_is = settled-effect s.connection judged ends-settled.0 ends-settled.1

      reply-is : model.reply ≡ ends-settled.0.reply
      reply-is = ap (λ (k : Call State Answer). k.reply) is-part ∙ settled-reply s t x ends-settled.0 z ends-settled.1

      reply-short : length (effect_of s.connection judged).reply ≤ 12
      reply-short = rw (effect_is, ← reply-is) (scan-short (held_by s t) piece (good-held s t sh f) by)

      pub answers-step : (r : StepChange) → r ≡ gives s.sending x.taken (effect_of s.connection judged) → applied t r ≡ step_of s model
      answers-step r q =
          ap (applied t) (q ∙ ap (gives s.sending x.taken) effect_is)
          ∙ (settled-step s t x ends-settled.0 z ends-settled.1 n ∙ ap (step_of s) (sym is-part))

      pub answers-room : (room final : List ℕ) → 12 ≤ length room → final ≡ replied (effect_of s.connection judged).reply room
          → final ≡ front model.reply room
      answers-room room final h q =
          q
          ∙ (replied-front (effect_of s.connection judged).reply room reply-short (omega (arith, reply-short, h))
          ∙ ap (λ (l : List ℕ). front l room) (ap (λ (e : Effect). e.reply) effect_is ∙ sym reply-is))
