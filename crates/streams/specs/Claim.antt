-- What is asked of a receiver, and what is claimed of every list of calls.
use Rattle.std.specs.Prelude.{ℕ, suc, ◌≤◌, ◌<◌, ◌≡◌, ◌⊎◌, List, [], ◌∷◌, ◌++◌, true, false, length}
use Rattle.lists.specs.Lists.{every}
use Rattle.streams.specs.Model.{quiet, answered, state_of, Receiver, Item, bytes, feed_all}
use Rattle.streams.specs.Calls.{Call, Step, reading, happening, stay, result_of, read_call, run_calls, taken_of, Offers, of_bytes, reads_in, Part, on_part, timeline, WithinCuts, reachable}

module _ {S A E : Type 0} (R : Receiver S A E) where
  -- The laws asked of a receiver, with an invariant of its states
  pub record Lawful (Good : S → Type 0) : Type 0 where
    pub more-not-end : R.ends R.more ≡ false
    pub refusals-not-end : (R.ends (R.refused 1) ≡ false) × (R.ends (R.refused 2) ≡ false) × (R.ends (R.refused 4) ≡ false)
    -- No answer of the model is left out
    pub answers-end : (s : S) (b : ℕ) (a : A) (r : List ℕ) (t : S) → R.feed s b ≡ answered a r t → R.ends a ≡ true
    -- "On a closed session a byte changes nothing."
    pub closed-ignores : (s : S) (b : ℕ) → R.closed s ≡ true → R.feed s b ≡ quiet s
    -- Only an answer closes a session
    pub quiet-open : (s : S) (b : ℕ) (t : S) → R.closed s ≡ false → R.feed s b ≡ quiet t → R.closed t ≡ false
    pub act-closed : (e : E) (s : S) → R.closed (R.act e s) ≡ R.closed s
    pub good-sound : (s : S) → Good s → R.sound s ≡ true
    pub good-feed : (s : S) (b : ℕ) → Good s → R.is_byte b ≡ true → Good (state_of (R.feed s b))
    pub good-act : (e : E) (s : S) → Good s → Good (R.act e s)

  -- "if there is no such byte, it takes the whole piece and answers more wanted, with no reply"
  pub record TookAll (s : S) (piece : List ℕ) (c : Call S A) : Type 0 where
    pub taken : c.taken ≡ length piece
    pub answer : c.answer ≡ R.more
    pub reply : c.reply ≡ []
    pub fed : (u : List ℕ) → feed_all R s u (bytes piece) ≡ record { ended = []; state = c.state }

  -- "takes its piece up to and with the first byte at which the model answers, and gives that answer and reply"
  pub record StoppedAt (s : S) (piece : List ℕ) (c : Call S A) : Type 0 where
    pub before : List ℕ
    pub last : ℕ
    pub later : List ℕ
    pub reached : S
    pub split : piece ≡ before ++ (last ∷ later)
    pub fed-before : (u : List ℕ) → feed_all R s u (bytes before) ≡ record { ended = []; state = reached }
    pub fed : R.feed reached last ≡ answered c.answer c.reply c.state
    pub taken : c.taken ≡ suc (length before)

  -- "With room under 12 it takes nothing and answers 1; otherwise, on a closed session, it takes nothing and answers 2."
  pub record AsModel (s : S) (piece : List ℕ) (room : ℕ) (c : Call S A) : Type 0 where
    pub short : room < R.least → c ≡ stay s (R.refused 1)
    pub closed : R.least ≤ room → R.closed s ≡ true → c ≡ stay s (R.refused 2)
    pub reads : R.least ≤ room → R.closed s ≡ false → TookAll s piece c ⊎ StoppedAt s piece c
    -- An open session takes a byte at least of a piece that has one
    pub moves : R.least ≤ room → R.closed s ≡ false → 0 < length piece → 0 < c.taken

  unfoldable pub EachAsModel : S → List (Step E) → Type 0
  EachAsModel s [] = Unit {0}
  EachAsModel s (reading piece room ∷ steps) =
      let c = read_call R s piece room in
      AsModel s piece room c × EachAsModel c.state steps
  EachAsModel s (happening e ∷ steps) = EachAsModel (R.act e s) steps

  -- Each reading call meets a sound state, so that none answers 4
  unfoldable pub EachSound : S → List (Step E) → Type 0
  EachSound s [] = Unit {0}
  EachSound s (reading piece room ∷ steps) = (R.sound s ≡ true) × EachSound (read_call R s piece room).state steps
  EachSound s (happening e ∷ steps) = EachSound (R.act e s) steps

  -- "Demand 3 is a single claim about the whole list, not one for each call."
  pub record Division (Good : S → Type 0) (s : S) (u : List ℕ) (steps : List (Step E)) : Type 0 where
    pub each : EachAsModel s steps
    pub taken : run_calls R s steps ≡ result_of (feed_all R s u (taken_of R s steps))
    pub whole : (stream : List (Item E)) → Offers R s stream steps → run_calls R s steps ≡ result_of (feed_all R s u stream)
    pub sound : Good (run_calls R s steps).state
    pub never-unsound : EachSound s steps

  abbrev pub EveryDivision : (S → Type 0) → Type 0
  EveryDivision Good = (s : S) (u : List ℕ) (steps : List (Step E)) → Good s → every (of_bytes R) steps ≡ true → Division Good s u steps

  -- Calls and events that offer the timeline of the parts, with no piece across a cut or an event
  pub record Offering (s : S) (parts : List (Part E)) (room : ℕ) : Type 0 where
    pub steps : List (Step E)
    pub offers : Offers R s (timeline parts) steps
    pub within : WithinCuts R s parts steps
    pub calls : every (reads_in room) steps ≡ true
    pub on-bytes : every (of_bytes R) steps ≡ true

  abbrev pub EveryOffering : (S → Type 0) → Type 0
  EveryOffering Good =
      (s : S) (parts : List (Part E)) (room : ℕ) → Good s → every (on_part (every R.is_byte) (λ e. true)) parts ≡ true → R.least ≤ room
      → reachable R s (timeline parts) ≡ true → Offering s parts room

  -- No other timeline is offered by any list, and every timeline of bytes alone is
  abbrev pub OfferedReachable : Type 0
  OfferedReachable = (s : S) (stream : List (Item E)) (steps : List (Step E)) → Offers R s stream steps → reachable R s stream ≡ true

  abbrev pub BytesReachable : Type 0
  BytesReachable = (s : S) (xs : List ℕ) → reachable R s (bytes xs) ≡ true
