-- Reading calls by the byte model, lists of calls, and the offering of a timeline.
use Rattle.std.specs.Prelude.{ℕ, suc, ◌≡◌, ◌⊎◌, Bool, true, false, cond, take, drop, ltb, eqb}
use mathlib.Core.List.{List, [], ◌∷◌, ◌++◌, map, flatten}
use Rattle.lists.specs.Lists.{every}
use Rattle.streams.specs.Model.{quiet, answered, state_of, Receiver, Item, byte, event, bytes, bytes_in, Ended, Ran}

-- "It returns the bytes taken, the reply's length and the answer", and "leaves the new state there"
pub record Call (S A : Type 0) : Type 0 where
  pub taken : ℕ
  pub answer : A
  pub reply : List ℕ
  pub state : S

pub data Step (E : Type 0) : Type 0 where
  reading : (piece : List ℕ) (room : ℕ) → Step E
  happening : E → Step E

-- A test of a reading call's piece, and one of an event
abbrev pub on_step : {E : Type 0} → (List ℕ → Bool) → (E → Bool) → Step E → Bool
on_step p q (reading piece room) = p piece
on_step p q (happening e) = q e

-- Every reading call has this room
abbrev pub reads_in : {E : Type 0} → ℕ → Step E → Bool
reads_in n (reading piece room) = eqb room n
reads_in n (happening e) = true

-- An answer with its reply
pub record Response (A : Type 0) : Type 0 where
  pub answer : A
  pub reply : List ℕ

-- The answers that end a message or close the session with their replies, the joined replies, and the end state
pub record Result (S A : Type 0) : Type 0 where
  pub responses : List (Response A)
  pub replies : List ℕ
  pub state : S

module _ {S A : Type 0} where
  -- "A call's 1, 4 and 2 take nothing and change nothing"
  abbrev pub stay : S → A → Call S A
  stay s a = record { taken = 0; answer = a; reply = []; state = s }

  -- The call that took one byte more, before its others
  abbrev pub onward : Call S A → Call S A
  onward c = record { taken = suc c.taken; answer = c.answer; reply = c.reply; state = c.state }

  -- What the byte model came to, with every answer that it gave
  abbrev pub result_of : Ran S A → Result S A
  result_of r =
      record {
        responses = map (λ (e : Ended A). record { answer = e.answer; reply = e.reply }) r.ended;
        replies = flatten (map (λ (e : Ended A). e.reply) r.ended);
        state = r.state;
      }

module _ {S A E : Type 0} (R : Receiver S A E) where
  -- "takes its piece up to and with the first byte at which the model answers, and gives that answer and reply;
  -- if there is no such byte, it takes the whole piece and answers more wanted, with no reply"
  unfoldable pub scan : S → List ℕ → Call S A
  scan s [] = stay s R.more
  scan s (b ∷ bs) =
      elim (R.feed s b) [
        | quiet t ↦ onward (scan t bs)
        | answered a r t ↦ record { taken = 1; answer = a; reply = r; state = t }
      ]

  -- "A call tests 1, then 4, then 2"
  unfoldable pub read_call : S → List ℕ → ℕ → Call S A
  read_call s piece room =
      cond (ltb room R.least) (stay s (R.refused 1))
      (cond (R.sound s) (cond (R.closed s) (stay s (R.refused 2)) (scan s piece)) (stay s (R.refused 4)))

  -- Of the calls, only those whose answer ends a message or closes the session
  abbrev pub respond : Call S A → List (Response A) → List (Response A)
  respond c rest = cond (R.ends c.answer) (record { answer = c.answer; reply = c.reply } ∷ rest) rest

  -- "The host keeps one session record per connection and lends it to each call, which leaves the new state there."
  unfoldable pub run_calls : S → List (Step E) → Result S A
  run_calls s [] = record { responses = []; replies = []; state = s }
  run_calls s (reading piece room ∷ steps) =
      let c = read_call s piece room in
      let r = run_calls c.state steps in
      record { responses = respond c r.responses; replies = c.reply ++ r.replies; state = r.state }
  run_calls s (happening e ∷ steps) = run_calls (R.act e s) steps

  -- The bytes that the calls took, and the events where they happened
  unfoldable pub taken_of : S → List (Step E) → List (Item E)
  taken_of s [] = []
  taken_of s (reading piece room ∷ steps) =
      let c = read_call s piece room in
      bytes (take c.taken piece) ++ taken_of c.state steps
  taken_of s (happening e ∷ steps) = event e ∷ taken_of (R.act e s) steps

  -- The steps offer the timeline `rest`. "Until the session closes, the host offers untaken bytes again.": until then each piece is a first part of
  -- the bytes that are left, and after that any piece. What a call takes stands before the next event; what it leaves may stand behind it
  unfoldable pub Offers : S → List (Item E) → List (Step E) → Type 0
  Offers s rest [] = (rest ≡ []) ⊎ ((R.closed s ≡ true) × ((last : List ℕ) × (rest ≡ bytes last)))
  Offers s rest (reading piece room ∷ steps) =
      let c = read_call s piece room in
      ((R.closed s ≡ true) ⊎ ((more : List ℕ) × (piece ++ more ≡ bytes_in rest)))
      × (later : List (Item E)) × (bytes (take c.taken piece) ++ later ≡ rest) × Offers c.state later steps
  Offers s rest (happening e ∷ steps) =
      (later : List (Item E)) × (event e ∷ later ≡ rest) × Offers (R.act e s) later steps

  abbrev pub of_bytes : Step E → Bool
  of_bytes = on_step (every R.is_byte) (λ e. true)

-- ---- a stream cut into pieces, with events between them

pub data Part (E : Type 0) : Type 0 where
  piece : List ℕ → Part E
  moment : E → Part E

-- A test of the pieces, and one of the events
abbrev pub on_part : {E : Type 0} → (List ℕ → Bool) → (E → Bool) → Part E → Bool
on_part p q (piece bs) = p bs
on_part p q (moment e) = q e

-- A stream of bytes alone
abbrev pub pieces : {E : Type 0} → List (List ℕ) → List (Part E)
pieces cuts = map piece cuts

module _ {E : Type 0} where
  unfoldable pub timeline : List (Part E) → List (Item E)
  timeline [] = []
  timeline (piece bs ∷ parts) = bytes bs ++ timeline parts
  timeline (moment e ∷ parts) = event e ∷ timeline parts

  -- What is left once empty pieces are passed over
  unfoldable pub begun : List (Part E) → List (Part E)
  begun [] = []
  begun (piece [] ∷ parts) = begun parts
  begun (piece (b ∷ bs) ∷ parts) = piece (b ∷ bs) ∷ parts
  begun (moment e ∷ parts) = moment e ∷ parts

  -- The bytes up to the next cut or event, and the parts without n of these
  unfoldable pub current : List (Part E) → List ℕ
  current [] = []
  current (piece [] ∷ parts) = current parts
  current (piece (b ∷ bs) ∷ parts) = b ∷ bs
  current (moment e ∷ parts) = []

  unfoldable pub without : ℕ → List (Part E) → List (Part E)
  without n [] = []
  without n (piece [] ∷ parts) = without n parts
  without n (piece (b ∷ bs) ∷ parts) = piece (drop n (b ∷ bs)) ∷ parts
  without n (moment e ∷ parts) = moment e ∷ parts

  unfoldable pub eventless : List (Item E) → Bool
  eventless [] = true
  eventless (byte b ∷ rest) = eventless rest
  eventless (event e ∷ rest) = false

module _ {S A E : Type 0} (R : Receiver S A E) where
  -- Each reading call's piece is all that is left between two cuts or events: no piece crosses one, and none is cut further. An event happens
  -- where it is next
  unfoldable pub WithinCuts : S → List (Part E) → List (Step E) → Type 0
  WithinCuts s parts [] = Unit {0}
  WithinCuts s parts (reading bs room ∷ steps) =
      let c = read_call R s bs room in
      (bs ≡ current parts) × WithinCuts c.state (without c.taken parts) steps
  WithinCuts s parts (happening e ∷ steps) =
      (later : List (Part E)) × (begun parts ≡ moment e ∷ later) × WithinCuts (R.act e s) later steps

  -- Each event stands at a position that a list of calls comes to: a closed session takes no byte, so none stands behind a byte there
  unfoldable pub reachable : S → List (Item E) → Bool
  reachable s [] = true
  reachable s (byte b ∷ rest) = cond (R.closed s) (eventless rest) (reachable (state_of (R.feed s b)) rest)
  reachable s (event e ∷ rest) = reachable (R.act e s) rest
