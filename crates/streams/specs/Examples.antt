-- The byte model and lists of calls of the small receiver, computed.
use Rattle.std.specs.Prelude.{◌≡◌, refl, true, false}
use Rattle.std.proofs.Common.{inl, inr}
use mathlib.Core.List.{List, [], ◌∷◌, flatten}
use Rattle.streams.specs.Model.{Item, byte, event, bytes, feed_all, unfinished, bytes_in}
use Rattle.streams.specs.Calls.{Step, reading, happening, stay, result_of, scan, read_call, run_calls, taken_of, piece, moment, current, eventless, reachable, Offers}
use Rattle.streams.specs.Toy.{More, Message, Refused, Event, shorter, toy}

-- Two messages, then a length over 8, and a byte after that
stream : List (Item Event)
stream = bytes (2 ∷ 7 ∷ 8 ∷ 0 ∷ 9 ∷ 5 ∷ [])

model : feed_all toy 1 [] stream
    ≡ record {
      ended =
          record { message = 2 ∷ 7 ∷ 8 ∷ []; answer = Message; reply = 6 ∷ [] }
          ∷ record { message = 0 ∷ []; answer = Message; reply = 6 ∷ [] }
          ∷ record { message = 9 ∷ []; answer = Refused 22; reply = 1 ∷ 1 ∷ [] }
          ∷ [];
      state = 0;
    }
unfolding stream feed_all
model = refl

-- The bytes unfinished at the start belong to the first message, and no byte stays unfinished after it
started : feed_all toy 2 (3 ∷ 4 ∷ 5 ∷ []) (bytes (6 ∷ 1 ∷ []))
    ≡ record { ended = record { message = 3 ∷ 4 ∷ 5 ∷ 6 ∷ []; answer = Message; reply = 6 ∷ [] } ∷ []; state = 2 }
unfolding feed_all
started = refl

left : unfinished toy 2 (3 ∷ 4 ∷ 5 ∷ []) (bytes (6 ∷ 1 ∷ [])) ≡ 1 ∷ []
unfolding unfinished
left = refl

-- The stream in pieces: one call takes a part of its piece, one has too little room, the last finds the session closed
calls : List (Step Event)
calls =
    reading (2 ∷ 7 ∷ []) 12
    ∷ reading (8 ∷ 0 ∷ []) 12
    ∷ reading (0 ∷ []) 11
    ∷ reading (0 ∷ 9 ∷ 5 ∷ []) 12
    ∷ reading (9 ∷ 5 ∷ []) 20
    ∷ reading (5 ∷ []) 12
    ∷ []

run : run_calls toy 1 calls
    ≡ record {
      responses =
          record { answer = Message; reply = 6 ∷ [] }
          ∷ record { answer = Message; reply = 6 ∷ [] }
          ∷ record { answer = Refused 22; reply = 1 ∷ 1 ∷ [] }
          ∷ [];
      replies = 6 ∷ 6 ∷ 1 ∷ 1 ∷ [];
      state = 0;
    }
unfolding calls run_calls read_call scan
run = refl

run-result : run_calls toy 1 calls ≡ result_of (feed_all toy 1 [] stream)
unfolding calls run_calls read_call scan stream feed_all flatten
run-result = refl

taken : taken_of toy 1 calls ≡ bytes (2 ∷ 7 ∷ 8 ∷ 0 ∷ 9 ∷ [])
unfolding calls taken_of read_call scan
taken = refl

-- An event counts where it happens: after the length byte there is one byte fewer to come, before it there is not
event-after : taken_of toy 1 (reading (3 ∷ []) 12 ∷ happening shorter ∷ reading (7 ∷ 8 ∷ 2 ∷ []) 12 ∷ [])
    ≡ byte 3 ∷ event shorter ∷ byte 7 ∷ byte 8 ∷ []
unfolding taken_of read_call scan
event-after = refl

ended-after : feed_all toy 1 [] (byte 3 ∷ event shorter ∷ byte 7 ∷ byte 8 ∷ [])
    ≡ record { ended = record { message = 3 ∷ 7 ∷ 8 ∷ []; answer = Message; reply = 6 ∷ [] } ∷ []; state = 1 }
unfolding feed_all
ended-after = refl

ended-before : feed_all toy 1 [] (event shorter ∷ byte 3 ∷ byte 7 ∷ byte 8 ∷ []) ≡ record { ended = []; state = 2 }
unfolding feed_all
ended-before = refl

-- An event right behind the byte that closes the session is reached, one behind a further byte isn't
closing-reached : reachable toy 1 (byte 9 ∷ event shorter ∷ event shorter ∷ byte 5 ∷ []) ≡ true
unfolding reachable eventless
closing-reached = refl

behind-unreached : reachable toy 1 (byte 9 ∷ byte 5 ∷ event shorter ∷ []) ≡ false
unfolding reachable eventless
behind-unreached = refl

-- A piece ends at a cut and at an event, and an empty piece is none
cut : current (piece [] ∷ piece (3 ∷ 7 ∷ []) ∷ piece (8 ∷ []) ∷ moment shorter ∷ []) ≡ 3 ∷ 7 ∷ []
unfolding current
cut = refl

cut-at-event : current (piece [] ∷ moment shorter ∷ piece (3 ∷ []) ∷ []) ≡ []
unfolding current
cut-at-event = refl

-- The tests in order: state 25 is closed and not sound, 12 is open and not sound, 0 is closed and sound
tests : read_call toy 25 (1 ∷ []) 11 ∷ read_call toy 25 (1 ∷ []) 12 ∷ read_call toy 12 (1 ∷ []) 12 ∷ read_call toy 0 (1 ∷ []) 12 ∷ []
    ≡ stay 25 (Refused 1) ∷ stay 25 (Refused 4) ∷ stay 12 (Refused 4) ∷ stay 0 (Refused 2) ∷ []
unfolding read_call
tests = refl

-- "An empty piece on an open session: more wanted, nothing changed."
empty-piece : read_call toy 5 [] 12 ≡ stay 5 More
unfolding read_call scan
empty-piece = refl

-- An event between two calls on one buffer: the first call takes one message of two, and the byte that it leaves is offered again
offered-over-event : Offers toy 1 (byte 2 ∷ byte 7 ∷ byte 8 ∷ event shorter ∷ byte 0 ∷ [])
    (reading (2 ∷ 7 ∷ 8 ∷ 0 ∷ []) 12 ∷ happening shorter ∷ reading (0 ∷ []) 12 ∷ [])
unfolding Offers read_call scan bytes_in
offered-over-event = (inr ([], refl), event shorter ∷ byte 0 ∷ [], refl, (byte 0 ∷ [], refl, (inr ([], refl), [], refl, inl refl)))
