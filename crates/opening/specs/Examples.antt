-- Opening at worked examples.
use Rattle.std.specs.Prelude.{ℕ, ◌≡◌, refl, true, List, [], ◌∷◌, replicate}
use Rattle.lists.specs.Lists.{all_of, every, pad_to}
use Rattle.store.specs.Store.{empty_store}
use Rattle.handshake.specs.Bytes.{ascii, within}
use Rattle.handshake.specs.Handshake.{name_ok}
use Rattle.session.specs.declared.Answer.{Answer}
use Rattle.session.specs.declared.Answer.TheVariants as answer
use Rattle.session.specs.Session.{no_binding, holding, nothing_sent}
use Rattle.session_soundness.specs.Sound.{refuses_opening, empty_binding, empty_buffer, sent_nothing, is_refused_opening, sound_session}
use Rattle.opening.specs.Opening.{answerer, new_connection, refused_opening, «open»}

-- `east` and `west`
abbrev east : List ℕ
east = ascii "east"

abbrev west : List ℕ
west = ascii "west"

-- the answers of an answerer with a name of our own and so much room
abbrev answered : List ℕ → ℕ → Answer
answered local room = («open» answerer local west room).answer

rooms : answered east 100 ∷ answered east 101 ∷ [] ≡ answer.Refused 1 ∷ answer.More ∷ []
unfolding «open» name_ok within
rooms = refl

-- none, 32 and 33 bytes; bytes 32, 33, 126 and 127
names : answered [] 101
    ∷ answered (replicate 32 97) 101
    ∷ answered (replicate 33 97) 101
    ∷ answered (32 ∷ []) 101
    ∷ answered (33 ∷ []) 101
    ∷ answered (126 ∷ []) 101
    ∷ answered (127 ∷ []) 101
    ∷ []
    ≡ answer.Refused 3 ∷ answer.More ∷ answer.Refused 3 ∷ answer.Refused 3 ∷ answer.More ∷ answer.More ∷ answer.Refused 3 ∷ []
unfolding «open» name_ok within
names = refl

-- 1 comes before 3
order : answered [] 100 ≡ answer.Refused 1
unfolding «open»
order = refl

-- the closed record of a refusal counts as sound
refused : sound_session empty_store.tables (refused_opening 1) ∷ sound_session empty_store.tables (refused_opening 3) ∷ [] ≡ true ∷ true ∷ []
unfolding sound_session is_refused_opening refused_opening new_connection holding nothing_sent refuses_opening all_of every pad_to empty_binding empty_buffer sent_nothing no_binding
refused = refl
