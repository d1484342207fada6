-- The acknowledgement of an update: its bytes, at most twelve, and the code that writes it.
use Rattle.std.proofs.Common.{◌≡◌, ℕ, ◌+◌, ◌-◌, ◌^◌, ◌<◌, ◌≤◌, List, [], ◌∷◌, ◌++◌, length, take, drop, replicate, sym, ap, ◌∙◌, arith, length-append, drop-drop, drop_at, w8, w64, Fits, rules}
use lib.ListN.{length-replicate, replicate-append-replicate}
use Rattle.lists.specs.Lists.{pad_to}
use Rattle.lists.proofs.Bytes.{pad-fits}
use Rattle.wire.specs.Integer.{encode_int, encoded_int, smallest}
use Rattle.wire.specs.Number.{encode_number}
use Rattle.lists.specs.Lists.{overlay}
use Rattle.wire.specs.Room.{put_room}
use Rattle.wire.proofs.Write.{int_alone}
use Rattle.wire.proofs.Sizes.{shorter}
use Rattle.wire.proofs.Numbers.{number-length}
use Rattle.lists.specs.declared.inline.Bytes.{Bytes}
use Rattle.session.specs.Answers.{reply_of}
use Rattle.message.specs.Effects.{acknowledge}

-- "the table's bound ID and this update's ID"
abbrev both : ℕ → ℕ → List ℕ
both id update = encode_int id ++ encode_number update

-- an ID has at most five bytes
id-few : (id : ℕ) → id < 2 ^ 32 → length (encode_int id) ≤ 5
unfolding smallest
id-few id l = shorter id 5 (omega arith) (omega arith)

both-length : (id update : ℕ) → length (both id update) ≡ 4 + length (encode_int id)
both-length id update = omega (arith, length-append (encode_int id) (encode_number update), number-length update)

-- so that the length of both is one byte
pub acknowledge-bytes : (id update : ℕ) → id < 2 ^ 32
    → acknowledge id update ≡ 0x0A ∷ 0x84 ∷ (4 + length (encode_int id)) ∷ (encode_int id ++ encode_number update)
unfolding acknowledge
acknowledge-bytes id update l =
    let h : length (both id update) < 240 = omega (arith, both-length id update, id-few id l) in
    rw (int_alone (length (both id update)) h, both-length id update)

-- at most twelve bytes
pub acknowledge-short : (id update : ℕ) → id < 2 ^ 32 → length (acknowledge id update) ≤ 12
acknowledge-short id update l = rw (acknowledge-bytes id update l) (omega (arith, both-length id update, id-few id l))

-- ---- the room that the code needs
pub room-int : (id : ℕ) → id < 2 ^ 32 → {a b d : ℕ} {r e : List ℕ} → r ≡ a ∷ b ∷ d ∷ [] → e ≡ encode_int id → length r + length e ≤ 8
room-int id l p q = rw (p, q) (omega (arith, id-few id l))
