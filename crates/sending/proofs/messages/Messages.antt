-- A message put at the front of a room: header, length and body one after the other.
use Rattle.std.proofs.Common.{◌≡◌, ℕ, ◌^◌, ◌<◌, ◌≤◌, List, [], ◌∷◌, length, take, replicate, refl, ap, ◌∙◌, arith, rules}
use Rattle.lists.proofs.Bytes.{front-take}
use Rattle.lists.proofs.Prefix.{prefix-length}
use Rattle.wire.specs.Integer.{encode_int}
use Rattle.wire.specs.Room.{reached, Wrote}
use Rattle.wire.specs.declared.writer.Writer.{Writer}
use Rattle.wire.specs.Writing.{Writes}
use Rattle.wire.proofs.buffer.Reach.{retold, wrote-front, wrote-long}
use Rattle.wire.proofs.Writing.{writes-joined}
use Rattle.frame.specs.Frame.{definition_type}
use Rattle.store.specs.declared.Table.{Table}
use Rattle.store.specs.declared.Entry.{Entry}
use Rattle.store.specs.Shape.{TableShape, EntryShape}
use Rattle.body.specs.declared.update.Form.{Form}
use Rattle.body.specs.Encodings.{message_bytes, definition_bytes, update_bytes}
use Rattle.body.proofs.Longest.{definitions-fit, updates-fit}
use Rattle.sending.specs.Sending.{type_of}

-- ---- a message
pub message_put : {t u v w : Writer} (kind : ℕ) (body : List ℕ) → Writes (10 ∷ kind ∷ []) t u → Writes (encode_int (length body)) u v → Writes body v w
    → Writes (message_bytes kind body) t w
unfolding message_bytes
message_put kind body p q r = writes-joined (writes-joined p q) r

-- ---- a body, put into room of 424 zeros

abbrev zeroed : List ℕ
zeroed = replicate 424 0

zeros : length zeroed ≡ 424
zeros = refl

module _ {bytes body : List ℕ} {len : ℕ} (w : Wrote zeroed 0 bytes body len) where
  most : len ≤ 424
  unfolding reached
  most = let e = w.position in omega (arith, e, zeros)

  pub body-within : length body ≡ 424 → len ≤ length body
  body-within e = omega (arith, most, e)

  pub body-counted : length body ≡ 424 → len ≡ length (take len body)
  body-counted e = prefix-length body len 424 e most

  -- all of it is there, where it is no longer
  pub body-whole : length bytes ≤ 424 → take len body ≡ bytes
  body-whole h =
      let fits : length bytes ≤ length zeroed = omega (arith, h, zeros) in
      ap (λ (n : ℕ). take n body) (wrote-long w fits) ∙ ap (take (length bytes)) (wrote-front w fits) ∙ front-take bytes zeroed

module _ {body room x : List ℕ} {len k : ℕ} where
  pub definition-put : (id : ℕ) (t : Table) → id < 2 ^ 32 → TableShape t → Wrote zeroed 0 (definition_bytes id t) body len
      → Wrote room 0 (message_bytes definition_type (take len body)) x k → Wrote room 0 (message_bytes definition_type (definition_bytes id t)) x k
  definition-put id t small shape w v =
      retold (ap (message_bytes definition_type) (body-whole w (omega (arith, definitions-fit id t small shape)))) v

  pub update-put : (form : Form) (t : Table) (id : ℕ) (e : Entry) (kind : ℕ) → kind ≡ type_of form → EntryShape e
      → Wrote zeroed 0 (update_bytes form t id e) body len → Wrote room 0 (message_bytes kind (take len body)) x k
      → Wrote room 0 (message_bytes (type_of form) (update_bytes form t id e)) x k
  update-put form t id e kind q shape w v =
      retold (ap (λ (n : ℕ). message_bytes n (take len body)) q ∙ ap (message_bytes (type_of form)) (body-whole w (omega (arith, updates-fit form t id e shape)))) v

pub ruleset putting-body = (rules, body-within, body-counted)
