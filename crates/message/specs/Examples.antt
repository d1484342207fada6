-- The definitions at document 01's listing, and a refusal with its offset.
use Rattle.std.specs.Prelude.{◌≡◌, ◌-◌, ◌^◌, List, [], ◌∷◌, refl}
use Rattle.lists.specs.Lists.{every, among}
use Rattle.wire.specs.Integer.{encode_int, read_int, read_first, with_later, later_bytes, before, weighted, fitting}
use Rattle.wire.specs.Number.{encode_number}
use Rattle.store.specs.declared.Table.{Table}
use Rattle.store.specs.Limits.{is_plain, plain_name, key_kind}
use Rattle.session.specs.declared.Connection.{Connection}
use Rattle.session.specs.declared.Answer.TheVariants as answer
use Rattle.body.specs.Fields.{tested, integer, between, integer_of, span_in, bytes}
use Rattle.body.specs.Bodies.{name_field, named_fields, is_key_type, shape_fields, rest_fields, definition_fields}
use Rattle.message.specs.Effects.{control_reply, acknowledge, following_id, refuse_with, failure_number, refuse_body, fields_then, definition}

-- "reply 0A850501FFFFFFFF", where request 2's `84` stands for `85`
acknowledged : acknowledge 1 (2 ^ 32 - 1) ≡ 0x0A ∷ 0x84 ∷ 0x05 ∷ 0x01 ∷ 0xFF ∷ 0xFF ∷ 0xFF ∷ 0xFF ∷ []
unfolding acknowledge encode_int encode_number
acknowledged = refl

-- "4294967295 is followed by 0"
following : following_id (2 ^ 32 - 1) ≡ 0
unfolding following_id
following = refl

-- "reply 0003"
finished : control_reply 1 ≡ 0x00 ∷ 0x03 ∷ []
unfolding control_reply
finished = refl

-- "refused 24 4": a definition of ID 1 and name `t1` whose key type, the byte at offset 4, is 3
broken : (c : Connection) (tables : List Table) → (definition c tables (0x01 ∷ 0x02 ∷ 0x74 ∷ 0x31 ∷ 0x03 ∷ [])).answer ≡ answer.RefusedAt 24 4
unfolding definition fields_then refuse_body refuse_with failure_number definition_fields rest_fields named_fields name_field plain_name is_plain every among span_in shape_fields is_key_type key_kind tested integer between integer_of bytes read_int read_first with_later later_bytes before weighted fitting
broken c tables = refl
