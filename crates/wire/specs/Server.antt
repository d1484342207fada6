-- The server ID: "Type 0, the server ID, is signed 32-bit: a negative one is encoded as its value plus 2^64."
use Rattle.std.specs.Prelude.{ℕ, ◌-◌, ◌^◌, List, cond, ltb, ℤ, pos, negsuc, nat_abs, ◌+ℤ◌, ◌-ℤ◌, Err, None, Ok, Option, Result, Some}
use Rattle.wire.specs.declared.IntError.{IntError}
use Rattle.wire.specs.declared.values.FieldError.{FieldError}
use Rattle.wire.specs.declared.values.FieldError.TheVariants as server
use Rattle.wire.specs.Integer.{read_int}
use Rattle.wire.specs.Value.{field_error}

-- The word of an ID: ".. a negative one is encoded as its value plus 2^64."
unfoldable pub server_word : ℤ → ℕ
server_word (pos n) = n
server_word (negsuc n) = nat_abs (negsuc n +ℤ pos (2 ^ 64))

-- The ID of a word: below 2^31 the word itself, from 2^64 - 2^31 on the word less 2^64; no signed 32-bit number has a word between.
unfoldable pub server_id_of : ℕ → Option ℤ
server_id_of v =
    cond (ltb v (2 ^ 31)) (Some (pos v))
    (cond (ltb v (2 ^ 64 - 2 ^ 31)) None (Some (pos v -ℤ pos (2 ^ 64))))

-- A server ID that ends before position `next`.
unfoldable pub server_before : ℕ → Option ℤ → Result (ℤ × ℕ) FieldError
server_before next (Some id) = Ok (id, next)
server_before next None = (Err server.OutOfRange)

-- The server ID of an encoded integer. Out of range: it overflows or is no ID's word.
unfoldable pub server_of : Result (ℕ × ℕ) IntError → Result (ℤ × ℕ) FieldError
server_of (Ok (v, next)) = server_before next (server_id_of v)
server_of (Err e) = Err (field_error e)

unfoldable pub read_server_id : List ℕ → ℕ → Result (ℤ × ℕ) FieldError
read_server_id s at = server_of (read_int s at)
