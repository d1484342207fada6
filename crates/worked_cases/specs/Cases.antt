-- "Cases on each side", those marked P: one table, one claim.
use Rattle.std.specs.Prelude.{ℕ, ◌^◌, ◌-◌, List, [], ◌∷◌, ◌++◌, map, Bool, true, false, ◌&&◌, length, replicate, eqb, ℤ, pos, negsuc, Err, Ok, Result}
use Rattle.lists.specs.Lists.{eq_bytes}
use Rattle.wire.specs.declared.IntError.{IntError}
use Rattle.wire.specs.declared.values.FieldError.{FieldError}
use Rattle.wire.specs.declared.IntError.TheVariants as int
use Rattle.wire.specs.declared.values.FieldError.TheVariants as server
use Rattle.wire.specs.Integer.{encode_int, read_int}
use Rattle.wire.specs.Server.{server_word, read_server_id}
use Rattle.handshake.specs.Bytes.{ascii}
use Rattle.store.specs.Store.{empty_store}
use Rattle.session.specs.declared.Answer.{Answer}
use Rattle.session.specs.Answers.{answer_number}
use Rattle.opening.specs.Opening.{answerer, opened}
use Rattle.streams.specs.Model.{Ended, bytes}
use Rattle.receiver.specs.Demand3.{model_ran}

-- a case: a value's encoding; bytes that overflow; a server ID's encoding; a stream after the hello, with the numbers of its answers and its
-- last reply
pub data Case : Type 0 where
  integer : ℕ → List ℕ → Case
  overflow : List ℕ → Case
  server_id : ℤ → List ℕ → Case
  stream : List ℕ → List ℕ → List ℕ → Case

unfoldable pub hello : List ℕ
hello = ascii "HAProxyS 2.1\neast\nwest 7 0\n"

unfoldable pub east : List ℕ
east = ascii "east"

unfoldable pub west : List ℕ
west = ascii "west"

-- the byte model of a new session as answerer `east`, accepting `west`, with an empty store, fed the hello and then these bytes
unfoldable pub after_hello : List ℕ → List (Ended Answer)
after_hello rest = (model_ran (opened answerer east west) empty_store (bytes (hello ++ rest))).ended

unfoldable pub is_value : ℕ → ℕ → Result (ℕ × ℕ) IntError → Bool
is_value v next (Ok (w, n)) = eqb v w && eqb next n
is_value v next (Err (int.Short looked)) = false
is_value v next (Err (int.Overflow looked)) = false

unfoldable pub is_overflow : Result (ℕ × ℕ) IntError → Bool
is_overflow (Ok (w, n)) = false
is_overflow (Err (int.Short looked)) = false
is_overflow (Err (int.Overflow looked)) = true

abbrev same_integer : ℤ → ℤ → Bool
same_integer (pos m) (pos n) = eqb m n
same_integer (pos m) (negsuc n) = false
same_integer (negsuc m) (pos n) = false
same_integer (negsuc m) (negsuc n) = eqb m n

unfoldable pub is_server : ℤ → ℕ → Result (ℤ × ℕ) FieldError → Bool
is_server id next (Ok (k, n)) = same_integer id k && eqb next n
is_server id next (Err server.Short) = false
is_server id next (Err server.OutOfRange) = false

unfoldable pub last_reply : List (Ended Answer) → List ℕ
last_reply [] = []
last_reply (e ∷ []) = e.reply
last_reply (e ∷ f ∷ es) = last_reply (f ∷ es)

unfoldable pub holds : Case → Bool
holds (integer v bytes) = eq_bytes (encode_int v) bytes && is_value v (length bytes) (read_int bytes 0)
holds (overflow bytes) = is_overflow (read_int bytes 0)
holds (server_id id bytes) = eq_bytes (encode_int (server_word id)) bytes && is_server id (length bytes) (read_server_id bytes 0)
holds (stream bytes numbers reply) =
    eq_bytes (map (λ (e : Ended Answer). answer_number e.answer) (after_hello bytes)) numbers
    && eq_bytes (last_reply (after_hello bytes)) reply

abbrev accepted : List ℕ
accepted = ascii "200\n"

abbrev protocol_error : List ℕ
protocol_error = 0x01 ∷ 0x00 ∷ []

abbrev size_limit : List ℕ
size_limit = 0x01 ∷ 0x01 ∷ []

unfoldable pub cases : List Case
cases =
    integer 239 (0xEF ∷ [])
    ∷ integer 240 (0xF0 ∷ 0x00 ∷ [])
    ∷ integer 2287 (0xFF ∷ 0x7F ∷ [])
    ∷ integer 2288 (0xF0 ∷ 0x80 ∷ 0x00 ∷ [])
    ∷ integer 4660 (0xF4 ∷ 0x94 ∷ 0x01 ∷ [])
    ∷ integer 60000 (0xF0 ∷ 0x97 ∷ 0x1C ∷ [])
    ∷ integer (2 ^ 64 - 1) (0xFF ∷ 0xF0 ∷ 0xFE ∷ 0xFE ∷ 0xFE ∷ 0xFE ∷ 0xFE ∷ 0xFE ∷ 0xFE ∷ 0x0E ∷ [])
    ∷ server_id (negsuc 0) (0xFF ∷ 0xF0 ∷ 0xFE ∷ 0xFE ∷ 0xFE ∷ 0xFE ∷ 0xFE ∷ 0xFE ∷ 0xFE ∷ 0x0E ∷ [])
    ∷ overflow (0xF0 ∷ 0xF1 ∷ 0xFE ∷ 0xFE ∷ 0xFE ∷ 0xFE ∷ 0xFE ∷ 0xFE ∷ 0xFE ∷ 0x0E ∷ [])
    -- a message of a type that is skipped is accepted
    ∷ stream (0x0A ∷ 0xFF ∷ 0xF0 ∷ 0x31 ∷ replicate 1023 0) (257 ∷ []) accepted
    ∷ stream (0x0A ∷ 0xFF ∷ 0xF0 ∷ 0x31 ∷ replicate 1024 0) (257 ∷ 269 ∷ []) []
    ∷ stream (0x0A ∷ 0x80 ∷ 0xF1 ∷ 0x31 ∷ []) (257 ∷ 22 ∷ []) size_limit
    ∷ stream (0x00 ∷ 0x05 ∷ []) (257 ∷ 20 ∷ []) protocol_error
    ∷ stream (0x0A ∷ 0x80 ∷ 0x00 ∷ []) (257 ∷ 27 ∷ []) protocol_error
    ∷ []
