-- Hello and status: what document 01 says in "Opening and handshake", in its order.
use Rattle.std.specs.Prelude.{ℕ, zero, suc, ◌+◌, ◌-◌, List, [], ◌∷◌, ◌++◌, Bool, cond, ◌&&◌, ltb, leb, eqb, length, take, drop, None, Option, Some, Err, Ok, Result}
use Rattle.handshake.specs.declared.LineError.{LineError}
use Rattle.handshake.specs.declared.LineError.TheVariants as line
use Rattle.handshake.specs.declared.Hello.{Hello}
use Rattle.handshake.specs.declared.Hello.TheVariants as hello
use Rattle.handshake.specs.declared.Status.{Status}
use Rattle.handshake.specs.declared.Status.TheVariants as status
use Rattle.lists.specs.Lists.{eq_bytes}
use Rattle.handshake.specs.Bytes.{ascii, one_of, within, decimal, read_digits}

-- ---- names

-- "with our name and the one accepted peer's name, each 1 to 32 bytes from 33 to 126"
abbrev pub peer_name_max : ℕ
peer_name_max = 32

unfoldable pub name_ok : List ℕ → Bool
name_ok name = leb 1 (length name) && (leb (length name) peer_name_max && within 33 126 name)

-- ---- the hello

unfoldable pub greeting : List ℕ
greeting = ascii "HAProxyS "

unfoldable pub version20 : List ℕ
version20 = ascii "2.0"

unfoldable pub version21 : List ℕ
version21 = ascii "2.1"

-- the byte of a space, and of LF
abbrev pub space_byte : ℕ
space_byte = 32

abbrev pub is_space : ℕ → Bool
is_space b = eqb b space_byte

abbrev pub lf_byte : ℕ
lf_byte = 10

unfoldable pub space : List ℕ
space = ascii " "

unfoldable pub lf : List ℕ
lf = ascii "\n"

-- a space and a number
unfoldable pub spaced : ℕ → List ℕ
spaced n = space ++ decimal n

-- "the sender's name, process ID and relative process ID, single spaces between"
unfoldable pub sender_line : List ℕ → ℕ → ℕ → List ℕ
sender_line name process relative = name ++ (spaced process ++ spaced relative)

-- a line and its LF
unfoldable pub ended : List ℕ → List ℕ
ended s = s ++ lf

-- "The hello is three LF-ended lines: `HAProxyS 2.1`; the addressed peer's name; the sender's name, process ID and relative
-- process ID, single spaces between."
unfoldable pub hello_bytes : (remote local : List ℕ) (process relative : ℕ) → List ℕ
hello_bytes remote local process relative =
    ended (greeting ++ version21) ++ (ended remote ++ ended (sender_line local process relative))

-- ---- lines

-- the line whose next byte has position at, where s is what is there, and n bytes more may stand before its LF
unfoldable pub line_in : ℕ → ℕ → List ℕ → Result ℕ LineError
line_in zero at [] = (Err line.Open)
line_in zero at (b ∷ s) = cond (eqb b lf_byte) (Ok at) (Err line.TooLong)
line_in (suc n) at [] = (Err line.Open)
line_in (suc n) at (b ∷ s) = cond (eqb b lf_byte) (Ok at) (line_in n (at + 1) s)

-- "Reading a hello: a line has at most 64 bytes before its LF, and a 65th shows refusal 10 at once."
abbrev pub line_max : ℕ
line_max = 64

unfoldable pub line_at : List ℕ → ℕ → Result ℕ LineError
line_at u at = line_in line_max at (drop at u)

-- the bytes from a position up to another
unfoldable pub span : ℕ → ℕ → List ℕ → List ℕ
span from to u = take (to - from) (drop from u)

-- ---- the sender's line

-- the number of bytes before the first space, or of all where there is none
unfoldable pub until_space : List ℕ → ℕ
until_space [] = 0
until_space (b ∷ s) = cond (eqb b space_byte) 0 (suc (until_space s))

-- the bytes before the first space, and those after it
unfoldable pub word : List ℕ → List ℕ
word s = take (until_space s) s

unfoldable pub after_word : List ℕ → List ℕ
after_word s = drop (until_space s + 1) s

-- "a nonempty name without space" and a space after it
unfoldable pub part_b : List ℕ → Bool
part_b s = ltb 0 (until_space s) && ltb (until_space s) (length s)

unfoldable pub part_of : List ℕ → Option ℕ
part_of s = cond (part_b s) (Some (until_space s)) None

-- "numbers of 1 to 10 digits, each at most 4294967295"
unfoldable pub number_b : List ℕ → Bool
number_b s = leb 1 (length s) && (leb (length s) 10 && (within 48 57 s && leb (read_digits 0 s) 4294967295))

unfoldable pub number_of : List ℕ → Option ℕ
number_of s = cond (number_b s) (Some (read_digits 0 s)) None

-- "then two numbers of 1 to 10 digits": after the name
unfoldable pub numbers_b : List ℕ → Bool
numbers_b rest = part_b rest && (number_b (word rest) && number_b (after_word rest))

-- ---- judging a hello

-- "Refusal 11: the version is neither `2.0` nor `2.1`. 12: line 2 isn't our name. 13: the sender isn't the accepted peer.
-- Accepted"
unfoldable pub judge_names : (local remote version two name : List ℕ) (process relative : ℕ) → Hello
judge_names local remote version two name process relative =
    cond (one_of version (version20 ∷ version21 ∷ []))
    (cond (eq_bytes two local)
    (cond (eq_bytes name remote) (hello.Accepted process relative) (hello.Refused 13))
    (hello.Refused 12))
    (hello.Refused 11)

-- "Refusal 10: .. line 3 isn't a nonempty name without space, then two numbers": the rest after the name
unfoldable pub judge_numbers : (local remote version two name rest : List ℕ) → Hello
judge_numbers local remote version two name rest =
    cond (numbers_b rest)
    (judge_names local remote version two name (read_digits 0 (word rest)) (read_digits 0 (after_word rest)))
    (hello.Refused 10)

-- "line 3 isn't a nonempty name without space": the whole line
unfoldable pub judge_third : (local remote version two three : List ℕ) → Hello
judge_third local remote version two three =
    cond (part_b three) (judge_numbers local remote version two (word three) (after_word three)) (hello.Refused 10)

-- "`HAProxyS`, a space and at least one byte"
unfoldable pub greets : List ℕ → Bool
greets one = ltb 9 (length one) && eq_bytes (take 9 one) greeting

-- "The rest is judged at the third LF, in this order. Refusal 10: line 1 isn't `HAProxyS`, a space and at least one byte; line 2
-- is empty"
unfoldable pub judge_lines : (local remote one two three : List ℕ) → Hello
judge_lines local remote one two three =
    cond (greets one && ltb 0 (length two)) (judge_third local remote (drop 9 one) two three) (hello.Refused 10)

-- the third line, after the LFs at p and q
unfoldable pub from_third : (local remote u : List ℕ) → ℕ → ℕ → Result ℕ LineError → Hello
from_third local remote u p q (Ok e) = judge_lines local remote (take p u) (span (p + 1) q u) (span (q + 1) e u)
from_third local remote u p q (Err line.Open) = hello.Waiting
from_third local remote u p q (Err line.TooLong) = hello.Refused 10

-- the second line, after the LF at p
unfoldable pub from_second : (local remote u : List ℕ) → ℕ → Result ℕ LineError → Hello
from_second local remote u p (Ok q) = from_third local remote u p q (line_at u (q + 1))
from_second local remote u p (Err line.Open) = hello.Waiting
from_second local remote u p (Err line.TooLong) = hello.Refused 10

unfoldable pub from_first : (local remote u : List ℕ) → Result ℕ LineError → Hello
from_first local remote u (Ok p) = from_second local remote u p (line_at u (p + 1))
from_first local remote u (Err line.Open) = hello.Waiting
from_first local remote u (Err line.TooLong) = hello.Refused 10

-- what the bytes come to where a line lacks its end
abbrev pub hello_error : LineError → Hello
hello_error line.Open = hello.Waiting
hello_error line.TooLong = hello.Refused 10

-- what the bytes come to, whether the lines have their ends or not
abbrev pub either : Result Hello Hello → Hello
either (Ok h) = h
either (Err h) = h

-- "Reading a hello: .. The rest is judged at the third LF"
unfoldable pub judge_hello : (local remote u : List ℕ) → Hello
judge_hello local remote u = from_first local remote u (line_at u 0)

-- ---- status lines

unfoldable pub status_line : ℕ → List ℕ
status_line n = decimal n ++ lf

-- "10, 11, 12, 13 | hello as above | `501`, `502`, `503`, `504`, each with LF"
unfoldable pub refusal_line : ℕ → List ℕ
refusal_line n =
    cond (eqb n 10) (status_line 501)
    (cond (eqb n 11) (status_line 502)
    (cond (eqb n 12) (status_line 503)
    (cond (eqb n 13) (status_line 504) [])))

-- "Accepted: reply `200` LF."
unfoldable pub hello_reply : Hello → List ℕ
hello_reply hello.Waiting = []
hello_reply (hello.Accepted process relative) = status_line 200
hello_reply (hello.Refused n) = refusal_line n

-- ---- judging a status

-- "15 unless it is 200, 300, 501, 502, 503 or 504 and LF; then 14 unless 200"
unfoldable pub failure_lines : List (List ℕ)
failure_lines = status_line 300 ∷ status_line 501 ∷ status_line 502 ∷ status_line 503 ∷ status_line 504 ∷ []

unfoldable pub judge_four : List ℕ → Status
judge_four four =
    cond (one_of four (status_line 200 ∷ failure_lines))
    (cond (eq_bytes four (status_line 200)) status.Accepted (status.Refused 14))
    (status.Refused 15)

-- "A status is judged at its fourth byte"
unfoldable pub judge_status : List ℕ → Status
judge_status u = cond (ltb (length u) 4) status.Waiting (judge_four (take 4 u))
