-- The rules at worked examples, by computation.
use Rattle.std.specs.Prelude.{ℕ, ◌^◌, ◌-◌, ◌≡◌, refl, List, [], ◌∷◌, ◌++◌, map, true, false, replicate, Err, Ok}
use Rattle.handshake.specs.declared.LineError.TheVariants as line
use Rattle.handshake.specs.declared.Hello.TheVariants as hello
use Rattle.handshake.specs.declared.Status.TheVariants as status
use Rattle.lists.specs.Lists.{eq_bytes}
use Rattle.handshake.specs.Bytes.{ascii, one_of, within, decimal_in, decimal, read_digits}
use Rattle.handshake.specs.Handshake.{name_ok, greeting, version20, version21, space, lf, spaced, sender_line, ended, hello_bytes, line_in, line_at, span, until_space, word, after_word, part_b, number_b, numbers_b, greets, judge_names, judge_numbers, judge_third, judge_lines, from_third, from_second, from_first, judge_hello, status_line, refusal_line, hello_reply, failure_lines, judge_four, judge_status}

-- `east` and `west`
abbrev east : List ℕ
east = ascii "east"

abbrev west : List ℕ
west = ascii "west"

-- the lines `HAProxyS 2.1`, `east`, `west 7 0`
abbrev listing : List ℕ
listing = ascii "HAProxyS 2.1\neast\nwest 7 0\n"

-- it is what `west` writes to `east`
listing-written : hello_bytes east west 7 0 ≡ listing
unfolding eq_bytes one_of within decimal_in decimal read_digits greeting version20 version21 space lf spaced sender_line ended hello_bytes line_in line_at span until_space word after_word part_b number_b numbers_b greets judge_names judge_numbers judge_third judge_lines from_third from_second from_first judge_hello
listing-written = refl

-- without its last LF it waits
listing-waits : judge_hello east west (ascii "HAProxyS 2.1\neast\nwest 7 0") ≡ hello.Waiting
unfolding eq_bytes one_of within decimal_in decimal read_digits greeting version20 version21 space lf spaced sender_line ended hello_bytes line_in line_at span until_space word after_word part_b number_b numbers_b greets judge_names judge_numbers judge_third judge_lines from_third from_second from_first judge_hello
listing-waits = refl

-- accepted are the listing's hello, one of version `2.0` with bytes after its third LF, and one with the largest number
hellos-accepted : map (judge_hello east west)
    (listing ∷ ascii "HAProxyS 2.0\neast\nwest 7 0\nzz" ∷ ascii "HAProxyS 2.1\neast\nwest 4294967295 0000000001\n" ∷ [])
    ≡ hello.Accepted 7 0 ∷ hello.Accepted 7 0 ∷ hello.Accepted 4294967295 1 ∷ []
unfolding eq_bytes one_of within decimal_in decimal read_digits greeting version20 version21 space lf spaced sender_line ended hello_bytes line_in line_at span until_space word after_word part_b number_b numbers_b greets judge_names judge_numbers judge_third judge_lines from_third from_second from_first judge_hello
hellos-accepted = refl

-- 10: no byte after the greeting's space; a number missing, also with another version; one more than the largest number; eleven digits; two
-- spaces; a 65th byte in the second line
hellos-malformed : map (judge_hello east west)
    (ascii "HAProxyS \neast\nwest 7 0\n"
    ∷ ascii "HAProxyS 3\neast\nwest 7\n"
    ∷ ascii "HAProxyS 2.1\neast\nwest 4294967296 0\n"
    ∷ ascii "HAProxyS 2.1\neast\nwest 1 00000000000\n"
    ∷ ascii "HAProxyS 2.1\neast\nwest 1  2\n"
    ∷ (10 ∷ replicate 65 7)
    ∷ [])
    ≡ replicate 6 (hello.Refused 10)
unfolding eq_bytes one_of within decimal_in decimal read_digits greeting version20 version21 space lf spaced sender_line ended hello_bytes line_in line_at span until_space word after_word part_b number_b numbers_b greets judge_names judge_numbers judge_third judge_lines from_third from_second from_first judge_hello
hellos-malformed = refl

-- 11: another version, also where the names are others; 12: both names are others; 13: the sender is another
hellos-refused : map (judge_hello east west)
    (ascii "HAProxyS 2.1\r\nes\nwe 7 0\n" ∷ ascii "HAProxyS 2.1\nes\nwe 7 0\n" ∷ ascii "HAProxyS 2.1\neast\nwe 7 0\n" ∷ [])
    ≡ hello.Refused 11 ∷ hello.Refused 12 ∷ hello.Refused 13 ∷ []
unfolding eq_bytes one_of within decimal_in decimal read_digits greeting version20 version21 space lf spaced sender_line ended hello_bytes line_in line_at span until_space word after_word part_b number_b numbers_b greets judge_names judge_numbers judge_third judge_lines from_third from_second from_first judge_hello
hellos-refused = refl

-- ---- 64 bytes and LF are a line; a 65th byte that is no LF shows the refusal
line-full : line_at (7 ∷ (replicate 64 7 ++ ascii "\n")) 1 ≡ Ok 65
unfolding line_in line_at
line-full = refl

line-open : line_at (replicate 64 7) 0 ≡ (Err line.Open)
unfolding line_in line_at
line-open = refl

line-over : line_at (replicate 65 7) 0 ≡ (Err line.TooLong)
unfolding line_in line_at
line-over = refl

-- ---- names
name-longest : name_ok (33 ∷ replicate 31 126) ≡ true
unfolding name_ok within
name-longest = refl

name-over : name_ok (replicate 33 65) ≡ false
unfolding name_ok within
name-over = refl

name-byte : name_ok (65 ∷ 127 ∷ []) ≡ false
unfolding name_ok within
name-byte = refl

-- ---- numbers
decimal-zero : decimal 0 ≡ ascii "0"
unfolding decimal_in decimal
decimal-zero = refl

decimal-largest : decimal (2 ^ 64 - 1) ≡ ascii "18446744073709551615"
unfolding decimal_in decimal
decimal-largest = refl

-- ---- statuses
statuses : map judge_status (ascii "200\n" ∷ ascii "200" ∷ ascii "300\n" ∷ ascii "504\n" ∷ ascii "999\n" ∷ ascii "2000" ∷ [])
    ≡ status.Accepted ∷ status.Waiting ∷ status.Refused 14 ∷ status.Refused 14 ∷ status.Refused 15 ∷ status.Refused 15 ∷ []
unfolding eq_bytes one_of decimal_in decimal lf status_line failure_lines judge_four judge_status
statuses = refl

reply-accepted : hello_reply (hello.Accepted 7 0) ≡ ascii "200\n"
unfolding decimal_in decimal lf status_line refusal_line hello_reply
reply-accepted = refl

reply-refused : hello_reply (hello.Refused 13) ≡ ascii "504\n"
unfolding decimal_in decimal lf status_line refusal_line hello_reply
reply-refused = refl
