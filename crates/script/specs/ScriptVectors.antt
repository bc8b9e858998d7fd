-- Lines and what they are, computed: each call, each kind of word that cannot be taken, and remarks, as tables.
use Rattle.std.specs.Prelude.{ℕ, ◌<◌, ◌≡◌, refl, List, [], ◌∷◌, map, length, replicate}
use Rattle.std.proofs.Common.{arith}
use Rattle.std.proofs.lemmas.List.{length-replicate}
use Rattle.memory.specs.Octets.{same}
use Rattle.text.specs.Text.{ascii}
use Rattle.script.specs.Script.{words, digits_from, is_plain, number, number_up_to, hex_value, all_hex, is_bytes, pairs, bytes, hex_from, session, Call, start, enrol, feed, close, finish, show, table, Line, remark, call, wrong, long, table_of, start_of, enrol_of, feed_of, close_of, finish_of, called, is_remark, parse}
use Rattle.script.specs.CallLaws.{parse-long}

-- a line and what it is
record Row : Type 0 where
  line : List ℕ
  is : Line

abbrev tried : Row → Row
tried r = record { line = r.line; is = parse r.line }

-- ---- right lines

abbrev row : List ℕ → Call → Row
row l c = record { line = l; is = call c }

abbrev rows : List Row
rows =
    row (ascii "start 00fFa9") (start (0 ∷ 255 ∷ 169 ∷ []) 14400)
    ∷ row (ascii "start - 0") (start [] 0)
    ∷ row (ascii "start 41 16384") (start (65 ∷ []) 16384)
    ∷ row (ascii "enrol 0 0") (enrol 0 0 14400)
    ∷ row (ascii "enrol 255 65535 14399") (enrol 255 65535 14399)
    ∷ row (ascii "feed 3 8192 c0") (feed 3 8192 (192 ∷ []) 14400)
    ∷ row (ascii "feed 255 0 - 10") (feed 255 0 [] 10)
    ∷ row (ascii "close 0") (close 0)
    ∷ row (ascii "close 255") (close 255)
    ∷ row (ascii "finish fFfF 8192") (finish 65535 8192)
    ∷ row (ascii "finish 0102 0") (finish 258 0)
    ∷ row (ascii "finish 1000 0") (finish 4096 0)
    ∷ row (ascii "show") show
    ∷ row (ascii "table") table
    ∷ []

rows_hold : map tried rows ≡ rows
unfolding words ascii same digits_from is_plain number number_up_to hex_value all_hex is_bytes pairs bytes hex_from session table_of start_of enrol_of feed_of close_of finish_of called is_remark parse
rows_hold = refl

-- ---- bad lines: a line, and the number of its first word that cannot be taken

abbrev bad : ℕ → List ℕ → Row
bad w l = record { line = l; is = wrong w }

-- another call word; a CR, a tab, a leading space and a capital in it
abbrev calls : List Row
calls =
    bad 1 (ascii "stop") ∷ bad 1 (ascii "shows") ∷ bad 1 (ascii "sho") ∷ bad 1 (ascii "start00") ∷ bad 1 (ascii "-") ∷ bad 1 (ascii "stop 1 2")
    ∷ bad 1 (ascii "show\r") ∷ bad 1 (ascii "\rshow") ∷ bad 1 (ascii "close\t1") ∷ bad 1 (ascii "\tshow")
    ∷ bad 1 (ascii " show") ∷ bad 1 (ascii " close 1") ∷ bad 1 (ascii " ") ∷ bad 1 (ascii " #")
    ∷ bad 1 (ascii "Show") ∷ bad 1 (ascii "STart -") ∷ bad 1 (ascii "feeD 0 1 -")
    ∷ []

-- a word is missing, there is one too many, or an empty one
abbrev counts : List Row
counts =
    bad 2 (ascii "start") ∷ bad 2 (ascii "enrol") ∷ bad 3 (ascii "enrol 1") ∷ bad 2 (ascii "feed") ∷ bad 3 (ascii "feed 0") ∷ bad 4 (ascii "feed 0 512")
    ∷ bad 2 (ascii "close") ∷ bad 2 (ascii "finish") ∷ bad 3 (ascii "finish 0001")
    ∷ bad 4 (ascii "start 00 1 2") ∷ bad 5 (ascii "enrol 1 2 3 4") ∷ bad 6 (ascii "feed 0 1 - 2 3") ∷ bad 3 (ascii "close 1 2") ∷ bad 4 (ascii "finish 0001 2 3")
    ∷ bad 2 (ascii "show 1") ∷ bad 2 (ascii "table 1") ∷ bad 2 (ascii "show 1 2")
    ∷ bad 2 (ascii "show ") ∷ bad 3 (ascii "close 1 ") ∷ bad 2 (ascii "start ") ∷ bad 3 (ascii "start - ") ∷ bad 4 (ascii "start - 1 ") ∷ bad 4 (ascii "enrol 1 2 ")
    ∷ bad 2 (ascii "close  1") ∷ bad 3 (ascii "start -  1") ∷ bad 4 (ascii "feed 0 1  -") ∷ bad 3 (ascii "enrol 1  2")
    ∷ []

-- a number: out of its range, with a leading zero or a sign, of six digits, with something else
abbrev numbers : List Row
numbers =
    bad 3 (ascii "start - 16385") ∷ bad 2 (ascii "enrol 256 0") ∷ bad 3 (ascii "enrol 0 65536") ∷ bad 4 (ascii "enrol 0 0 16385") ∷ bad 2 (ascii "feed 256 0 -")
    ∷ bad 3 (ascii "feed 0 8193 -") ∷ bad 5 (ascii "feed 0 0 - 16385") ∷ bad 2 (ascii "close 256") ∷ bad 3 (ascii "finish 0000 8193")
    ∷ bad 2 (ascii "close 01") ∷ bad 2 (ascii "close 00") ∷ bad 3 (ascii "start - 014400") ∷ bad 3 (ascii "finish 0000 00")
    ∷ bad 2 (ascii "close -1") ∷ bad 2 (ascii "close +1") ∷ bad 2 (ascii "close -") ∷ bad 3 (ascii "start - -")
    ∷ bad 2 (ascii "close 100000") ∷ bad 2 (ascii "close 000001")
    ∷ bad 2 (ascii "close a") ∷ bad 2 (ascii "close 1a") ∷ bad 2 (ascii "close 0x1") ∷ bad 2 (ascii "close 1,") ∷ bad 2 (ascii "close :") ∷ bad 2 (ascii "close /")
    ∷ bad 2 (ascii "close 1\r") ∷ bad 2 (ascii "close 1\t") ∷ bad 2 (ascii "close 256 1 2")
    ∷ []

-- bytes and sessions: not as many digits, or none
abbrev digits : List Row
digits =
    bad 2 (ascii "start 0") ∷ bad 2 (ascii "start 012") ∷ bad 4 (ascii "feed 0 1 abc") ∷ bad 4 (ascii "feed 0 1 0g 99999")
    ∷ bad 2 (ascii "start 0g") ∷ bad 2 (ascii "start 0G") ∷ bad 2 (ascii "start g0") ∷ bad 2 (ascii "start 0x00") ∷ bad 2 (ascii "start --") ∷ bad 2 (ascii "start -00")
    ∷ bad 2 (ascii "start :0") ∷ bad 2 (ascii "start /0") ∷ bad 2 (ascii "start @0") ∷ bad 2 (ascii "start `0")
    ∷ bad 2 (ascii "finish 1 0") ∷ bad 2 (ascii "finish 001 0") ∷ bad 2 (ascii "finish 00001 0") ∷ bad 2 (ascii "finish 65535 0") ∷ bad 2 (ascii "finish 000g 0")
    ∷ bad 2 (ascii "finish g000 0") ∷ bad 2 (ascii "finish - 0")
    ∷ []

calls_hold : map tried calls ≡ calls
unfolding words ascii same digits_from is_plain number number_up_to hex_value all_hex is_bytes pairs bytes hex_from session table_of start_of enrol_of feed_of close_of finish_of called is_remark parse
calls_hold = refl

counts_hold : map tried counts ≡ counts
unfolding words ascii same digits_from is_plain number number_up_to hex_value all_hex is_bytes pairs bytes hex_from session table_of start_of enrol_of feed_of close_of finish_of called is_remark parse
counts_hold = refl

numbers_hold : map tried numbers ≡ numbers
unfolding words ascii same digits_from is_plain number number_up_to hex_value all_hex is_bytes pairs bytes hex_from session table_of start_of enrol_of feed_of close_of finish_of called is_remark parse
numbers_hold = refl

digits_hold : map tried digits ≡ digits
unfolding words ascii same digits_from is_plain number number_up_to hex_value all_hex is_bytes pairs bytes hex_from session table_of start_of enrol_of feed_of close_of finish_of called is_remark parse
digits_hold = refl

-- ---- remarks, and a line of 40001 bytes, which is none

remarks : map parse (ascii "" ∷ ascii "#" ∷ ascii "# show" ∷ ascii "#show 1\r" ∷ []) ≡ remark ∷ remark ∷ remark ∷ remark ∷ []
unfolding ascii is_remark parse
remarks = refl

too_long_vector : parse (replicate 40001 35) ≡ long
too_long_vector =
    let more : 40000 < length {A = ℕ} (replicate 40001 35) = rw (length-replicate {A = ℕ} 40001 35) (omega arith) in
    parse-long (replicate 40001 35) more
