-- A line of the script (docs/REPLAY.md), the bytes between two LFs: a remark, a call, or the number of its first word that cannot be taken.
use Rattle.std.specs.Prelude.{ℕ, ◌+◌, ◌*◌, ◌-◌, ◌%◌, List, [], ◌∷◌, Bool, true, false, cond, not, ◌&&◌, ◌||◌, length, get_or, leb, ltb, eqb, Option, Some, None}
use Rattle.memory.specs.Octets.{same}
use Rattle.nodes.specs.Table.{table_size}
use Rattle.text.specs.Text.{ascii}

-- ---- the format's numbers

-- no line has more bytes
abbrev pub longest : ℕ
longest = 40000

-- TABLE: the whole buffer, and what is lent without the word
abbrev pub table_most : ℕ
table_most = 16384

abbrev pub table_right : ℕ
table_right = table_size

abbrev pub room_most : ℕ
room_most = 8192

-- LINE and NODE
abbrev pub byte_most : ℕ
byte_most = 255

-- TYPE
abbrev pub pair_most : ℕ
pair_most = 65535

-- no number has more digits
abbrev pub digits_most : ℕ
digits_most = 5

-- ---- words

abbrev pub space : ℕ
space = 32

-- a byte before the first of some words
abbrev pub before : ℕ → List (List ℕ) → List (List ℕ)
before b [] = (b ∷ []) ∷ []
before b (w ∷ ws) = (b ∷ w) ∷ ws

-- a line is cut at each space: a leading, a trailing or a doubled one gives an empty word, which is of no kind
unfoldable pub words : List ℕ → List (List ℕ)
words [] = [] ∷ []
words (b ∷ bs) = cond (eqb b space) ([] ∷ words bs) (before b (words bs))

-- the first word of some; a missing one is as an empty one
abbrev pub first : List (List ℕ) → List ℕ
first [] = []
first (w ∷ ws) = w

abbrev pub rest : List (List ℕ) → List (List ℕ)
rest [] = []
rest (w ∷ ws) = ws

-- no word is left
abbrev pub ended : List (List ℕ) → Bool
ended [] = true
ended (w ∷ ws) = false

abbrev pub between : ℕ → ℕ → ℕ → Bool
between low high b = leb low b && leb b high

-- ---- numbers

-- the value of decimal digits, 0 to 9, behind others of the value v
unfoldable pub digits_from : ℕ → List ℕ → Option ℕ
digits_from v [] = Some v
digits_from v (d ∷ ds) = cond (between 48 57 d) (digits_from (v * 10 + (d - 48)) ds) None

-- a zero before others
abbrev pub leading_zero : List ℕ → Bool
leading_zero w = ltb 1 (length w) && eqb (get_or w 0 0) 48

-- one to five bytes, and no leading zero
unfoldable pub is_plain : List ℕ → Bool
is_plain w = ltb 0 (length w) && leb (length w) digits_most && not (leading_zero w)

-- decimal, without sign or leading zeros
unfoldable pub number : List ℕ → Option ℕ
number w = cond (is_plain w) (digits_from 0 w) None

abbrev pub kept : ℕ → Option ℕ → Option ℕ
kept most None = None
kept most (Some n) = cond (leb n most) (Some n) None

-- a number out of its range is none
unfoldable pub number_up_to : ℕ → List ℕ → Option ℕ
number_up_to most w = kept most (number w)

-- ---- bytes

-- the value of a hexadecimal digit in either case, 0 to 9, A to F, a to f; 16 for what is none
unfoldable pub hex_value : ℕ → ℕ
hex_value b =
    cond (between 48 57 b) (b - 48)
    (cond (between 65 70 b) (b - 65 + 10)
    (cond (between 97 102 b) (b - 97 + 10) 16))

unfoldable pub all_hex : List ℕ → Bool
all_hex [] = true
all_hex (b ∷ bs) = ltb (hex_value b) 16 && all_hex bs

abbrev pub is_even : ℕ → Bool
is_even n = eqb (n % 2) 0

-- pairs of digits, or `-` for no bytes
unfoldable pub is_bytes : List ℕ → Bool
is_bytes w = same w (ascii "-") || (ltb 0 (length w) && is_even (length w) && all_hex w)

-- the high digit first
unfoldable pub pairs : List ℕ → List ℕ
pairs [] = []
pairs (h ∷ []) = []
pairs (h ∷ l ∷ bs) = (hex_value h * 16 + hex_value l) ∷ pairs bs

unfoldable pub bytes : List ℕ → Option (List ℕ)
bytes w = cond (is_bytes w) (Some (pairs w)) None

-- ---- sessions

-- the number of hexadecimal digits behind others of the value v
unfoldable pub hex_from : ℕ → List ℕ → ℕ
hex_from v [] = v
hex_from v (d ∷ ds) = hex_from (v * 16 + hex_value d) ds

-- exactly four digits
unfoldable pub session : List ℕ → Option ℕ
session w = cond (eqb (length w) 4 && all_hex w) (Some (hex_from 0 w)) None

-- ---- calls

pub data Call : Type 0 where
  start : List ℕ → ℕ → Call
  enrol : ℕ → ℕ → ℕ → Call
  feed : ℕ → ℕ → List ℕ → ℕ → Call
  close : ℕ → Call
  finish : ℕ → ℕ → Call
  show : Call
  table : Call

-- what a line is: no call, a call, one that has `wrong` as its first word that cannot be taken, or one of too many bytes
pub data Line : Type 0 where
  remark : Line
  call : Call → Line
  wrong : ℕ → Line
  long : Line

-- [TABLE]: without the word, the right length
unfoldable pub table_of : List (List ℕ) → Option ℕ
table_of [] = Some table_right
table_of (w ∷ ws) = number_up_to table_most w

-- the words of each call, left to right: what each is taken for, if it can be, and whether none is left
abbrev pub starts : Option (List ℕ) → Option ℕ → Bool → Line
starts None t e = wrong 2
starts (Some bs) None e = wrong 3
starts (Some bs) (Some t) false = wrong 4
starts (Some bs) (Some t) true = call (start bs t)

abbrev pub enrols : Option ℕ → Option ℕ → Option ℕ → Bool → Line
enrols None k t e = wrong 2
enrols (Some n) None t e = wrong 3
enrols (Some n) (Some k) None e = wrong 4
enrols (Some n) (Some k) (Some t) false = wrong 5
enrols (Some n) (Some k) (Some t) true = call (enrol n k t)

abbrev pub feeds : Option ℕ → Option ℕ → Option (List ℕ) → Option ℕ → Bool → Line
feeds None r b t e = wrong 2
feeds (Some l) None b t e = wrong 3
feeds (Some l) (Some r) None t e = wrong 4
feeds (Some l) (Some r) (Some bs) None e = wrong 5
feeds (Some l) (Some r) (Some bs) (Some t) false = wrong 6
feeds (Some l) (Some r) (Some bs) (Some t) true = call (feed l r bs t)

abbrev pub closes : Option ℕ → Bool → Line
closes None e = wrong 2
closes (Some l) false = wrong 3
closes (Some l) true = call (close l)

abbrev pub finishes : Option ℕ → Option ℕ → Bool → Line
finishes None r e = wrong 2
finishes (Some s) None e = wrong 3
finishes (Some s) (Some r) false = wrong 4
finishes (Some s) (Some r) true = call (finish s r)

abbrev pub alone : Call → Bool → Line
alone c false = wrong 2
alone c true = call c

-- start BYTES [TABLE]
unfoldable pub start_of : List (List ℕ) → Line
start_of ws = starts (bytes (first ws)) (table_of (rest ws)) (ended (rest (rest ws)))

-- enrol NODE TYPE [TABLE]
unfoldable pub enrol_of : List (List ℕ) → Line
enrol_of ws = enrols (number_up_to byte_most (first ws)) (number_up_to pair_most (first (rest ws))) (table_of (rest (rest ws))) (ended (rest (rest (rest ws))))

-- feed LINE ROOM BYTES [TABLE]
unfoldable pub feed_of : List (List ℕ) → Line
feed_of ws =
    feeds (number_up_to byte_most (first ws)) (number_up_to room_most (first (rest ws))) (bytes (first (rest (rest ws)))) (table_of (rest (rest (rest ws))))
    (ended (rest (rest (rest (rest ws)))))

-- close LINE
unfoldable pub close_of : List (List ℕ) → Line
close_of ws = closes (number_up_to byte_most (first ws)) (ended (rest ws))

-- finish SESSION ROOM
unfoldable pub finish_of : List (List ℕ) → Line
finish_of ws = finishes (session (first ws)) (number_up_to room_most (first (rest ws))) (ended (rest (rest ws)))

-- the call word, and the words behind it; show and table have none
unfoldable pub called : List ℕ → List (List ℕ) → Line
called w ws =
    cond (same w (ascii "start")) (start_of ws)
    (cond (same w (ascii "enrol")) (enrol_of ws)
    (cond (same w (ascii "feed")) (feed_of ws)
    (cond (same w (ascii "close")) (close_of ws)
    (cond (same w (ascii "finish")) (finish_of ws)
    (cond (same w (ascii "show")) (alone show (ended ws))
    (cond (same w (ascii "table")) (alone table (ended ws)) (wrong 1)))))))

abbrev pub call_of : List (List ℕ) → Line
call_of ws = called (first ws) (rest ws)

-- ---- lines

abbrev pub hash : ℕ
hash = 35

-- empty, or with `#` as its first byte
unfoldable pub is_remark : List ℕ → Bool
is_remark [] = true
is_remark (b ∷ bs) = eqb b hash

-- a line that is too long is no remark either
unfoldable pub parse : List ℕ → Line
parse line = cond (leb (length line) longest) (cond (is_remark line) remark (call_of (words line))) long
