-- What the functions of `hex`, `numbers` and `parser` answer.
use Rattle.std.specs.Prelude.{ℕ, suc, ◌+◌, ◌*◌, ◌≤◌, min, ◌≡◌, List, [], ◌∷◌, cond, ◌&&◌, length, take, drop, leb, ltb, eqb, Option, Some, None, Result, Ok, Err}
use Rattle.std.specs.Borrow.{Bor}
use Rattle.script.specs.declared.Words.{Words}
use Rattle.script.specs.declared.BadWord.{BadWord}
use Rattle.script.specs.declared.Call as answer
use Rattle.script.specs.declared.Call.TheVariants.{Bad}
use Rattle.script.specs.Script.{space, words, first, rest, number_up_to, hex_value, bytes, session, table_of}

-- how many bytes stand before the first space
unfoldable pub word_length : List ℕ → ℕ
word_length [] = 0
word_length (b ∷ bs) = cond (eqb b space) 0 (suc (word_length bs))

-- where the word ends that starts at a place
unfoldable pub word_end : List ℕ → ℕ → ℕ
word_end l from = min (length l) (from + word_length (drop from l))

-- the words from a place on: none behind the line's end, where a next word would start after the last
unfoldable pub words_from : List ℕ → ℕ → List (List ℕ)
words_from l from = cond (leb from (length l)) (words (drop from l)) []

-- the words that are still to come
abbrev pub to_come : Words → List (List ℕ)
to_come ws = words_from ws.line.now ws.from

-- the next word, and the others left in `next`; none behind the line's end
abbrev pub WordAt : Words → Words → Option (Bor (List ℕ)) → Type 0
WordAt ws next None = to_come ws ≡ []
WordAt ws next (Some word) = (first (to_come ws) ≡ word.now) × (rest (to_come ws) ≡ to_come next) × (length word.now ≤ length ws.line.now)

-- what the first of some words is, and the others, which are left
abbrev pub Taken : Option ℕ → List (List ℕ) → List (List ℕ) → Option ℕ → Type 0
Taken is ws left (Some n) = (is ≡ Some n) × (rest ws ≡ left)
Taken is ws left None = is ≡ None

-- a number up to the most that it may be
abbrev pub Numbered : ℕ → List (List ℕ) → List (List ℕ) → Option ℕ → Type 0
Numbered most ws = Taken (number_up_to most (first ws)) ws

-- [TABLE]
abbrev pub TableAt : List (List ℕ) → List (List ℕ) → Option ℕ → Type 0
TableAt ws = Taken (table_of ws) ws

-- SESSION
abbrev pub SessionAt : List (List ℕ) → List (List ℕ) → Option ℕ → Type 0
SessionAt ws = Taken (session (first ws)) ws

-- the bytes of a word, stored at the front of `out`
abbrev pub Stored : Option (List ℕ) → List ℕ → Option ℕ → Type 0
Stored bs out (Some n) = (bs ≡ Some (take n out)) × (n ≤ length out)
Stored bs out None = bs ≡ None

-- the bytes of the first of some words, stored
abbrev pub BytesAt : List (List ℕ) → List ℕ → List (List ℕ) → Option ℕ → Type 0
BytesAt ws out left (Some n) = (bytes (first ws) ≡ Some (take n out)) × (n ≤ length out) × (rest ws ≡ left)
BytesAt ws out left None = bytes (first ws) ≡ None

-- what `parse` answers: the call, or the word that cannot be taken
abbrev pub answered : Result answer.Call BadWord → answer.Call
answered (Ok call) = call
answered (Err bad) = Bad bad.0

-- the value of a digit, if it is one
unfoldable pub digit_of : ℕ → Option ℕ
digit_of b = cond (ltb (hex_value b) 16) (Some (hex_value b)) None

-- the byte of two digits, if both are
unfoldable pub pair_of : ℕ → ℕ → Option ℕ
pair_of h l = cond (ltb (hex_value h) 16 && ltb (hex_value l) 16) (Some (hex_value h * 16 + hex_value l)) None
