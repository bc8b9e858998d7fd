-- What the replayed calls answer, as bytes.
use Rattle.std.specs.Prelude.{ℕ, List, [], ◌∷◌, ◌++◌, Bool, true, false, cond, drop, eqb}
use Rattle.text.specs.Text.{ascii, decimal, hex4}
use Rattle.text.specs.Bytes.{bytes_word}
use Rattle.text.specs.Places.{places_word}
use Rattle.line.specs.declared.Places.{Places}

-- room for a line up to its last number
abbrev pub head_size : ℕ
head_size = 42

-- room for two places and the word behind them
abbrev pub placed_size : ℕ
placed_size = 52

-- a line that no call is made of: its number, and that of its first word that cannot be taken, or that it is too long
unfoldable pub bad_line : ℕ → ℕ → List ℕ
bad_line line word = ascii "bad line " ++ decimal line ++ ascii " word " ++ decimal word ++ ascii "\n"

unfoldable pub long_line : ℕ → List ℕ
long_line line = ascii "bad line " ++ decimal line ++ ascii " too long\n"

-- a call that was made
unfoldable pub done_line : List ℕ
done_line = ascii "done\n"

-- the answer of a call with a room tells at its end whether a byte behind the reply has changed
unfoldable pub line_end : Bool → List ℕ
line_end true = ascii " spilled\n"
line_end false = ascii "\n"

-- a call that was refused: the number of refusal
unfoldable pub refused_line : ℕ → Bool → List ℕ
refused_line number spilled = ascii "refused " ++ decimal number ++ line_end spilled

-- a session finished: its line and the reply
unfoldable pub finished_line : ℕ → List ℕ → Bool → List ℕ
finished_line line reply spilled = ascii "finished " ++ decimal line ++ ascii " reply " ++ bytes_word reply ++ line_end spilled

-- a feed: how many bytes it used, its outcome and the reply; of a refused packet also where it broke
unfoldable pub none_line : ℕ → List ℕ → Bool → List ℕ
none_line used reply spilled = ascii "used " ++ decimal used ++ ascii " none reply " ++ bytes_word reply ++ line_end spilled

unfoldable pub frame_line : ℕ → ℕ → ℕ → List ℕ → Bool → List ℕ
frame_line used command len reply spilled =
    ascii "used " ++ decimal used ++ ascii " frame " ++ hex4 command ++ ascii " data " ++ decimal len ++ ascii " reply " ++ bytes_word reply ++ line_end spilled

unfoldable pub packet_line : ℕ → ℕ → Places → List ℕ → Bool → List ℕ
packet_line used number places reply spilled =
    ascii "used " ++ decimal used ++ ascii " packet " ++ decimal number ++ places_word places ++ ascii " reply " ++ bytes_word reply ++ line_end spilled

-- some byte is not the filler
unfoldable pub has_other : ℕ → List ℕ → Bool
has_other filler [] = false
has_other filler (b ∷ bs) = cond (eqb b filler) (has_other filler bs) true

-- some byte of a room from a place on is not the filler any more
unfoldable pub has_spilled : List ℕ → ℕ → ℕ → Bool
has_spilled room from filler = has_other filler (drop from room)
