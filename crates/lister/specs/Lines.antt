-- The lines of the listing and of the directory, as bytes.
use Rattle.std.specs.Prelude.{ℕ, List, ◌++◌, Bool, ◌&&◌, leb}
use Rattle.line.specs.declared.Places.{Places}
use Rattle.text.specs.Text.{ascii, decimal, hex4}
use Rattle.text.specs.Places.{places_word}

-- a frame: its command, and how many data bytes it has
unfoldable pub frame_line : ℕ → ℕ → List ℕ
frame_line command len = ascii "frame " ++ hex4 command ++ ascii " data " ++ decimal len ++ ascii "\n"

-- a refusal: its number, and where its packet broke
unfoldable pub refused_line : ℕ → Places → List ℕ
refused_line number places = ascii "refused " ++ decimal number ++ places_word places ++ ascii "\n"

-- each number is one digit
abbrev pub is_short : ℕ → Places → Bool
is_short number places = leb number 9 && (leb places.wire.0 9 && leb places.decoded.0 9)

-- the wire bytes since the last END
unfoldable pub left_line : ℕ → List ℕ
left_line left = ascii "left " ++ decimal left ++ ascii "\n"

-- a command's entry: the least and the greatest length of its data
unfoldable pub entry_line : ℕ → ℕ → ℕ → List ℕ
entry_line command least greatest = hex4 command ++ ascii " " ++ decimal least ++ ascii " " ++ decimal greatest ++ ascii "\n"

-- no line of a refusal's number below 256 and other numbers below 2 ^ 64 is longer
abbrev pub LINE : ℕ
LINE = 64
