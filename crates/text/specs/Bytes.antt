-- Bytes as text: two capital hexadecimal digits for each, the high one first, and `-` for none.
use Rattle.std.specs.Prelude.{ℕ, zero, suc, ◌*◌, ◌/◌, ◌%◌, List, [], ◌∷◌, ◌++◌}
use Rattle.text.specs.Text.{ascii, digit}

-- the two hexadecimal digits of a byte
abbrev pub hex2 : ℕ → List ℕ
hex2 b = digit (b / 16 % 16) ∷ digit (b % 16) ∷ []

unfoldable pub hex_pairs : List ℕ → List ℕ
hex_pairs [] = []
hex_pairs (b ∷ bs) = hex2 b ++ hex_pairs bs

unfoldable pub bytes_word : List ℕ → List ℕ
bytes_word [] = ascii "-"
bytes_word (b ∷ bs) = hex_pairs (b ∷ bs)

-- how long the text of some bytes is
unfoldable pub word_length : ℕ → ℕ
word_length zero = 1
word_length (suc n) = 2 * suc n
