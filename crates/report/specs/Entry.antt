-- A node in use as `table` writes it, as bytes.
use Rattle.std.specs.Prelude.{ℕ, suc, List, [], ◌∷◌, ◌++◌, cond, ◌||◌, take, ltb, eqb}
use Rattle.nodes.specs.Table.{name_field}
use Rattle.text.specs.Text.{ascii, decimal, hex4}
use Rattle.text.specs.Bytes.{hex2}

-- room for a node's line
abbrev pub entry_size : ℕ
entry_size = 400

-- no name has more bytes
abbrev pub name_size : ℕ
name_size = name_field.size

-- how many bytes stand before the first zero byte
unfoldable pub name_length : List ℕ → ℕ
name_length [] = 0
name_length (b ∷ bs) = cond (eqb b 0) 0 (suc (name_length bs))

-- the name's bytes up to its first zero byte, or all
abbrev pub name_of : List ℕ → List ℕ
name_of name = take (name_length name) name

-- a byte of it: 00 to 1F and 7F as `\xHH`, `"` and `\` with a `\` before them, all others as they are
unfoldable pub shown : ℕ → List ℕ
shown b = cond (ltb b 32 || eqb b 127) (ascii "\\x" ++ hex2 b) (cond (eqb b 34 || eqb b 92) (ascii "\\" ++ (b ∷ [])) (b ∷ []))

unfoldable pub shown_all : List ℕ → List ℕ
shown_all [] = []
shown_all (b ∷ bs) = shown b ++ shown_all bs

-- number, type, order, placement and variation
unfoldable pub entry_head : ℕ → ℕ → ℕ → ℕ → ℕ → List ℕ
entry_head node kind order placement variation =
    ascii "node " ++ decimal node ++ ascii " type " ++ hex4 kind ++ ascii " order " ++ decimal order ++ ascii " placement " ++ decimal placement
    ++ ascii " variation " ++ decimal variation ++ ascii " name \""

-- a name's text stands between quotes
unfoldable pub entry_line : ℕ → ℕ → ℕ → ℕ → ℕ → List ℕ → List ℕ
entry_line node kind order placement variation name = entry_head node kind order placement variation ++ shown_all (name_of (take name_size name)) ++ ascii "\"\n"
