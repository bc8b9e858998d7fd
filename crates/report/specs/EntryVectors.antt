-- A node's line at some names: plain, ended by a zero byte, with each byte that is escaped and those beside them, and of all 64 bytes.
use Rattle.std.specs.Prelude.{◌+◌, ◌*◌, ◌≡◌, refl, [], ◌∷◌, ◌++◌, length, replicate}
use Rattle.text.specs.Text.{ascii, digit, decimal_in, decimal}
use Rattle.report.specs.Entry.{name_length, shown, shown_all, entry_head, entry_line}

plain : entry_line 7 0x00C0 258 3 4 (ascii "Hall 1" ++ (0 ∷ 65 ∷ [])) ≡ ascii "node 7 type 00C0 order 258 placement 3 variation 4 name \"Hall 1\"\n"
unfolding ascii digit decimal_in decimal name_length shown shown_all entry_head entry_line
plain = refl

none : entry_line 199 0xFFFF 65535 255 255 (replicate 64 0) ≡ ascii "node 199 type FFFF order 65535 placement 255 variation 255 name \"\"\n"
unfolding ascii digit decimal_in decimal name_length shown shown_all entry_head entry_line
none = refl

-- quote, backslash, control bytes and DEL, and the bytes beside them; a byte above 7F stands as it is
escaped : shown_all (34 ∷ 92 ∷ 1 ∷ 10 ∷ 31 ∷ 32 ∷ 33 ∷ 126 ∷ 127 ∷ 128 ∷ 255 ∷ [])
    ≡ ascii "\\\"\\\\\\x01\\x0A\\x1F !~\\x7F" ++ (128 ∷ 255 ∷ [])
unfolding ascii digit shown shown_all
escaped = refl

-- a name without a zero byte, and what stands behind it
whole : length (entry_line 0 0 0 0 0 (replicate 65 1)) ≡ length (ascii "node 0 type 0000 order 0 placement 0 variation 0 name \"\"\n") + 64 * 4
unfolding ascii digit decimal_in decimal name_length shown shown_all entry_head entry_line
whole = refl
