-- The state's lines at some values: each line once.
use Rattle.std.specs.Prelude.{ℕ, ◌≡◌, refl, List, [], ◌∷◌, true, false, replicate}
use Rattle.nodes.specs.Table.{bit}
use Rattle.sessions.specs.Sessions.{mark_bytes, with_bit}
use Rattle.text.specs.Text.{ascii, digit, decimal_in, decimal}
use Rattle.text.specs.Bytes.{hex_pairs, bytes_word}
use Rattle.text.specs.Places.{places_word}
use Rattle.report.specs.State.{flag, login_line, node_word, nodes_below, slot_line, node_line, skip_word, mode_word, mode_places, reading_line, end_line}
use Rattle.line.specs.Places.{places_at}
use Rattle.line.specs.declared.Fault.TheVariants as fault
use Rattle.line.specs.declared.Mode.TheVariants as mode

login_some : login_line (true ∷ false ∷ false ∷ true ∷ []) ≡ ascii "login 1001\n"
unfolding ascii flag login_line
login_some = refl

login_second : login_line (false ∷ true ∷ false ∷ false ∷ []) ≡ ascii "login 0100\n"
unfolding ascii flag login_line
login_second = refl

-- the first node, the last and one between
abbrev marks : List ℕ
marks = with_bit (with_bit (with_bit (replicate mark_bytes 0) 7) 199) 0

slot-nodes : slot_line 7 0x01A2 3 marks ≡ ascii "slot 7 session 01A2 line 3 nodes 0 7 199\n"
unfolding ascii digit decimal_in decimal bit with_bit node_word nodes_below slot_line
slot-nodes = refl

slot-none : slot_line 0 0xFFFF 1 (replicate mark_bytes 0) ≡ ascii "slot 0 session FFFF line 1 nodes\n"
unfolding ascii digit decimal_in decimal bit with_bit node_word nodes_below slot_line
slot-none = refl

node_last : node_line 199 (0x01 ∷ 0x00 ∷ 0x4F ∷ []) ≡ ascii "node 199 01004F\n"
unfolding ascii digit decimal_in decimal hex_pairs bytes_word node_line
node_last = refl

reading_plain : reading_line 0 mode.Plain (0x00 ∷ 0x03 ∷ 0xFE ∷ []) ≡ ascii "line 0 plain 0003FE\n"
unfolding ascii digit decimal_in decimal hex_pairs bytes_word mode_word mode_places reading_line
reading_plain = refl

reading_escaped : reading_line 1 mode.Escaped [] ≡ ascii "line 1 escaped -\n"
unfolding ascii digit decimal_in decimal hex_pairs bytes_word mode_word mode_places reading_line
reading_escaped = refl

-- a settled piece: the byte after the ESC, and the 256th byte behind 100 escaped ones
reading_wrong_escape : reading_line 2 (mode.Skipping (record { fault = fault.WrongEscape; at = places_at 1 0 })) [] ≡ ascii "line 2 skip1 - at 1 0\n"
unfolding ascii digit decimal_in decimal hex_pairs bytes_word places_word skip_word mode_word mode_places reading_line
reading_wrong_escape = refl

reading_too_long : reading_line 3 (mode.Skipping (record { fault = fault.TooLong; at = places_at 355 255 })) [] ≡ ascii "line 3 skip2 - at 355 255\n"
unfolding ascii digit decimal_in decimal hex_pairs bytes_word places_word skip_word mode_word mode_places reading_line
reading_too_long = refl

end : end_line ≡ ascii "end\n"
unfolding ascii end_line
end = refl
