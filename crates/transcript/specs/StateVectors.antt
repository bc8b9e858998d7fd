-- The state's lines at some states.
use Rattle.std.specs.Prelude.{ℕ, ◌-◌, ◌*◌, ◌≡◌, refl, List, [], ◌∷◌, ◌++◌, map, replicate}
use Rattle.line.specs.declared.Fault.TheVariants as fault
use Rattle.line.specs.declared.Mode.TheVariants as mode
use Rattle.line.specs.declared.Reading.{Reading}
use Rattle.frame.specs.Line.{decoded_fits, possible}
use Rattle.frame.specs.Frame.{places_at}
use Rattle.frame.specs.Reader.{taken}
use Rattle.nodes.specs.Table.{record_size, bit, in_use}
use Rattle.sessions.specs.declared.Slot.{Slot}
use Rattle.sessions.specs.Sessions.{slot_size, sessions_size, slot_bytes, slots_of}
use Rattle.sessions.specs.Search.{below}
use Rattle.rules.specs.declared.Hub.{Hub}
use Rattle.text.specs.Text.{ascii, digit, decimal_in, decimal}
use Rattle.text.specs.Appended.{appended}
use Rattle.text.specs.Bytes.{hex_pairs, bytes_word}
use Rattle.text.specs.Places.{places_word}
use Rattle.report.specs.Report.{has_other}
use Rattle.report.specs.Entry.{name_length, shown, shown_all, entry_head, entry_line}
use Rattle.report.specs.State.{flag, login_line, node_word, nodes_below, slot_line, node_line, skip_word, mode_word, mode_places, reading_line, end_line}
use Rattle.transcript.specs.Lines.{appended_all, lines_below}
use Rattle.transcript.specs.State.{slot_lines, record_lines, node_lines, mode_of, reading_lines, state_lines, entry_lines, listed_lines, table_lines}

-- a session in slot 2, and in slots 0 and 1 what a closed one might have left
session : ℕ → Slot
session used = record { used = used; line = 3; number = 0x01A2; nodes = 0x80 ∷ replicate 24 0 }

hub : Hub
hub = record { password = []; logins = 0 ∷ 1 ∷ 2 ∷ 255 ∷ []; slots = slot_bytes (session 0) ++ slot_bytes (session 2) ++ slot_bytes (session 1) ++ replicate (sessions_size - 3 * slot_size) 0 }

-- two records, of which the second is in use, and the front of a third
table : List ℕ
table = replicate record_size 0 ++ (1 ∷ replicate (record_size - 1) 0) ++ (1 ∷ [])

-- records that are taken as they are, and that claim too much
readings : List Reading
readings =
    record { bytes = 0x00 ∷ 0xFE ∷ 0x55 ∷ []; count = 2; mode = mode.Escaped }
    ∷ record { bytes = 0x00 ∷ 0xFE ∷ 0x55 ∷ []; count = 256; mode = mode.Escaped }
    ∷ record { bytes = 0x00 ∷ 0xFE ∷ 0x55 ∷ []; count = 2; mode = mode.Skipping (record { fault = fault.TooLong; at = places_at 300 255 }) }
    ∷ record { bytes = 0x00 ∷ 0xFE ∷ 0x55 ∷ []; count = 0; mode = mode.Skipping (record { fault = fault.WrongEscape; at = places_at 7 3 }) }
    ∷ []

node : List ℕ
node = ascii "node 1 01" ++ replicate (2 * (record_size - 1)) 48 ++ ascii "\n"

state : state_lines hub table (map taken readings)
    ≡ ascii "login 0100\n"
    ∷ ascii "slot 2 session 01A2 line 3 nodes 7\n"
    ∷ node
    ∷ ascii "line 0 escaped 00FE\n"
    ∷ ascii "line 1 plain -\n"
    ∷ ascii "line 2 skip2 - at 300 255\n"
    ∷ ascii "line 3 skip1 - at 7 3\n"
    ∷ ascii "end\n"
    ∷ []
unfolding session hub table readings node
    ascii digit decimal_in decimal hex_pairs bytes_word has_other bit flag login_line node_word nodes_below slot_line node_line places_word skip_word mode_word mode_places reading_line end_line possible decoded_fits
    slots_of below lines_below slot_lines record_lines node_lines mode_of reading_lines state_lines
state = refl

-- places one beyond those that bytes could leave: the record is shown as it is taken, emptied
beyond : Reading
beyond = record { bytes = 0x00 ∷ 0xFE ∷ 0x55 ∷ []; count = 0; mode = mode.Skipping (record { fault = fault.WrongEscape; at = places_at 8 3 }) }

impossible : reading_lines 0 (taken beyond) ≡ ascii "line 0 plain -\n" ∷ []
unfolding beyond ascii digit decimal_in decimal hex_pairs bytes_word mode_word mode_places reading_line possible decoded_fits mode_of reading_lines
impossible = refl

-- a line that does not fit is left out, and the next one is appended
lines : appended_all (0 ∷ 0 ∷ 0 ∷ []) 0 ((1 ∷ 2 ∷ []) ∷ (3 ∷ 4 ∷ []) ∷ (5 ∷ []) ∷ []) ≡ record { bytes = 1 ∷ 2 ∷ 5 ∷ []; place = 3 }
unfolding appended appended_all
lines = refl

-- the second record again: in use, with type, name, order, placement and variation
named : List ℕ
named = replicate record_size 0 ++ (1 ∷ 0x01 ∷ 0xC2 ∷ []) ++ ascii "Hall" ++ replicate 60 0 ++ (1 ∷ 2 ∷ 3 ∷ 4 ∷ 9 ∷ []) ++ (1 ∷ [])

listed : table_lines named ≡ ascii "node 1 type 01C2 order 258 placement 3 variation 4 name \"Hall\"\n" ∷ ascii "end\n" ∷ []
unfolding named ascii digit decimal_in decimal in_use name_length shown shown_all entry_head entry_line end_line lines_below entry_lines listed_lines table_lines
listed = refl
