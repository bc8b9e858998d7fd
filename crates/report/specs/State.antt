-- The state as `show` writes it, as bytes.
use Rattle.std.specs.Prelude.{ℕ, zero, suc, List, [], ◌∷◌, ◌++◌, Bool, true, false, get_or}
use Rattle.nodes.specs.Table.{bit}
use Rattle.sessions.specs.Sessions.{target_count}
use Rattle.text.specs.Text.{ascii, decimal, hex4}
use Rattle.text.specs.Bytes.{bytes_word}
use Rattle.text.specs.Places.{places_word}
use Rattle.line.specs.declared.Fault.{Fault}
use Rattle.line.specs.declared.Fault.TheVariants as fault
use Rattle.line.specs.declared.Mode.{Mode}
use Rattle.line.specs.declared.Mode.TheVariants as mode

-- room for a slot's line
abbrev pub slot_size : ℕ
slot_size = 1024

-- logged in or not: the digit 1 or 0
unfoldable pub flag : Bool → ℕ
flag true = 49
flag false = 48

-- the logins of lines 0 to 3
unfoldable pub login_line : List Bool → List ℕ
login_line logins =
    ascii "login " ++ (flag (get_or logins 0 false) ∷ flag (get_or logins 1 false) ∷ flag (get_or logins 2 false) ∷ flag (get_or logins 3 false) ∷ []) ++ ascii "\n"

-- a node, where it is marked
unfoldable pub node_word : ℕ → Bool → List ℕ
node_word node true = ascii " " ++ decimal node
node_word node false = []

-- the marked nodes below n, ascending
unfoldable pub nodes_below : ℕ → List ℕ → List ℕ
nodes_below zero nodes = []
nodes_below (suc n) nodes = nodes_below n nodes ++ node_word n (bit nodes n)

-- an open slot: the session's number, its line and its nodes
unfoldable pub slot_line : ℕ → ℕ → ℕ → List ℕ → List ℕ
slot_line slot session line nodes =
    ascii "slot " ++ decimal slot ++ ascii " session " ++ hex4 session ++ ascii " line " ++ decimal line ++ ascii " nodes" ++ nodes_below target_count nodes ++ ascii "\n"

-- a node's record
unfoldable pub node_line : ℕ → List ℕ → List ℕ
node_line node fields = ascii "node " ++ decimal node ++ ascii " " ++ bytes_word fields ++ ascii "\n"

-- how a reading stands; one that skips tells the refusal that is due at the END
unfoldable pub skip_word : Fault → List ℕ
skip_word fault.WrongEscape = ascii "skip1"
skip_word fault.TooLong = ascii "skip2"

unfoldable pub mode_word : Mode → List ℕ
mode_word mode.Plain = ascii "plain"
mode_word mode.Escaped = ascii "escaped"
mode_word (mode.Skipping f) = skip_word f.fault

-- and where its packet broke
unfoldable pub mode_places : Mode → List ℕ
mode_places mode.Plain = []
mode_places mode.Escaped = []
mode_places (mode.Skipping f) = places_word f.at

-- a line's reading: how it stands, and the bytes held
unfoldable pub reading_line : ℕ → Mode → List ℕ → List ℕ
reading_line line m held = ascii "line " ++ decimal line ++ (ascii " " ++ mode_word m ++ ascii " ") ++ bytes_word held ++ (mode_places m ++ ascii "\n")

unfoldable pub end_line : List ℕ
end_line = ascii "end\n"
