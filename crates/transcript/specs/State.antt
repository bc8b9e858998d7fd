-- The state as `show` writes it, and the nodes in use as `table` does: the lines of hub, table and readings.
use Rattle.std.specs.Prelude.{ℕ, ◌+◌, ◌*◌, List, [], ◌∷◌, ◌++◌, map, cond, length, get_or, leb}
use Rattle.line.specs.declared.Mode.{Mode}
use Rattle.line.specs.declared.Mode.TheVariants as mode
use Rattle.frame.specs.Reader.{State, plain, escaped, skipping, emptied, held}
use Rattle.nodes.specs.declared.Field.{Field}
use Rattle.nodes.specs.Table.{node_count, record_size, type_field, name_field, order_field, placement_field, variation_field, field_of, record_of, in_use}
use Rattle.sessions.specs.declared.Slot.{Slot}
use Rattle.sessions.specs.Sessions.{slot_count, slot_at, is_open}
use Rattle.rules.specs.declared.Hub.{Hub}
use Rattle.rules.specs.Hub.{line_count, is_logged_in}
use Rattle.report.specs.Report.{has_other}
use Rattle.report.specs.Entry.{entry_line}
use Rattle.report.specs.State.{login_line, slot_line, node_line, reading_line, end_line}
use Rattle.transcript.specs.Lines.{lines_below}

-- the lines whose login is shown
abbrev pub lines : List ℕ
lines = 0 ∷ 1 ∷ 2 ∷ 3 ∷ []

-- a slot, where it is open
unfoldable pub slot_lines : ℕ → Slot → List (List ℕ)
slot_lines k s = cond (is_open s) (slot_line k s.number s.line s.nodes ∷ []) []

-- a node's record, where it is not all zero
unfoldable pub record_lines : ℕ → List ℕ → List (List ℕ)
record_lines n fields = cond (has_other 0 fields) (node_line n fields ∷ []) []

-- record n of a table; one that does not lie within the table is not shown
unfoldable pub node_lines : List ℕ → ℕ → List (List ℕ)
node_lines t n = cond (leb (n * record_size + record_size) (length t)) (record_lines n (record_of t n)) []

-- how a reading stands
unfoldable pub mode_of : State → Mode
mode_of (plain h) = mode.Plain
mode_of (escaped h) = mode.Escaped
mode_of (skipping f) = mode.Skipping f

-- a reading, as its record is taken
unfoldable pub reading_lines : ℕ → State → List (List ℕ)
reading_lines k s = reading_line k (mode_of s) (held s) ∷ []

-- the logins, the open slots, the nodes, the readings and the end
unfoldable pub state_lines : Hub → List ℕ → List State → List (List ℕ)
state_lines h t ss =
    (login_line (map (is_logged_in h) lines) ∷ [])
    ++ lines_below (λ k. slot_lines k (slot_at h.slots k)) slot_count
    ++ lines_below (node_lines t) node_count
    ++ lines_below (λ k. reading_lines k (get_or ss k emptied)) line_count
    ++ (end_line ∷ [])

-- ---- table

-- the first byte of a record's field, and the number of its first two, the high one first
abbrev pub byte_of : List ℕ → Field → ℕ
byte_of fields f = get_or fields f.at 0

abbrev pub pair_of : List ℕ → Field → ℕ
pair_of fields f = get_or fields f.at 0 * 256 + get_or fields (f.at + 1) 0

-- a node by its record, where it is in use
unfoldable pub entry_lines : ℕ → List ℕ → List (List ℕ)
entry_lines n fields =
    cond (in_use fields 0)
    (entry_line n (pair_of fields type_field) (pair_of fields order_field) (byte_of fields placement_field) (byte_of fields variation_field) (field_of fields 0 name_field) ∷ []) []

-- record n of a table, where it lies within the table
unfoldable pub listed_lines : List ℕ → ℕ → List (List ℕ)
listed_lines t n = cond (leb (n * record_size + record_size) (length t)) (entry_lines n (record_of t n)) []

-- the nodes and the end
unfoldable pub table_lines : List ℕ → List (List ℕ)
table_lines t = lines_below (listed_lines t) node_count ++ (end_line ∷ [])
