-- What the hub sends: each frame as a message with its fields, by the layouts of document 01 and of the specification's sections 5 to 8 and 10.
-- A reply is some of them, one behind another.
use Rattle.std.specs.Prelude.{ℕ, ◌/◌, ◌%◌, List, [], ◌∷◌, ◌++◌, cond}
use Rattle.frame.specs.Frame.{wire}
use Rattle.nodes.specs.Table.{accepted, invalid_node, Information, information_of, information_data, is_told}

pub data Message : Type 0 where
  -- 0000: the error's number
  error : ℕ → Message
  -- 3001 and 3003: status
  password_entered : ℕ → Message
  password_changed : ℕ → Message
  -- 0201: status, node; 0210: what is told of the node
  information_confirmed : ℕ → ℕ → Message
  node_information : Information → Message
  -- 0207, 0209 and 020E: status, node
  variation_set : ℕ → ℕ → Message
  name_set : ℕ → ℕ → Message
  order_and_placement_set : ℕ → ℕ → Message
  -- 0107: SceneDeleted
  nodes_removed : ℕ → Message
  -- 0109
  virgin_state_set : Message
  -- 0321: session, status
  mode_send_confirmed : ℕ → ℕ → Message
  -- 0304: session
  session_finished : ℕ → Message

-- ---- layouts

abbrev pub command_of : Message → ℕ
command_of (error e) = 0x0000
command_of (password_entered s) = 0x3001
command_of (password_changed s) = 0x3003
command_of (information_confirmed s n) = 0x0201
command_of (node_information i) = 0x0210
command_of (variation_set s n) = 0x0207
command_of (name_set s n) = 0x0209
command_of (order_and_placement_set s n) = 0x020E
command_of (nodes_removed k) = 0x0107
command_of virgin_state_set = 0x0109
command_of (mode_send_confirmed x s) = 0x0321
command_of (session_finished x) = 0x0304

-- a session's number goes high byte first
abbrev pub data_of : Message → List ℕ
data_of (error e) = e ∷ []
data_of (password_entered s) = s ∷ []
data_of (password_changed s) = s ∷ []
data_of (information_confirmed s n) = s ∷ n ∷ []
data_of (node_information i) = information_data i
data_of (variation_set s n) = s ∷ n ∷ []
data_of (name_set s n) = s ∷ n ∷ []
data_of (order_and_placement_set s n) = s ∷ n ∷ []
data_of (nodes_removed k) = k ∷ []
data_of virgin_state_set = []
data_of (mode_send_confirmed x s) = x / 256 ∷ x % 256 ∷ s ∷ []
data_of (session_finished x) = x / 256 ∷ x % 256 ∷ []

-- a message on the wire
abbrev pub wire_of : Message → List ℕ
wire_of m = wire (command_of m) (data_of m)

-- and a reply: its messages, one behind another
unfoldable pub bytes_of : List Message → List ℕ
bytes_of [] = []
bytes_of (m ∷ ms) = wire_of m ++ bytes_of ms

-- ---- get node information

-- 0201 with status 2 for a node above 199 or not in use; otherwise with status 0, and then frame 0210. A table of another length, which
-- the hub refuses before (refusal 7), tells of no node.
unfoldable pub about_node : List ℕ → ℕ → List Message
about_node t n =
    cond (is_told t n) (information_confirmed accepted n ∷ node_information (information_of t n) ∷ [])
    (information_confirmed invalid_node n ∷ [])
