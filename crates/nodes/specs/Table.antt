-- The node table (document 01, "What the commands do"): its layout, and what the commands and host calls do to it.
use Rattle.std.specs.Prelude.{ℕ, Option, None, Some, zero, suc, ◌+◌, ◌-◌, ◌*◌, ◌/◌, ◌%◌, ◌^◌, List, [], ◌∷◌, ◌++◌, Bool, cond, ◌&&◌, length, take, drop, get_or, replicate, ltb, eqb}
use Rattle.std.proofs.lemmas.List.Edits.{sets}
use Rattle.nodes.specs.declared.Field.{Field}
use Rattle.nodes.specs.declared.NodeStatus.{NodeStatus}
use Rattle.nodes.specs.declared.NodeStatus.TheVariants.{Accepted, Rejected, InvalidNode}

-- ---- layout

-- the node table is 14,400 lent bytes: 200 records of 72
abbrev pub node_count : ℕ
node_count = 200

abbrev pub record_size : ℕ
record_size = 72

abbrev pub table_size : ℕ
table_size = node_count * record_size

-- A field of a record is where it stands and how long it is. The fields: in use, type 2, name 64, order 2, placement 1, variation 1, spare 1.
abbrev pub use_field : Field
use_field = record { at = 0; size = 1 }

abbrev pub type_field : Field
type_field = record { at = 1; size = 2 }

abbrev pub name_field : Field
name_field = record { at = 3; size = 64 }

abbrev pub order_field : Field
order_field = record { at = 67; size = 2 }

abbrev pub placement_field : Field
placement_field = record { at = 69; size = 1 }

abbrev pub variation_field : Field
variation_field = record { at = 70; size = 1 }

abbrev pub spare_field : Field
spare_field = record { at = 71; size = 1 }

-- order and placement, one behind the other
abbrev pub order_and_placement : Field
order_and_placement = record { at = 67; size = 3 }

-- a field of record n, and the table with other bytes there
abbrev pub field_of : List ℕ → ℕ → Field → List ℕ
field_of t n f = take f.size (drop (n * record_size + f.at) t)

-- bytes beyond the field's size are not stored
abbrev pub with_field : List ℕ → ℕ → Field → List ℕ → List ℕ
with_field t n f vs = sets t (n * record_size + f.at) (take f.size vs)

-- record n
abbrev pub record_of : List ℕ → ℕ → List ℕ
record_of t n = take record_size (drop (n * record_size) t)

-- which node numbers there are
abbrev pub is_node : ℕ → Bool
is_node n = ltb n node_count

-- a node is in use exactly if the first byte of its record is 1
unfoldable pub in_use : List ℕ → ℕ → Bool
in_use t n = is_node n && eqb (get_or t (n * record_size + use_field.at) 0) 1

-- ---- node set commands

-- the specification's status values
abbrev pub accepted : ℕ
accepted = 0

abbrev pub rejected : ℕ
rejected = 1

abbrev pub invalid_node : ℕ
invalid_node = 2

-- a status of the code by its number
abbrev pub status_number : NodeStatus → ℕ
status_number Accepted = accepted
status_number Rejected = rejected
status_number InvalidNode = invalid_node

-- what a node command answers, and the table that it leaves
pub record Result : Type 0 where
  pub status : ℕ
  pub table : List ℕ

-- a node above 199 or not in use gives status 2; otherwise only the named field is overwritten, status 0; what would lie behind the end
-- of a table of another length, which the hub refuses before (refusal 7), is dropped
unfoldable pub set_field : Field → List ℕ → ℕ → List ℕ → Result
set_field f t n vs =
    cond (in_use t n)
    (record { status = accepted; table = with_field t n f vs })
    (record { status = invalid_node; table = t })

-- the status alone
abbrev pub node_status : List ℕ → ℕ → ℕ
node_status t n = cond (in_use t n) accepted invalid_node

abbrev pub set_name : List ℕ → ℕ → List ℕ → Result
set_name = set_field name_field

abbrev pub set_order_and_placement : List ℕ → ℕ → List ℕ → Result
set_order_and_placement = set_field order_and_placement

-- the greatest variation
abbrev pub max_variation : ℕ
max_variation = 4

abbrev pub is_rejected : List ℕ → ℕ → ℕ → Bool
is_rejected t n v = in_use t n && ltb max_variation v

-- a variation above 4 then gives status 1
unfoldable pub set_variation : List ℕ → ℕ → ℕ → Result
set_variation t n v =
    cond (is_rejected t n v)
    (record { status = rejected; table = t })
    (set_field variation_field t n (v ∷ []))

-- ---- get node information

-- the data bytes of frame 0210
abbrev pub information_size : ℕ
information_size = 124

-- what is told of a node: its number, and the fields that the hub keeps, as they lie in its record
pub record Information : Type 0 where
  pub node : ℕ
  pub order : List ℕ
  pub placement : List ℕ
  pub name : List ℕ
  pub type : List ℕ
  pub variation : List ℕ

abbrev pub information_of : List ℕ → ℕ → Information
information_of t n = record {
  node = n;
  order = field_of t n order_field;
  placement = field_of t n placement_field;
  name = field_of t n name_field;
  type = field_of t n type_field;
  variation = field_of t n variation_field;
}

-- frame 0210, 124 data bytes by section 8.3.3, with fields that the hub does not keep set to zero: NodeID, Order, Placement, Name,
-- Velocity, NodeTypeSubType, ProductGroup, ProductType, NodeVariation, and from PowerMode on all that is not kept
abbrev pub information_data : Information → List ℕ
information_data i =
    (i.node ∷ []) ++ i.order ++ i.placement ++ i.name ++ (0 ∷ []) ++ i.type ++ (0 ∷ 0 ∷ []) ++ i.variation ++ replicate 50 0

unfoldable pub information : List ℕ → ℕ → List ℕ
information t n = information_data (information_of t n)

-- what is told of a node: nothing of one that is not in use, and nothing by a table of another length
abbrev pub is_told : List ℕ → ℕ → Bool
is_told t n = eqb (length t) table_size && in_use t n

unfoldable pub informed : List ℕ → ℕ → Option (List ℕ)
informed t n = cond (is_told t n) (Some (information t n)) None

-- ---- remove nodes, virgin state

-- bit k is bit k mod 8, least significant first, of data byte k div 8 + 1, bytes counted from 1
unfoldable pub bit : List ℕ → ℕ → Bool
bit bits k = eqb (get_or bits (k / 8) 0 / 2 ^ (k % 8) % 2) 1

-- nodes not in use are ignored
abbrev pub is_removed : List ℕ → List ℕ → ℕ → Bool
is_removed t bits k = bit bits k && in_use t k

-- a removed record becomes 72 zero bytes
abbrev pub empty_record : List ℕ
empty_record = replicate record_size 0

abbrev pub with_record : List ℕ → ℕ → List ℕ → List ℕ
with_record t n vs = sets t (n * record_size) vs

unfoldable pub remove_one : List ℕ → ℕ → List ℕ → List ℕ
remove_one bits n t = cond (is_removed t bits n) (with_record t n empty_record) t

-- the nodes below n that the bits name are removed
unfoldable pub remove_below : List ℕ → ℕ → List ℕ → List ℕ
remove_below bits zero t = t
remove_below bits (suc n) t = remove_one bits n (remove_below bits n t)

-- bits from 200 on are ignored
abbrev pub remove : List ℕ → List ℕ → List ℕ
remove bits t = remove_below bits node_count t

-- virgin state and start zero the table
abbrev pub emptied : List ℕ → List ℕ
emptied t = replicate (length t) 0

-- ---- enrol

-- in use, with its type, high byte first; other fields zero
unfoldable pub enrolled_record : ℕ → List ℕ
enrolled_record type = (1 ∷ type / 256 ∷ type % 256 ∷ []) ++ replicate (record_size - name_field.at) 0

-- what would lie behind the table's end is dropped here too
abbrev pub enrolled : List ℕ → ℕ → ℕ → List ℕ
enrolled t n type = with_record t n (enrolled_record type)
