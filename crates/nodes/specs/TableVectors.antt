-- The table's commands, computed on three records of which only node 1 is in use, and the definitions' numbers at their edges.
use Rattle.std.specs.Prelude.{ℕ, ◌*◌, ◌≡◌, refl, List, [], ◌∷◌, ◌++◌, map, true, false, None, is_some, replicate}
use Rattle.nodes.specs.declared.Field.{Field}
use Rattle.nodes.specs.declared.NodeStatus.TheVariants.{Accepted, Rejected, InvalidNode}
use Rattle.nodes.specs.Table.{node_count, table_size, record_size, use_field, type_field, name_field, order_field, placement_field, variation_field, spare_field, order_and_placement, in_use, status_number, set_field, set_name, set_order_and_placement, set_variation, information_size, information, informed, bit, is_removed, remove_one, remove_below, remove, emptied, enrolled_record, enrolled}

-- the table of document 01: nodes, bytes of a record, bytes of all; and the data bytes of frame 0210
sizes : node_count ∷ record_size ∷ table_size ∷ information_size ∷ [] ≡ 200 ∷ 72 ∷ 14400 ∷ 124 ∷ []
sizes = refl

-- in use, type, name, order, placement, variation, spare, and order with placement: where each stands and how long it is
places : map (λ (f : Field). f.at ∷ f.size ∷ []) (use_field ∷ type_field ∷ name_field ∷ order_field ∷ placement_field ∷ variation_field ∷ spare_field ∷ order_and_placement ∷ [])
    ≡ (0 ∷ 1 ∷ []) ∷ (1 ∷ 2 ∷ []) ∷ (3 ∷ 64 ∷ []) ∷ (67 ∷ 2 ∷ []) ∷ (69 ∷ 1 ∷ []) ∷ (70 ∷ 1 ∷ []) ∷ (71 ∷ 1 ∷ []) ∷ (67 ∷ 3 ∷ []) ∷ []
places = refl

-- all bytes of three records
abbrev filled : ℕ → List ℕ
filled b = replicate 216 b

-- node 1 with its name's byte, order, placement and variation
unfoldable with : ℕ → ℕ → ℕ → ℕ → List ℕ
with name order placement variation =
    replicate 72 0
    ++ ((1 ∷ 0x01 ∷ 0x02 ∷ []) ++ replicate 64 name ++ (0 ∷ order ∷ placement ∷ variation ∷ 6 ∷ []))
    ++ replicate 72 0

-- all bytes of 201 records, one more than there are nodes
unfoldable over : ℕ → List ℕ
over b = replicate (201 * 72) b

-- a node is in use if its byte is 1, not if it is 0 or 2; node 199 is the last, whatever lies behind its record
used : in_use (filled 0) 0 ∷ in_use (filled 1) 0 ∷ in_use (filled 2) 0 ∷ in_use (over 1) 199 ∷ in_use (over 1) 200 ∷ [] ≡ false ∷ true ∷ false ∷ true ∷ false ∷ []
unfolding over in_use
used = refl

-- it is the first byte of the node's record that tells, and one behind the table's end tells of no node
tells : map (in_use (with 1 1 1 1)) (0 ∷ 1 ∷ 2 ∷ 3 ∷ []) ≡ false ∷ true ∷ false ∷ false ∷ []
unfolding with in_use
tells = refl

-- only the named field is overwritten
named : set_name (with 7 5 9 4) 1 (replicate 64 8) ≡ record { status = 0; table = with 8 5 9 4 }
unfolding with set_field in_use
named = refl

placed : set_order_and_placement (with 7 5 9 4) 1 (0 ∷ 3 ∷ 2 ∷ []) ≡ record { status = 0; table = with 7 3 2 4 }
unfolding with set_field in_use
placed = refl

-- a variation of 4 and one of 5; a node that is not in use comes first, and so does one above 199
varied : set_variation (with 7 5 9 0) 1 4 ∷ set_variation (with 7 5 9 4) 1 5 ∷ set_variation (with 7 5 9 4) 0 5 ∷ set_variation (with 7 5 9 4) 200 0 ∷ []
    ≡ map (λ (s : ℕ). record { status = s; table = with 7 5 9 4 }) (0 ∷ 1 ∷ 2 ∷ 2 ∷ [])
unfolding with set_variation set_field in_use
varied = refl

-- the code's statuses by their numbers
numbers : map status_number (Accepted ∷ Rejected ∷ InvalidNode ∷ []) ≡ 0 ∷ 1 ∷ 2 ∷ []
numbers = refl

-- section 8.3.3: node, order, placement, name, velocity, type, group, product, variation, and 50 bytes that are not kept
information-bytes : information (with 7 5 9 4) 1 ≡ (1 ∷ 0 ∷ 5 ∷ 9 ∷ []) ++ replicate 64 7 ++ (0 ∷ 0x01 ∷ 0x02 ∷ 0 ∷ 0 ∷ 4 ∷ []) ++ replicate 50 0
unfolding with information
information-bytes = refl

-- a node in use is known by a table of 14,400 bytes, and by no other
known : map (λ (t : List ℕ). is_some (informed t 1)) (replicate 14399 1 ∷ replicate 14400 1 ∷ replicate 14401 1 ∷ []) ≡ false ∷ true ∷ false ∷ []
unfolding informed in_use
known = refl

-- of a node that is not in use nothing is told
unknown : informed (replicate 14400 2) 1 ≡ None
unfolding informed in_use
unknown = refl

-- bits 0 to 15 of the bytes A5 and 0F, least significant first, and bits 16 to 23, which lie behind the data's end
bits : map (bit (0xA5 ∷ 0x0F ∷ [])) (0 ∷ 1 ∷ 2 ∷ 3 ∷ 4 ∷ 5 ∷ 6 ∷ 7 ∷ 8 ∷ 9 ∷ 10 ∷ 11 ∷ 12 ∷ 13 ∷ 14 ∷ 15 ∷ 16 ∷ 17 ∷ 18 ∷ 19 ∷ 20 ∷ 21 ∷ 22 ∷ 23 ∷ [])
    ≡ (true ∷ false ∷ true ∷ false ∷ false ∷ true ∷ false ∷ true ∷ [])
    ++ (true ∷ true ∷ true ∷ true ∷ false ∷ false ∷ false ∷ false ∷ []) ++ replicate 8 false
unfolding bit
bits = refl

-- node 1 is removed, and node 0 ignored, whatever its record holds
removed : remove (3 ∷ []) (with 7 5 9 4) ∷ remove (1 ∷ []) (with 7 5 9 4) ∷ remove (1 ∷ []) (filled 9) ∷ [] ≡ filled 0 ∷ with 7 5 9 4 ∷ filled 9 ∷ []
unfolding with remove_below remove_one bit in_use
removed = refl

-- bits 200 to 207 remove nothing: no node below 200, and none behind
ignored : remove (replicate 25 0 ++ 255 ∷ []) (with 7 5 9 4) ≡ with 7 5 9 4
unfolding with remove_below remove_one bit in_use
ignored = refl

ends : map (is_removed (over 1) (replicate 26 255)) (199 ∷ 200 ∷ 207 ∷ []) ≡ true ∷ false ∷ false ∷ []
unfolding over bit in_use
ends = refl

-- node 199 is the last that is looked at
last : (bits t : List ℕ) → remove bits t ≡ remove_one bits 199 (remove_below bits 199 t)
unfolding remove_below
last bits t = refl

-- virgin state leaves no byte
zeroed : emptied (filled 9) ≡ filled 0
zeroed = refl

-- type high byte first, other fields zero
enrols : enrolled (filled 9) 1 0xFE02 ≡ replicate 72 9 ++ (1 ∷ 0xFE ∷ 0x02 ∷ []) ++ replicate 69 0 ++ replicate 72 9
unfolding enrolled_record
enrols = refl
