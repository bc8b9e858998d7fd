-- Laws of the node table.
use Rattle.std.specs.Prelude.{ℕ, zero, suc, ◌+◌, ◌*◌, ◌≤◌, ◌<◌, ◌≡◌, refl, List, [], ◌∷◌, Bool, true, false, cond, ◌&&◌, None, Some, is_some, length, ltb}
use Rattle.std.proofs.Common.{◌∙◌, arith, length-append, length-take, length-drop, ltb-true, eq-eqb}
use Rattle.std.proofs.Math.Seq.{length-sets}
use Rattle.nodes.specs.declared.Field.{Field}
use Rattle.nodes.specs.Cases.{either}
use Rattle.nodes.specs.Table.{table_size, record_size, node_count, use_field, type_field, name_field, order_field, placement_field, variation_field, spare_field, order_and_placement, field_of, with_field, in_use, accepted, invalid_node, set_field, is_rejected, set_variation, Result, node_status, information_size, information, informed, is_removed, empty_record, remove_one, remove_below}

-- the fields fill a record one behind the other
fields_fill : (use_field.at + use_field.size ≡ type_field.at) × (type_field.at + type_field.size ≡ name_field.at)
    × (name_field.at + name_field.size ≡ order_field.at) × (order_field.at + order_field.size ≡ placement_field.at)
    × (placement_field.at + placement_field.size ≡ variation_field.at) × (variation_field.at + variation_field.size ≡ spare_field.at)
    × (spare_field.at + spare_field.size ≡ record_size)
fields_fill = (refl, refl, refl, refl, refl, refl, refl)

-- order and placement are these two fields
both_fill : (order_and_placement.at ≡ order_field.at) × (order_and_placement.size ≡ order_field.size + placement_field.size)
both_fill = (refl, refl)

-- no command changes the table's length
pub set_field-length : (f : Field) (t : List ℕ) (n : ℕ) (vs : List ℕ) → length (set_field f t n vs).table ≡ length t
unfolding set_field
set_field-length f t n vs = either (λ (r : Result). length r.table ≡ length t) (in_use t n) _ _ (simp length-sets) refl

pub set_variation-length : (t : List ℕ) (n v : ℕ) → length (set_variation t n v).table ≡ length t
unfolding set_variation
set_variation-length t n v = either (λ (r : Result). length r.table ≡ length t) (is_rejected t n v) _ _ refl (set_field-length variation_field t n (v ∷ []))

-- the status of a node set command is told before it
pub set_field-status : (f : Field) (t : List ℕ) (n : ℕ) (vs : List ℕ) → (set_field f t n vs).status ≡ node_status t n
unfolding set_field
set_field-status f t n vs = go (in_use t n)
  where
    go : (b : Bool) → (cond {A = Result} b (record { status = accepted; table = with_field t n f vs }) (record { status = invalid_node; table = t })).status ≡ cond b accepted invalid_node
    go true = refl
    go false = refl

remove_one-length : (bits : List ℕ) (n : ℕ) (t : List ℕ) → length (remove_one bits n t) ≡ length t
unfolding remove_one
remove_one-length bits n t = either (λ (m : List ℕ). length m ≡ length t) (is_removed t bits n) _ _ (length-sets t (n * record_size) empty_record) refl

pub remove-length : (bits : List ℕ) (n : ℕ) (t : List ℕ) → length (remove_below bits n t) ≡ length t
unfolding remove_below
remove-length bits zero t = refl
remove-length bits (suc n) t = remove_one-length bits n (remove_below bits n t) ∙ remove-length bits n t

-- a field of a node lies within a table of the right length
pub field_length : (t : List ℕ) (n : ℕ) (f : Field) → length t ≡ table_size → n < node_count → f.at + f.size ≤ record_size → length (field_of t n f) ≡ f.size
field_length t n f e h k = simp (length-take, length-drop) (omega arith)

-- a node's information has as many bytes as frame 0210 has data
pub information-length : (t : List ℕ) (n : ℕ) → length t ≡ table_size → n < node_count → length (information t n) ≡ information_size
unfolding information
information-length t n e h =
    let o = field_length t n order_field e h (omega arith) in
    let p = field_length t n placement_field e h (omega arith) in
    let m = field_length t n name_field e h (omega arith) in
    let y = field_length t n type_field e h (omega arith) in
    let v = field_length t n variation_field e h (omega arith) in
    simp (length-append, o, p, m, y, v)

-- a node in use is one of the table's
pub used-below : (t : List ℕ) (n : ℕ) → in_use t n ≡ true → n < node_count
unfolding in_use
used-below t n e = ltb-true n node_count (first (ltb n node_count) _ e)
  where
    first : (a b : Bool) → a && b ≡ true → a ≡ true
    first true b e = refl
    first false b e = e

-- with a table of the right length, a node is told of if it is in use, and then it is its information that is told
pub informed_known : (t : List ℕ) (n : ℕ) → length t ≡ table_size → is_some (informed t n) ≡ in_use t n
unfolding informed
informed_known t n e = rw (eq-eqb (length t) table_size e) (go (in_use t n))
  where
    go : (b : Bool) → is_some (cond b (Some (information t n)) None) ≡ b
    go true = refl
    go false = refl

pub informed-bytes : (t : List ℕ) (n : ℕ) → length t ≡ table_size → in_use t n ≡ true → informed t n ≡ Some (information t n)
unfolding informed
informed-bytes t n e u = rw (eq-eqb (length t) table_size e, u)
