-- Only the named field is overwritten: over all tables, nodes and values.
use Rattle.std.specs.Prelude.{ℕ, ◌+◌, ◌≤◌, ◌<◌, ◌≡◌, refl, List, [], ◌∷◌, true, false, length}
use Rattle.std.proofs.Common.{arith, lt-ltb, le-ltb}
use Rattle.nodes.specs.declared.Field.{Field}
use Rattle.nodes.specs.Table.{table_size, record_size, name_field, order_and_placement, variation_field, in_use, accepted, rejected, invalid_node, set_field, set_name, set_order_and_placement, max_variation, set_variation}
use Rattle.nodes.specs.Overwriting.{Overwritten}
use Rattle.nodes.specs.TableLaws.{used-below}
use Rattle.nodes.specs.FieldLaws.{with_field-only}

-- a node above 199 or not in use gives status 2, and nothing changes
pub set_field_unused : (f : Field) (t : List ℕ) (n : ℕ) (vs : List ℕ) → in_use t n ≡ false → set_field f t n vs ≡ record { status = invalid_node; table = t }
unfolding set_field
set_field_unused f t n vs u = rw u

pub set_variation_unused : (t : List ℕ) (n v : ℕ) → in_use t n ≡ false → set_variation t n v ≡ record { status = invalid_node; table = t }
unfolding set_variation
set_variation_unused t n v u = rw u (set_field_unused variation_field t n (v ∷ []) u)

-- a variation above 4 then gives status 1, and nothing changes
pub set_variation-rejected : (t : List ℕ) (n v : ℕ) → in_use t n ≡ true → max_variation < v → set_variation t n v ≡ record { status = rejected; table = t }
unfolding set_variation
set_variation-rejected t n v u h = rw (u, lt-ltb max_variation v h)

-- otherwise only the named field is overwritten, status 0: whatever field of the record it is, and a value of any length
pub set_field-only : (f : Field) (t : List ℕ) (n : ℕ) (vs : List ℕ) → f.at + f.size ≤ record_size → length t ≡ table_size → in_use t n ≡ true
    → ((set_field f t n vs).status ≡ accepted) × Overwritten n f vs t (set_field f t n vs).table
unfolding set_field
set_field-only f t n vs inside e u = rw u (refl, with_field-only f t n vs inside e (used-below t n u))

-- so it is with each of the three commands
pub set_name_only : (t : List ℕ) (n : ℕ) (name : List ℕ) → length t ≡ table_size → in_use t n ≡ true
    → ((set_name t n name).status ≡ accepted) × Overwritten n name_field name t (set_name t n name).table
set_name_only t n name e u = set_field-only name_field t n name (omega arith) e u

pub set_order_and_placement-only : (t : List ℕ) (n : ℕ) (value : List ℕ) → length t ≡ table_size → in_use t n ≡ true
    → ((set_order_and_placement t n value).status ≡ accepted) × Overwritten n order_and_placement value t (set_order_and_placement t n value).table
set_order_and_placement-only t n value e u = set_field-only order_and_placement t n value (omega arith) e u

pub set_variation-only : (t : List ℕ) (n v : ℕ) → length t ≡ table_size → in_use t n ≡ true → v ≤ max_variation
    → ((set_variation t n v).status ≡ accepted) × Overwritten n variation_field (v ∷ []) t (set_variation t n v).table
unfolding set_variation
set_variation-only t n v e u h = rw (u, le-ltb max_variation v h) (set_field-only variation_field t n (v ∷ []) (omega arith) e u)
