-- Exactly the named nodes are removed: over all tables and bits.
use Prim.Native.Nat.{ℕ, zero, suc, ◌+◌, ◌*◌, ◌≤◌, ◌<◌}
use Rattle.std.specs.Prelude.{◌≡◌, Bool, ◌&&◌, length, take, drop, get_or, eqb}
use Rattle.std.proofs.Math.Path.{refl}
use Rattle.std.proofs.Common.{sym, ap, ◌∙◌, take_at, drop_at, length-take-le, get_or-take, get_or-drop}
use mathlib.Core.List.{List, ◌++◌, append_assoc}
use Rattle.std.proofs.Math.Bool.{true, false, cond}
use native.Mathlib.Omega.{arith}
use Rattle.std.proofs.lemmas.List.Edits.{sets-eq}
use Rattle.std.proofs.Math.Dec.{ltb}
use borrow.Author.Tests.{ltb-true, ltb-false}
use Rattle.nodes.specs.Table.{table_size, record_size, node_count, use_field, record_of, is_node, in_use, bit, is_removed, empty_record, with_record, remove_one, remove_below, remove}
use Rattle.nodes.specs.Cases.{either}
use Rattle.nodes.specs.TableLaws.{remove-length}
use Rattle.nodes.specs.StoreLaws.{part_before, part_behind}

-- a record with other bytes holds them, and no other record changes
pub with_record-same : (t : List ℕ) (n : ℕ) (vs : List ℕ) → length t ≡ table_size → n < node_count → length vs ≡ record_size → record_of (with_record t n vs) n ≡ vs
with_record-same t n vs e h k =
    let w = sets-eq vs t (n * record_size) (rw k (omega arith)) in
    ap (λ (l : List ℕ). record_of l n) (w ∙ append_assoc (take (n * record_size) t) vs (drop (n * record_size + length vs) t))
    ∙ ap (λ (l : List ℕ). take record_size l) (drop_at (take (n * record_size) t) (vs ++ drop (n * record_size + length vs) t) (n * record_size) (length-take-le (n * record_size) t (omega arith)))
    ∙ take_at vs (drop (n * record_size + length vs) t) record_size k

pub with_record-other : (t : List ℕ) (n : ℕ) (vs : List ℕ) (k : ℕ) → length vs ≡ record_size → (k ≡ n → ⊥) → record_of (with_record t n vs) k ≡ record_of t k
with_record-other t n vs k e h = go (ltb k n) refl
  where
    go : (b : Bool) → ltb k n ≡ b → record_of (with_record t n vs) k ≡ record_of t k
    go true p = part_before vs t (n * record_size) (k * record_size) record_size (omega (arith, ltb-true k n p))
    go false p = part_behind vs t (n * record_size) (k * record_size) record_size (omega (arith, ltb-false k n p, e, h))

-- whether a node is in use is told by its record alone
in_use_record : (t m : List ℕ) (n : ℕ) → record_of m n ≡ record_of t n → in_use m n ≡ in_use t n
unfolding in_use
in_use_record t m n e = ap (λ (b : ℕ). is_node n && eqb b 1) (first m ∙ ap (λ (l : List ℕ). get_or l 0 0) e ∙ sym (first t))
  where
    first : (l : List ℕ) → get_or l (n * record_size + use_field.at) 0 ≡ get_or (record_of l n) 0 0
    first l = sym (get_or-take record_size (drop (n * record_size) l) 0 0 (omega arith) ∙ get_or-drop (n * record_size) l 0 0)

module _ (bits : List ℕ) where
  remove_one-other : (t : List ℕ) (n k : ℕ) → (k ≡ n → ⊥) → record_of (remove_one bits n t) k ≡ record_of t k
  unfolding remove_one
  remove_one-other t n k h = either (λ (m : List ℕ). record_of m k ≡ record_of t k) (is_removed t bits n) _ _ (with_record-other t n empty_record k refl h) refl

  remove_one-same : (t : List ℕ) (n : ℕ) → length t ≡ table_size → n < node_count → record_of (remove_one bits n t) n ≡ cond (is_removed t bits n) empty_record (record_of t n)
  unfolding remove_one
  remove_one-same t n e h = go (is_removed t bits n)
    where
      go : (b : Bool) → record_of (cond b (with_record t n empty_record) t) n ≡ cond b empty_record (record_of t n)
      go true = with_record-same t n empty_record e h refl
      go false = refl

  -- the nodes from n on are not reached yet
  remove_below-other : (t : List ℕ) (n k : ℕ) → n ≤ k → record_of (remove_below bits n t) k ≡ record_of t k
  unfolding remove_below
  remove_below-other t zero k h = refl
  remove_below-other t (suc n) k h = remove_one-other (remove_below bits n t) n k (λ e. omega arith) ∙ remove_below-other t n k (omega arith)

  remove_below_record : (t : List ℕ) → length t ≡ table_size → (n k : ℕ) → n ≤ node_count → k < n → record_of (remove_below bits n t) k ≡ cond (is_removed t bits k) empty_record (record_of t k)
  unfolding remove_below
  remove_below_record t e zero k m h = absurd (omega arith)
  remove_below_record t e (suc n) k m h = go (λ b. remove_below_record t e n k (omega arith) b) (ltb k n) refl
    where
      go : (k < n → record_of (remove_below bits n t) k ≡ cond (is_removed t bits k) empty_record (record_of t k))
          → (b : Bool) → ltb k n ≡ b → record_of (remove_one bits n (remove_below bits n t)) k ≡ cond (is_removed t bits k) empty_record (record_of t k)
      go r true p =
          let b = ltb-true k n p in
          remove_one-other (remove_below bits n t) n k (λ q. omega arith) ∙ r b
      go r false p =
          let b = ltb-false k n p in
          let q : n ≡ k = omega arith in
          let same = remove_below-other t n n (omega arith) in
          rw (← q) (remove_one-same (remove_below bits n t) n (remove-length bits n t ∙ e) (omega arith) ∙ rw (in_use_record t (remove_below bits n t) n same, same))

  -- a removed record becomes 72 zero bytes, and every other record is as before; which nodes are removed is told by the table before
  pub remove_record : (t : List ℕ) → length t ≡ table_size → (k : ℕ) → k < node_count → record_of (remove bits t) k ≡ cond (is_removed t bits k) empty_record (record_of t k)
  remove_record t e k h = remove_below_record t e node_count k (omega arith) h

  -- nodes not in use are ignored
  pub remove_unused : (t : List ℕ) → length t ≡ table_size → (k : ℕ) → k < node_count → in_use t k ≡ false → record_of (remove bits t) k ≡ record_of t k
  remove_unused t e k h u = remove_record t e k h ∙ rw u (go (bit bits k))
    where
      go : (b : Bool) → cond (b && false) empty_record (record_of t k) ≡ record_of t k
      go true = refl
      go false = refl
