-- A field of a record with other bytes: what it holds, and what stays.
use Rattle.std.specs.Prelude.{ℕ, ◌+◌, ◌-◌, ◌*◌, ◌≤◌, ◌<◌, ◌≡◌, refl, List, ◌++◌, Bool, true, false, ◌&&◌, ◌||◌, length, take, drop, get_or, leb, ltb}
use Rattle.std.proofs.Common.{sym, ap, ◌∙◌, arith, length-append, length-take, length-drop, get_or-take, get_or-drop, ext_get_or, leb-true, leb-false, ltb-true, ltb-false}
use Rattle.std.proofs.Math.ListN.{get_or-append}
use Rattle.std.proofs.Math.Seq.{length-sets}
use Rattle.nodes.specs.declared.Field.{Field}
use Rattle.nodes.specs.Table.{table_size, record_size, node_count, field_of, with_field, record_of}
use Rattle.nodes.specs.Overwriting.{is_place, is_apart, Overwritten}
use Rattle.nodes.specs.TableLaws.{field_length}
use Rattle.nodes.specs.StoreLaws.{sets-before, sets_behind, sets_within, part_before, part_behind, append_behind}

module _ (f : Field) (t : List ℕ) (n : ℕ) (vs : List ℕ) (inside : f.at + f.size ≤ record_size) (long : length t ≡ table_size) (node : n < node_count) where
  -- where the field starts, and the bytes that are stored
  abbrev start : ℕ
  start = n * record_size + f.at

  abbrev value : List ℕ
  value = take f.size vs

  abbrev after : List ℕ
  after = with_field t n f vs

  value_size : length value ≤ f.size
  value_size = rw (length-take f.size vs) (omega arith)

  stored : (k : ℕ) → k < f.size → k < length vs → get_or after (start + k) 0 ≡ get_or vs k 0
  stored k h b = sets_within value t start k (rw (length-take f.size vs) (omega arith)) (omega arith) ∙ get_or-take f.size vs k 0 h

  before : (i : ℕ) → i < start → get_or after i 0 ≡ get_or t i 0
  before i h = sets-before value t start i h

  behind : (i : ℕ) → start + f.size ≤ i → get_or after i 0 ≡ get_or t i 0
  behind i h = sets_behind value t start i (omega (arith, value_size, h))

  outside : (i : ℕ) → is_place n f i ≡ false → get_or after i 0 ≡ get_or t i 0
  outside i h = go (leb start i) refl h
    where
      go : (b : Bool) → leb start i ≡ b → b && ltb i (start + f.size) ≡ false → get_or after i 0 ≡ get_or t i 0
      go true p q = behind i (ltb-false i (start + f.size) q)
      go false p q = before i (leb-false start i p)

  -- a part before the field, and one behind it
  same-before : (a m : ℕ) → a + m ≤ start → take m (drop a after) ≡ take m (drop a t)
  same-before a m h = part_before value t start a m h

  same-behind : (a m : ℕ) → start + f.size ≤ a → take m (drop a after) ≡ take m (drop a t)
  same-behind a m h = part_behind value t start a m (omega (arith, value_size, h))

  fields : (g : Field) → is_apart f g ≡ true → field_of after n g ≡ field_of t n g
  fields g h = go (leb (f.at + f.size) g.at) refl h
    where
      go : (b : Bool) → leb (f.at + f.size) g.at ≡ b → b || leb (g.at + g.size) f.at ≡ true → field_of after n g ≡ field_of t n g
      go true p q = same-behind (n * record_size + g.at) g.size (omega (arith, leb-true (f.at + f.size) g.at p))
      go false p q = same-before (n * record_size + g.at) g.size (omega (arith, leb-true (g.at + g.size) f.at q))

  records : (k : ℕ) → (k ≡ n → ⊥) → record_of after k ≡ record_of t k
  records k h = go (ltb k n) refl
    where
      go : (b : Bool) → ltb k n ≡ b → record_of after k ≡ record_of t k
      go true p = same-before (k * record_size) record_size (omega (arith, ltb-true k n p))
      go false p = same-behind (k * record_size) record_size (omega (arith, ltb-false k n p, h, inside))

  -- what stands behind the value's bytes
  abbrev left : List ℕ
  left = drop (length vs) (field_of t n f)

  value_all : (k : ℕ) → k < f.size → length vs ≤ k → length value ≡ length vs
  value_all k h b = rw (length-take f.size vs) (omega arith)

  at : (l : List ℕ) (k : ℕ) → k < f.size → get_or (field_of l n f) k 0 ≡ get_or l (start + k) 0
  at l k h = get_or-take f.size (drop start l) k 0 h ∙ get_or-drop start l k 0

  held : field_of after n f ≡ value ++ left
  held = ext_get_or 0 (field_of after n f) (value ++ left) (size ∙ sym whole) (λ k b. place k (rw size at b) (ltb k (length vs)) refl)
    where
      size : length (field_of after n f) ≡ f.size
      size = field_length after n f (length-sets t start value ∙ long) node inside

      whole : length (value ++ left) ≡ f.size
      whole = rw (length-append value left, length-drop (length vs) (field_of t n f), field_length t n f long node inside, length-take f.size vs) (omega arith)

      place : (k : ℕ) → k < f.size → (b : Bool) → ltb k (length vs) ≡ b → get_or (field_of after n f) k 0 ≡ get_or (value ++ left) k 0
      place k h true p =
          let b = ltb-true k (length vs) p in
          at after k h ∙ stored k h b
          ∙ sym (get_or-append value left 0 k (rw (length-take f.size vs) (omega (arith, h, b))) ∙ get_or-take f.size vs k 0 h)
      place k h false p =
          let b = ltb-false k (length vs) p in
          let e = value_all k h b in
          at after k h ∙ sets_behind value t start (start + k) (omega (arith, e, b))
          ∙ sym (append_behind value left k (omega (arith, e, b)) ∙ get_or-drop (length vs) (field_of t n f) (k - length value) 0
          ∙ ap (λ (j : ℕ). get_or (field_of t n f) j 0) (omega (arith, e, b)) ∙ at t k h)

  pub with_field-only : Overwritten n f vs t after
  with_field-only = record { field = held; stored = stored; outside = outside; fields = fields; records = records; size = length-sets t start value }
