-- What it means that only the named field is overwritten.
use Rattle.std.specs.Prelude.{ℕ, ◌+◌, ◌*◌, ◌<◌, ◌≡◌, List, ◌++◌, Bool, true, false, ◌&&◌, ◌||◌, length, take, drop, get_or, leb, ltb}
use Rattle.nodes.specs.declared.Field.{Field}
use Rattle.nodes.specs.Table.{record_size, field_of, record_of}

-- the places of a field of record n
abbrev pub is_place : ℕ → Field → ℕ → Bool
is_place n f i = leb (n * record_size + f.at) i && ltb i (n * record_size + f.at + f.size)

-- two fields share no byte
abbrev pub is_apart : Field → Field → Bool
is_apart f g = leb (f.at + f.size) g.at || leb (g.at + g.size) f.at

-- what stands in table t with values vs in field f of record n
pub record Overwritten (n : ℕ) (f : Field) (vs t after : List ℕ) : Type 0 where
  -- the field holds the value, as far as the value has bytes
  pub field : field_of after n f ≡ take f.size vs ++ drop (length vs) (field_of t n f)
  pub stored : (k : ℕ) → k < f.size → k < length vs → get_or after (n * record_size + f.at + k) 0 ≡ get_or vs k 0
  -- every byte outside the field's places is as before
  pub outside : (i : ℕ) → is_place n f i ≡ false → get_or after i 0 ≡ get_or t i 0
  -- so is every other field of that record, and every other record
  pub fields : (g : Field) → is_apart f g ≡ true → field_of after n g ≡ field_of t n g
  pub records : (k : ℕ) → (k ≡ n → ⊥) → record_of after k ≡ record_of t k
  pub size : length after ≡ length t
