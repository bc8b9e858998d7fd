-- The directory's rule (document 01): entries strictly ascending by number, each with a range of lengths that data can have.
use Rattle.std.specs.Prelude.{ℕ, suc, ◌≤◌, ◌<◌, ◌≡◌, List, [], ◌∷◌, Bool, true, ◌&&◌, leb, Some, slice_get}
use Rattle.directory.specs.declared.Entry.{Entry}

-- a command has two bytes, data have 0 to 250
abbrev pub max_command : ℕ
max_command = 65535

abbrev pub max_data : ℕ
max_data = 250

-- ---- the test, computed over the whole list

abbrev pub sound : Entry → Bool
sound e = leb e.number max_command && (leb e.least e.greatest && leb e.greatest max_data)

-- each entry is sound, and its number is `low` or above and above that of the entry before
unfoldable pub ruled : ℕ → List Entry → Bool
ruled low [] = true
ruled low (e ∷ es) = leb low e.number && (sound e && ruled (suc e.number) es)

-- ---- what it says of each entry, and of each two

pub record Sound (e : Entry) : Type 0 where
  pub number : e.number ≤ max_command
  pub range : e.least ≤ e.greatest
  pub limit : e.greatest ≤ max_data

abbrev pub Ascending : List Entry → Type 0
Ascending es = (j k : ℕ) (d e : Entry) → slice_get es j ≡ Some d → slice_get es k ≡ Some e → j < k → d.number < e.number
