-- What the table's code promises.
use Rattle.std.specs.Prelude.{ℕ, ◌≡◌, List}
use Rattle.nodes.specs.Table.{Result}

-- a status and a table are the definition's
pub record Results (x : Result) (s : ℕ) (t : List ℕ) : Type 0 where
  pub status : s ≡ x.status
  pub table : t ≡ x.table
