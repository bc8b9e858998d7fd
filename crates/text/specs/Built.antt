-- A line that is being built at the front of some room.
use Rattle.std.specs.Prelude.{ℕ, ◌≤◌, ◌≡◌, List, length}
use Rattle.memory.specs.Wrote.{Wrote}

-- `text` stands at the front of `after`, which has `size` bytes, and ends at `end`; it has no more than `most` bytes
pub record Built (size most : ℕ) (text after : List ℕ) (end : ℕ) : Type 0 where
  pub before : List ℕ
  pub long : length before ≡ size
  pub wrote : Wrote before 0 text after end
  pub within : length text ≤ most
