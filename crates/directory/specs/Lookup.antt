-- A command looked up in the directory (document 01, "The command directory").
use Rattle.std.specs.Prelude.{ℕ, ◌≤◌, ◌≡◌, List, [], ◌∷◌, Bool, cond, ◌&&◌, leb, eqb, ⊤, Option, Some, None, Result, Ok, Err, slice_get}
use Rattle.directory.specs.declared.Entry.{Entry}
use Rattle.directory.specs.declared.CommandError.{CommandError}
use Rattle.directory.specs.declared.CommandError.TheVariants.{Unknown, WrongLength}
use Rattle.directory.specs.Directory.{directory}

-- the first entry with a number
unfoldable pub find : ℕ → List Entry → Option Entry
find n [] = None
find n (e ∷ es) = cond (eqb e.number n) (Some e) (find n es)

-- the length is in the entry's range
abbrev pub in_range : Entry → ℕ → Bool
in_range e len = leb e.least len && leb len e.greatest

-- the bytes of the error frame that a command can fail by here
abbrev pub unknown_command : ℕ
unknown_command = 1

abbrev pub frame_error : ℕ
frame_error = 2

unfoldable pub verdict_of : Option Entry → ℕ → Option ℕ
verdict_of None len = Some unknown_command
verdict_of (Some e) len = cond (in_range e len) None (Some frame_error)

-- the error of a command with data of a length, if it is one: command unknown, 1; data length outside the directory's range, 2
unfoldable pub verdict : ℕ → ℕ → Option ℕ
verdict command len = verdict_of (find command directory) len

-- the error that an answer tells
abbrev pub error_of : Result ⊤ CommandError → Option ℕ
error_of (Ok fits) = None
error_of (Err Unknown) = Some unknown_command
error_of (Err WrongLength) = Some frame_error

-- ---- the same in words

-- an entry stands at some place of the directory
pub record Stands (e : Entry) : Type 0 where
  pub place : ℕ
  pub there : slice_get directory place ≡ Some e

-- a command stands in the directory, with a range that has the length
pub record Allowed (command len : ℕ) : Type 0 where
  pub entry : Entry
  pub stands : Stands entry
  pub number : entry.number ≡ command
  pub least : entry.least ≤ len
  pub greatest : len ≤ entry.greatest
