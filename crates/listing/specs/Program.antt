-- What the program writes of the bytes that it reads.
use Rattle.std.specs.Prelude.{ℕ, List, Option}
use Rattle.std.specs.Io.KnownBytes.{Appends}
use Rattle.frame.specs.Reader.{State}
use Rattle.lister.specs.Lists.{Calls}

-- calls on the bytes w, one after another from the state s and k bytes since the last END to e and j; the text that they wrote is appended
abbrev pub WritesCalls : State → ℕ → List ℕ → State → ℕ → Option (List ℕ) → Option (List ℕ) → Type 0
WritesCalls s k w e j old new = (text : List ℕ) × Calls s k w text e j × Appends old new text
