-- What the answer of `parse` means.
use Rattle.std.specs.Prelude.{ℕ, ◌≤◌, ◌≡◌, List, length, take}
use Rattle.script.specs.declared.Call as answer
use Rattle.script.specs.declared.Call.TheVariants.{Start, Enrol, Feed, Close, Finish, Show, Table, Remark, Bad, Long}
use Rattle.script.specs.Script.{room_most, table_most, Line, remark, call, wrong, long, start, enrol, feed, close, finish, show, table}

-- the line that an answer tells: the bytes of its word are the first of those that were lent
abbrev pub meaning : List ℕ → answer.Call → Line
meaning bytes (Start len lent) = call (start (take len bytes) lent)
meaning bytes (Enrol node kind lent) = call (enrol node kind lent)
meaning bytes (Feed line room len lent) = call (feed line room (take len bytes) lent)
meaning bytes (Close line) = call (close line)
meaning bytes (Finish number room) = call (finish number room)
meaning bytes Show = call show
meaning bytes Table = call table
meaning bytes Remark = remark
meaning bytes (Bad word) = wrong word
meaning bytes Long = long

-- the word's bytes lie within those that were lent; TABLE and ROOM are no more than the buffers have
abbrev pub Within : List ℕ → answer.Call → Type 0
Within bytes (Start len lent) = (len ≤ length bytes) × (lent ≤ table_most)
Within bytes (Enrol node kind lent) = lent ≤ table_most
Within bytes (Feed line room len lent) = (len ≤ length bytes) × (lent ≤ table_most) × (room ≤ room_most)
Within bytes (Close line) = Unit {0}
Within bytes (Finish number room) = room ≤ room_most
Within bytes Show = Unit {0}
Within bytes Table = Unit {0}
Within bytes Remark = Unit {0}
Within bytes (Bad word) = Unit {0}
Within bytes Long = Unit {0}

-- the promise of `parse`: the answer tells the definition's line `l`. Left to the program: what the lent bytes are behind those of a word
pub record Tells (l : Line) (bytes : List ℕ) (r : answer.Call) : Type 0 where
  pub line : meaning bytes r ≡ l
  pub within : Within bytes r

-- a call without bytes, whatever was lent for them
abbrev pub TellsAny : Line → answer.Call → Type 0
TellsAny l r = (bytes : List ℕ) → Tells l bytes r
