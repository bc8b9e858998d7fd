use Rattle.std.proofs.Common.{◌-◌, length}
use Rattle.line.specs.Reader.{read}
use Rattle.line.specs.Answers.{taken_as}
use Rattle.line.proofs.reader.Loop.{Stands}
use Rattle.line.proofs.reader.read_in.Given as goal

-- The run from the start is the run from here, counted on: each turn moves it over the bytes that it used.
abbrev pub invariant-loop-b : goal.invariant-loop-b
invariant-loop-b l = Stands (read (taken_as l.fn.bytes l.fn.cursor.count l.fn.cursor.mode) l.wire) l.bytes l.count l.mode l.wire l.i

abbrev pub decreases-loop-b : goal.decreases-loop-b
decreases-loop-b l = length l.wire - l.i
