use Prim.Native.Nat.{◌+◌}
use mathlib.Core.Path.{◌≡◌}
use lib.ListN.{take}
use Rattle.line.specs.Places.{wire_length}
use Rattle.line.proofs.counting.escapes.Given as goal

-- The bytes so far, and what escaping adds to them, are their length on the wire.
abbrev pub invariant-loop-b : goal.invariant-loop-b
invariant-loop-b l = l.b-index + l.added ≡ wire_length (take l.b-index l.bytes)
