-- What is gone from the rest was used by calls, and what they wrote was appended. The buffer has room for any line, so each call uses at least
-- one of the bytes left.
use Rattle.std.proofs.Common.{ℕ, ◌≡◌, List, ◌++◌, length}
use Rattle.frame.specs.Reader.{taken}
use Rattle.listing.specs.Program.{WritesCalls}
use Rattle.listing.proofs.list_part.Given as goal

abbrev pub invariant-loop-rest : goal.invariant-loop-rest
invariant-loop-rest g l = (used : List ℕ) × (l.wire ≡ used ++ l.rest)
    × WritesCalls (taken l.fn.start.reading) l.fn.start.left used (taken l.state.reading) l.state.left
    (g.W.Write.contents l.initial.output) (g.W.Write.contents l.output)

abbrev pub decreases-loop-rest : goal.decreases-loop-rest
decreases-loop-rest g l = length l.rest
