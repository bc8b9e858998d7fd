-- What was read was used by calls, and what they wrote was appended.
use Rattle.std.proofs.Common.{List, ℕ}
use Rattle.std.specs.Io.KnownBytes.{Consumes}
use Rattle.frame.specs.Reader.{emptied, taken}
use Rattle.listing.specs.Program.{WritesCalls}
use Rattle.listing.proofs.list_all.Given as goal

abbrev pub invariant-loop : goal.invariant-loop
invariant-loop g l = (used : List ℕ) × Consumes (g.R.Read.remaining l.initial.input) (g.R.Read.remaining l.input) used
    × WritesCalls emptied 0 used (taken l.state.reading) l.state.left
    (g.W.Write.contents l.initial.output) (g.W.Write.contents l.output)
