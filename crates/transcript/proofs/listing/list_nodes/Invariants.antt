use Rattle.transcript.specs.Lines.{WritesAll, lines_below}
use Rattle.transcript.specs.State.{listed_lines}
use Rattle.transcript.proofs.listing.list_nodes.Given as goal

-- The nodes below the place are listed.
abbrev pub invariant-loop-node : goal.invariant-loop-node
invariant-loop-node l = WritesAll (lines_below (listed_lines l.table) l.node) l.initial.page l.page
