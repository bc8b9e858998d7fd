use Rattle.transcript.specs.Lines.{WritesAll, lines_below}
use Rattle.transcript.specs.State.{node_lines}
use Rattle.transcript.proofs.state.show_nodes.Given as goal

-- The nodes below the place are shown.
abbrev pub invariant-loop-node : goal.invariant-loop-node
invariant-loop-node l = WritesAll (lines_below (node_lines l.table) l.node) l.initial.page l.page
