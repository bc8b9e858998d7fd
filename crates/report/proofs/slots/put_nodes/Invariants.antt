use Rattle.memory.specs.Wrote.{Wrote}
use Rattle.report.specs.State.{nodes_below}
use Rattle.report.proofs.slots.put_nodes.Given as goal

-- The marked nodes below `node` are stored, and nothing else is.
abbrev pub invariant-loop-node : goal.invariant-loop-node
invariant-loop-node l = Wrote l.initial.page.out.now l.initial.page.at (nodes_below l.node l.nodes) l.page.out.now l.page.at
