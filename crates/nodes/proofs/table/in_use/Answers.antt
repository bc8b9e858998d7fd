use native.Mathlib.Nat.{add-zero}
use Rattle.nodes.specs.Table.{in_use}
use borrow.Author.Tests.{lt-ltb, le-ltb}
use Rattle.nodes.proofs.table.in_use.Goals as goal

pub returns-then-node-lt-NODES : goal.returns-then-node-lt-NODES
unfolding in_use
returns-then-node-lt-NODES c = simp (lt-ltb _ _ c.if-node-lt-NODES.true, add-zero, c.byte.ensures)

pub returns-else-node-lt-NODES : goal.returns-else-node-lt-NODES
unfolding in_use
returns-else-node-lt-NODES c = simp (le-ltb _ _ c.if-node-lt-NODES.false)
