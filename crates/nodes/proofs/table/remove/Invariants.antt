use Rattle.nodes.specs.Table.{remove_below}
use mathlib.Core.Path.{◌≡◌}
use Rattle.nodes.proofs.table.remove.Given as goal

-- The nodes below k that the bits name are removed.
abbrev pub invariant-loop-k : goal.invariant-loop-k
invariant-loop-k l = l.table ≡ remove_below l.bits l.k l.initial.table
