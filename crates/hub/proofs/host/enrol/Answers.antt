use borrow.Author.Tests.{eq-eqb, ne_eqb, lt-ltb, le-ltb}
use mathlib.Core.Path.{sym, ◌∙◌}
use native.Mathlib.Omega.{arith}
use Rattle.nodes.specs.Table.{node_count}
use Rattle.hub.proofs.host.enrol.Goals as goal

pub returns-then-table-ne-TABLE : goal.returns-then-table-ne-TABLE
returns-then-table-ne-TABLE c = simp (ne_eqb _ _ c.if-table-ne-TABLE.true)

pub returns-then-from-ge-NODES : goal.returns-then-from-ge-NODES
returns-then-from-ge-NODES c = simp (eq-eqb _ _ c.if-table-ne-TABLE.false, le-ltb c.args.node node_count (omega arith))

pub returns-then-in_use : goal.returns-then-in_use
returns-then-in_use c =
    let used = rw c.from-2.ensures at c.in_use.ensures in
    simp (eq-eqb _ _ c.if-table-ne-TABLE.false, lt-ltb c.args.node node_count (omega arith), sym used ∙ c.if-in_use.true)

pub returns : goal.returns
returns c =
    let used = rw c.from-2.ensures at c.in_use.ensures in
    simp (eq-eqb _ _ c.if-table-ne-TABLE.false, lt-ltb c.args.node node_count (omega arith), sym used ∙ c.if-in_use.false, c.enrol.ensures)
