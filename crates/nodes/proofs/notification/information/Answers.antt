use Rattle.nodes.specs.TableLaws.{used-below}
use Rattle.nodes.specs.Table.{in_use, informed}
use borrow.Author.Tests.{eq-eqb, ne_eqb}
use mathlib.Core.Bool.{true, false}
use mathlib.Core.Path.{◌≡◌, sym, ◌∙◌}
use Rattle.nodes.proofs.notification.information.Goals as goal
use Rattle.nodes.proofs.notification.information.Goals.{else-table-eq-TABLE-via-then-table-eq-TABLE+else-in_use, else-table-eq-TABLE-via-else-table-eq-TABLE}

pub information_of-requires : goal.information_of-requires
information_of-requires c =
    let used : in_use c.args.table.now c.args.node ≡ true = rw c.from.ensures at (sym c.in_use.ensures ∙ c.if-in_use.true) in
    (c.if-table-eq-TABLE.true, used-below _ _ used)

pub returns-then-in_use : goal.returns-then-in_use
unfolding informed
returns-then-in_use c =
    let used : in_use c.args.table.now c.args.node ≡ true = rw c.from.ensures at (sym c.in_use.ensures ∙ c.if-in_use.true) in
    simp (eq-eqb _ _ c.if-table-eq-TABLE.true, used, c.information_of.ensures)

pub returns-else-table-eq-TABLE : goal.returns-else-table-eq-TABLE
unfolding informed
returns-else-table-eq-TABLE c =
    elim c.else-table-eq-TABLE.branch [
      | else-table-eq-TABLE-via-then-table-eq-TABLE+else-in_use w ↦
          let unused : in_use c.args.table.now c.args.node ≡ false = rw w.from.ensures at (sym w.in_use.ensures ∙ w.if-in_use.false) in
          simp (eq-eqb _ _ w.if-table-eq-TABLE.true, unused)
      | else-table-eq-TABLE-via-else-table-eq-TABLE w ↦ simp (ne_eqb _ _ w.if-table-eq-TABLE.false)
    ]
