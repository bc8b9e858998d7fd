use Rattle.text.specs.Text.{ascii}
use Rattle.report.specs.Report.{refused_line, line_end}
use Rattle.report.proofs.calls.refused_line.Goals as goal
use Rattle.report.proofs.calls.refused_line.Goals.{then-spilled, else-spilled}

pub returns : goal.returns
unfolding refused_line line_end ascii
returns c =
    elim c.if-spilled.branch [
      | then-spilled w ↦ rw w.if-spilled.true (rw (c.from.ensures, w.end-is) at c.append_numbered.ensures)
      | else-spilled w ↦ rw w.if-spilled.false (rw (c.from.ensures, w.end-is) at c.append_numbered.ensures)
    ]
