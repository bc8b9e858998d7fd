use Rattle.std.proofs.Common.{sym, ◌∙◌}
use Rattle.report.specs.Report.{has_spilled}
use Rattle.transcript.specs.LinesLaws.{writes_none, writes_one}
use Rattle.transcript.specs.State.{record_lines}
use Rattle.transcript.proofs.state.show_record.Goals as goal

pub returns-then-spilled : goal.returns-then-spilled
unfolding record_lines has_spilled
returns-then-spilled c = simp (sym c.spilled.ensures ∙ c.if-spilled.true) (writes_one c.node_line.ensures)

pub returns-else-spilled : goal.returns-else-spilled
unfolding record_lines has_spilled
returns-else-spilled c = simp (sym c.spilled.ensures ∙ c.if-spilled.false) (writes_none _)
