use Rattle.std.proofs.Common.{sym, ◌∙◌}
use Rattle.transcript.specs.LinesLaws.{writes_none, writes_one}
use Rattle.transcript.specs.State.{slot_lines}
use Rattle.transcript.proofs.state.show_slot.Goals as goal

pub returns-then-is_open : goal.returns-then-is_open
unfolding slot_lines
returns-then-is_open c = simp (sym c.is_open.ensures ∙ c.if-is_open.true) (writes_one c.slot_line.ensures)

pub returns-else-is_open : goal.returns-else-is_open
unfolding slot_lines
returns-else-is_open c = simp (sym c.is_open.ensures ∙ c.if-is_open.false) (writes_none _)
