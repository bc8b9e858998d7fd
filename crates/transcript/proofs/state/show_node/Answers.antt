use Rattle.std.proofs.lemmas.Bool.{lt-leb, le-leb}
use Rattle.transcript.specs.LinesLaws.{writes_none}
use Rattle.transcript.specs.State.{node_lines}
use Rattle.transcript.proofs.state.show_node.Goals as goal

pub returns-in-Some : goal.returns-in-Some
unfolding node_lines
returns-in-Some c = simp (le-leb _ _ c.in-Some.ensures.within) (rw c.in-Some.ensures.fields at c.show_record.ensures)

pub returns-in_default : goal.returns-in_default
unfolding node_lines
returns-in_default c = simp (lt-leb _ _ c.in_default.ensures.none) (writes_none _)
