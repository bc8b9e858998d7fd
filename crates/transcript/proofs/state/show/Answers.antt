use Rattle.text.specs.Text.{ascii}
use Rattle.report.specs.State.{end_line}
use Rattle.transcript.specs.LinesLaws.{writes_one, writes_then}
use Rattle.transcript.specs.State.{state_lines}
use Rattle.transcript.proofs.state.show.Goals as goal

pub returns : goal.returns
unfolding state_lines end_line ascii
returns c =
    let login = rw c.logged_in.ensures at c.login_line.ensures in
    writes_then (writes_then (writes_then (writes_then (writes_one login) c.show_slots.ensures) c.show_nodes.ensures) c.show_readings.ensures) (writes_one c.append.ensures)
