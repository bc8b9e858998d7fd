use Rattle.text.specs.Text.{ascii}
use Rattle.report.specs.State.{end_line}
use Rattle.transcript.specs.LinesLaws.{writes_one, writes_then}
use Rattle.transcript.specs.State.{table_lines}
use Rattle.transcript.proofs.listing.list.Goals as goal

pub returns : goal.returns
unfolding table_lines end_line ascii
returns c = writes_then c.list_nodes.ensures (writes_one c.append.ensures)
