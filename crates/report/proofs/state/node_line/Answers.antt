use Rattle.text.specs.Text.{ascii}
use Rattle.report.specs.State.{node_line}
use Rattle.report.proofs.state.node_line.Goals as goal

pub returns : goal.returns
unfolding node_line ascii
returns c = rw c.from.ensures at c.bytes_line.ensures
