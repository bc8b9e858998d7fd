use Rattle.text.specs.Text.{ascii}
use Rattle.report.specs.Report.{long_line}
use Rattle.report.proofs.bad.long_line.Goals as goal

pub returns : goal.returns
unfolding long_line ascii
returns c = c.append_numbered.ensures
