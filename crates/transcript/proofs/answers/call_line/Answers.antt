use Rattle.text.specs.Text.{ascii}
use Rattle.report.specs.Report.{done_line}
use Rattle.transcript.specs.Replies.{call_line}
use Rattle.transcript.proofs.answers.call_line.Goals as goal

pub returns-in-Ok : goal.returns-in-Ok
unfolding call_line done_line ascii
returns-in-Ok c = rw c.in-Ok.is c.append.ensures

pub returns-in-Err : goal.returns-in-Err
unfolding call_line
returns-in-Err c = rw (c.in-Err.is, ← c.number.ensures) c.refused_line.ensures
