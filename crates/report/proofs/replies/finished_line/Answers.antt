use Rattle.text.specs.Text.{ascii}
use Rattle.report.specs.Report.{finished_line}
use Rattle.report.proofs.replies.finished_line.Goals as goal

pub returns : goal.returns
unfolding finished_line ascii
returns c = rw c.from.ensures at c.reply_line.ensures
