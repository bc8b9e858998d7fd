use Rattle.text.specs.Text.{ascii}
use Rattle.report.specs.Report.{none_line}
use Rattle.report.proofs.replies.none_line.Goals as goal

pub returns : goal.returns
unfolding none_line ascii
returns c = c.reply_line.ensures
