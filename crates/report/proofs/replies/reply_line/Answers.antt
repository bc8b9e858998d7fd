use Rattle.text.specs.Text.{ascii}
use Rattle.report.specs.Report.{line_end}
use Rattle.report.proofs.replies.reply_line.Goals as goal
use Rattle.report.proofs.replies.reply_line.Goals.{then-reply, else-reply}

pub returns : goal.returns
unfolding line_end ascii
returns c =
    elim c.if-reply.branch [
      | then-reply w ↦ rw w.if-reply.true (rw w.end-is at c.bytes_line.ensures)
      | else-reply w ↦ rw w.if-reply.false (rw w.end-is at c.bytes_line.ensures)
    ]
