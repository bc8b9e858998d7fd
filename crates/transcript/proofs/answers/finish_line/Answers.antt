use Rattle.transcript.specs.Replies.{finish_line}
use Rattle.transcript.proofs.answers.finish_line.Goals as goal

pub returns-in-Ok : goal.returns-in-Ok
unfolding finish_line
returns-in-Ok c =
    rw (c.in-Ok.is, ← c.sent.ensures.spilled, ← c.sent.ensures.bytes) c.finished_line.ensures

pub returns-in-Err : goal.returns-in-Err
unfolding finish_line
returns-in-Err c = rw c.in-Err.is c.refused_line.ensures
