use Rattle.transcript.specs.Replies.{feed_line}
use Rattle.transcript.proofs.answers.feed_line.Goals as goal

pub returns-in-Ok : goal.returns-in-Ok
unfolding feed_line
returns-in-Ok c =
    rw (c.in-Ok.is, ← c.sent.ensures.spilled, ← c.sent.ensures.bytes) c.outcome_line.ensures

pub returns-in-Err : goal.returns-in-Err
unfolding feed_line
returns-in-Err c = rw c.in-Err.is c.refused_line.ensures
