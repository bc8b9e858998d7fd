use Rattle.transcript.specs.Replies.{refusal_line}
use Rattle.transcript.proofs.answers.refused_line.Goals as goal

pub returns : goal.returns
unfolding refusal_line
returns c = rw (← c.spilled-spilled.ensures, ← c.number.ensures) c.refused_line.ensures
