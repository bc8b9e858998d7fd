use Rattle.transcript.specs.Replies.{outcome_line}
use Rattle.transcript.proofs.answers.outcome_line.Goals as goal

pub returns-in-Nothing : goal.returns-in-Nothing
unfolding outcome_line
returns-in-Nothing c = rw c.in-Nothing.is c.none_line.ensures

pub returns-in-Frame : goal.returns-in-Frame
unfolding outcome_line
returns-in-Frame c = rw c.in-Frame.is c.frame_line.ensures

pub returns-in-Refused : goal.returns-in-Refused
unfolding outcome_line
returns-in-Refused c = rw (c.in-Refused.is, ← c.number-number.ensures) c.packet_line.ensures
