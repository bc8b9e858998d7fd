use Rattle.report.specs.State.{flag}
use Rattle.report.proofs.state.flag.Goals as goal

pub returns-then-set : goal.returns-then-set
unfolding flag
returns-then-set c = rw c.if-set.true

pub returns-else-set : goal.returns-else-set
unfolding flag
returns-else-set c = rw c.if-set.false
