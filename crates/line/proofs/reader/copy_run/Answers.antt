use Rattle.line.proofs.reader.Loop.{runs_next}
use Rattle.line.proofs.reader.copy_run.Goals as goal

pub loop-run-preserved : goal.loop-run-preserved
loop-run-preserved c = runs_next _ _ _ _ _ _ _ c.min-most.ensures c.loop-run-test.true c.loop-run.invariant (rw c.is_special.ensures at c.if-is_special.false)
