-- Each turn uses some of the bytes left.
use Rattle.std.proofs.Common.{length}
use Rattle.cases.proofs.read_all.Given as goal

abbrev pub decreases-loop-rest : goal.decreases-loop-rest
decreases-loop-rest l = length l.rest
