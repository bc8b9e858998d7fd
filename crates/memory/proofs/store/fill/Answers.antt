use Rattle.std.proofs.Common.{arith}
use Rattle.std.proofs.lemmas.Grind.{common_steps}
use Rattle.memory.proofs.StoreLaws.{filled, filled_none}
use Rattle.memory.proofs.store.fill.Goals as goal

pub returns-then-n-gt0 : goal.returns-then-n-gt0
returns-then-n-gt0 c = filled _ _ _ _ _ _ c.fit-n.ensures c.if-n-gt0.true (grind (arith, common_steps))

pub returns-else-n-gt0 : goal.returns-else-n-gt0
returns-else-n-gt0 c = filled_none _ _ _ _ _ c.fit-n.ensures c.if-n-gt0.false
