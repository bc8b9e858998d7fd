use Rattle.nodes.specs.Table.{bit}
use Rattle.nodes.proofs.table.bit.Goals as goal

pub returns : goal.returns
unfolding bit
returns c = rw c.byte.ensures
