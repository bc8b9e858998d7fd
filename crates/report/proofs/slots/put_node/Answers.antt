use Rattle.std.proofs.Common.{◌++◌, append-nil, arith}
use Rattle.memory.specs.WroteLaws.{none}
use Rattle.text.specs.Text.{ascii, decimal}
use Rattle.text.specs.DecimalLaws.{decimal-below}
use Rattle.text.specs.AppendedLaws.{leaves_wrote}
use Rattle.report.specs.State.{node_word}
use Rattle.report.proofs.slots.put_node.Goals as goal

pub returns-then-marked : goal.returns-then-marked
unfolding node_word ascii
returns-then-marked c =
    let a = c.args in
    let short = decimal-below 3 a.node (omega arith) (omega (arith, c.requires)) in
    rw c.if-marked.true (leaves_wrote (omega (arith, c.requires)) (rw (append-nil (ascii " " ++ decimal a.node)) at c.append_numbered.ensures.leaves))

pub returns-else-marked : goal.returns-else-marked
unfolding node_word
returns-else-marked c = rw c.if-marked.false (none _ _)
