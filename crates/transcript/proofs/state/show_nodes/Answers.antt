use Rattle.std.proofs.Common.{◌≡◌, arith}
use Rattle.nodes.specs.Table.{node_count}
use Rattle.transcript.specs.Lines.{lines_below}
use Rattle.transcript.specs.LinesLaws.{writes_none, writes_more}
use Rattle.transcript.proofs.state.show_nodes.Goals as goal

pub loop-node-init : goal.loop-node-init
unfolding lines_below
loop-node-init c = writes_none _

pub loop-node-preserved : goal.loop-node-preserved
loop-node-preserved c = writes_more _ _ c.loop-node.invariant c.show_node.ensures

pub returns : goal.returns
returns c = let all : c.loop-node.node ≡ node_count = omega arith in rw all at c.loop-node.invariant
