use Rattle.std.proofs.Common.{◌≡◌, add-one, arith}
use Rattle.memory.specs.WroteLaws.{none, then, kept}
use Rattle.sessions.specs.Sessions.{target_count}
use Rattle.report.specs.State.{nodes_below}
use Rattle.report.specs.SlotLaws.{nodes_below_short}
use Rattle.report.proofs.slots.put_nodes.Goals as goal

pub loop-node-init : goal.loop-node-init
unfolding nodes_below
loop-node-init c = none _ _

pub put_node-requires : goal.put_node-requires
put_node-requires c =
    let l = c.loop-node in
    (omega arith, omega (arith, c.requires, l.invariant.place, kept l.invariant, nodes_below_short l.node c.args.nodes (omega arith)))

pub loop-node-preserved : goal.loop-node-preserved
unfolding nodes_below
loop-node-preserved c =
    let more = rw c.bit.ensures at c.put_node.ensures in
    rw add-one (then c.loop-node.invariant more)

pub returns : goal.returns
returns c =
    let l = c.loop-node in
    let e : l.node ≡ target_count = omega arith in
    rw e at l.invariant
