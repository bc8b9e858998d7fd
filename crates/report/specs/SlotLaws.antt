-- How long the nodes of a line are.
use Rattle.std.specs.Prelude.{ℕ, zero, suc, ◌*◌, ◌≤◌, ◌<◌, List, Bool, true, false, length}
use Rattle.std.proofs.Common.{arith, length-append}
use Rattle.nodes.specs.Table.{bit}
use Rattle.sessions.specs.Sessions.{target_count}
use Rattle.text.specs.Text.{ascii}
use Rattle.text.specs.DecimalLaws.{decimal-below}
use Rattle.report.specs.State.{node_word, nodes_below}

pub node_word_short : (node : ℕ) (marked : Bool) → node < target_count → length (node_word node marked) ≤ 4
unfolding node_word ascii
node_word_short node true h = omega (arith, decimal-below 3 node (omega arith) (omega arith))
node_word_short node false h = omega arith

pub nodes_below_short : (n : ℕ) (nodes : List ℕ) → n ≤ target_count → length (nodes_below n nodes) ≤ 4 * n
unfolding nodes_below
nodes_below_short zero nodes h = omega arith
nodes_below_short (suc n) nodes h =
    omega (arith, length-append (nodes_below n nodes) (node_word n (bit nodes n)), nodes_below_short n nodes (omega arith), node_word_short n (bit nodes n) (omega arith))
