use Rattle.std.proofs.Common.{◌*◌, ◌++◌, arith}
use Rattle.text.specs.Text.{ascii, decimal, hex4}
use Rattle.text.specs.Built.{Built}
use Rattle.text.specs.BuiltLaws.{built_wrote, built_word, built_all, built_room}
use Rattle.text.specs.NumberedLaws.{built_numbered}
use Rattle.sessions.specs.Sessions.{target_count}
use Rattle.report.specs.State.{slot_size, nodes_below, slot_line}
use Rattle.report.specs.SlotLaws.{nodes_below_short}
use Rattle.report.proofs.slots.put_slot.Goals as goal

pub put_nodes-requires : goal.put_nodes-requires
unfolding ascii
put_nodes-requires c =
    let a = c.args in
    let head : Built slot_size 70 (ascii "slot " ++ decimal a.slot ++ ascii " session " ++ hex4 a.session ++ ascii " line " ++ decimal a.line ++ ascii " nodes") c.append_numbered.new.self.out.now c.append_numbered.new.self.at =
    built_numbered (ascii " line ") a.line (ascii " nodes") (omega arith) (omega arith) (rw c.from.ensures at c.append_numbered.ensures.leaves) c.put_head.ensures in
    built_room (4 * target_count) head (omega arith)

pub returns : goal.returns
unfolding slot_line ascii
returns c =
    let a = c.args in
    built_all (omega arith)
    (built_word (ascii "\n") (omega arith) c.append.ensures.leaves
    (built_wrote (nodes_below target_count a.nodes) (4 * target_count) (nodes_below_short target_count a.nodes (omega arith)) c.put_nodes.ensures
    (built_numbered (ascii " line ") a.line (ascii " nodes") (omega arith) (omega arith) (rw c.from.ensures at c.append_numbered.ensures.leaves) c.put_head.ensures)))
