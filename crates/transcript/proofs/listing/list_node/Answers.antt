use Rattle.std.proofs.Common.{◌*◌, arith, ap, length, drop, length-take, length-drop}
use Rattle.std.proofs.lemmas.Bool.{lt-leb, le-leb}
use Rattle.nodes.specs.Table.{record_size}
use Rattle.transcript.specs.LinesLaws.{writes_none}
use Rattle.transcript.specs.State.{listed_lines}
use Rattle.transcript.proofs.listing.list_node.Goals as goal

pub list_record-requires : goal.list_record-requires
list_record-requires c =
    let start = c.args.node * record_size in
    omega (arith, ap (length) c.in-Some.ensures.fields, length-take record_size (drop start c.args.table.now), length-drop start c.args.table.now, c.in-Some.ensures.within)

pub returns-in-Some : goal.returns-in-Some
unfolding listed_lines
returns-in-Some c = simp (le-leb _ _ c.in-Some.ensures.within) (rw c.in-Some.ensures.fields at c.list_record.ensures)

pub returns-in_default : goal.returns-in_default
unfolding listed_lines
returns-in_default c = simp (lt-leb _ _ c.in_default.ensures.none) (writes_none _)
