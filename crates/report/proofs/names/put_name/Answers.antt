use Rattle.std.proofs.Common.{take, arith, take_all, length-take-le}
use Rattle.memory.specs.WroteLaws.{none, then, kept}
use Rattle.report.specs.Entry.{shown_all}
use Rattle.report.specs.EntryLaws.{shown_more, shown_all_short}
use Rattle.report.proofs.names.put_name.Goals as goal

pub loop-byte-init : goal.loop-byte-init
unfolding shown_all
loop-byte-init c = none _ _

pub put_byte-requires : goal.put_byte-requires
put_byte-requires c =
    let l = c.loop-byte in
    let name = c.args.name.now in
    omega (arith, kept l.invariant, l.invariant.place, shown_all_short (take l.byte-index name), length-take-le l.byte-index name (omega arith), c.requires)

pub loop-byte-preserved : goal.loop-byte-preserved
loop-byte-preserved c = rw (shown_more _ c.loop-byte.byte-index c.loop-byte-test.true) (then c.loop-byte.invariant c.put_byte.ensures)

pub returns : goal.returns
returns c = rw (take_all _ _ c.loop-byte-test.false) at c.loop-byte.invariant
