use native.Mathlib.Omega.{arith}
use lib.Seq.{take_all}
use Rattle.memory.specs.WroteLaws.{none, then, kept}
use Rattle.line.specs.Wire.{escape}
use Rattle.line.specs.WireLaws.{escape_more, escape_within}
use Rattle.frame.proofs.writer.put_all.Goals as goal

pub loop-b-init : goal.loop-b-init
unfolding escape
loop-b-init c = none _ _

pub put-at-requires : goal.put-at-requires
put-at-requires c =
    let w = c.loop-b.invariant in
    omega (arith, kept w, w.place, escape_within c.args.bytes.now c.loop-b.b-index c.loop-b-test.true, c.requires)

pub loop-b-preserved : goal.loop-b-preserved
loop-b-preserved c = rw (escape_more _ _ c.loop-b-test.true) (then c.loop-b.invariant c.put-at.ensures)

pub shape_of-room : goal.shape_of-room
shape_of-room c = kept c.loop-b.invariant

pub returns : goal.returns
returns c = rw (take_all _ _ c.loop-b-test.false) at c.loop-b.invariant
