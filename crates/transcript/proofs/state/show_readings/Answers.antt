use Rattle.std.proofs.Common.{◌≡◌, arith, rules}
use Rattle.frame.specs.Reader.{emptied, taken}
use Rattle.rules.specs.Hub.{line_count}
use Rattle.transcript.specs.Lines.{lines_below}
use Rattle.transcript.specs.LinesLaws.{writes_none, writes_mapped}
use Rattle.transcript.specs.State.{reading_lines}
use Rattle.transcript.proofs.state.show_readings.Goals as goal

pub loop-k-init : goal.loop-k-init
unfolding lines_below
loop-k-init c = (search rules, writes_none _)

pub loop-k-preserved : goal.loop-k-preserved
loop-k-preserved c =
    let l = c.loop-k in
    (l.invariant.0, writes_mapped taken reading_lines c.args.readings _ emptied l.k (omega (arith, l.invariant.0)) l.invariant.1 c.show_reading.ensures)

pub returns : goal.returns
returns c = let all : c.loop-k.k ≡ line_count = omega arith in rw all at c.loop-k.invariant.1
