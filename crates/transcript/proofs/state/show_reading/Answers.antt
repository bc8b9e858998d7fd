use Rattle.std.proofs.Common.{◌≡◌, length, arith, rules}
use Rattle.frame.specs.Line.{limit}
use Rattle.transcript.specs.LinesLaws.{writes_one}
use Rattle.transcript.specs.State.{reading_lines}
use Rattle.transcript.specs.StateLaws.{held_at, mode_of_at}
use Rattle.transcript.proofs.state.show_reading.Goals as goal

pub slice_bounds-reading_line-end : goal.slice_bounds-reading_line-end
slice_bounds-reading_line-end c =
    let long : length c.args.reading.bytes ≡ limit = search rules in
    omega (arith, c.taken_cursor-cursor.ensures.within, long)

pub returns : goal.returns
unfolding reading_lines
returns c =
    let r = c.args.reading in
    let p = c.taken_cursor-cursor in
    let state = p.ensures.state r.bytes in
    rw (← state, held_at r.bytes p.result.count p.result.mode p.ensures.clear, mode_of_at _ p.result.mode) (writes_one c.reading_line.ensures)
