use Rattle.std.proofs.Common.{◌≡◌, map, length, get_or}
use Rattle.frame.specs.Reader.{emptied, taken}
use Rattle.rules.specs.Hub.{line_count}
use Rattle.transcript.specs.Lines.{WritesAll, lines_below}
use Rattle.transcript.specs.State.{reading_lines}
use Rattle.transcript.proofs.state.show_readings.Given as goal

-- The readings below the place are shown.
abbrev pub invariant-loop-k : goal.invariant-loop-k
invariant-loop-k l = (length l.readings ≡ line_count) × WritesAll (lines_below (λ n. reading_lines n (get_or (map taken l.readings) n emptied)) l.k) l.initial.page l.page
