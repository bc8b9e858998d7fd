use Rattle.sessions.specs.Sessions.{slot_at}
use Rattle.transcript.specs.Lines.{WritesAll, lines_below}
use Rattle.transcript.specs.State.{slot_lines}
use Rattle.transcript.proofs.state.show_slots.Given as goal

-- The slots below the place are shown.
abbrev pub invariant-loop-k : goal.invariant-loop-k
invariant-loop-k l = WritesAll (lines_below (λ n. slot_lines n (slot_at l.slots n)) l.k) l.initial.page l.page
