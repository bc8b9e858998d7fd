use Rattle.std.proofs.Common.{◌≡◌, arith}
use Rattle.sessions.specs.Sessions.{slot_count, slot_at}
use Rattle.transcript.specs.Lines.{lines_below}
use Rattle.transcript.specs.LinesLaws.{writes_none, writes_more}
use Rattle.transcript.specs.State.{slot_lines}
use Rattle.transcript.proofs.state.show_slots.Goals as goal

pub loop-k-init : goal.loop-k-init
unfolding lines_below
loop-k-init c = writes_none _

pub loop-k-preserved : goal.loop-k-preserved
loop-k-preserved c = writes_more (λ k. slot_lines k (slot_at c.args.slots.now k)) _ c.loop-k.invariant (rw c.slot_at.ensures at c.show_slot.ensures)

pub returns : goal.returns
returns c = let all : c.loop-k.k ≡ slot_count = omega arith in rw all at c.loop-k.invariant
