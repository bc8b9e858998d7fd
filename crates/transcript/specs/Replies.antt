-- What a replayed call answers: the line of its answer and of what it left in the room.
use Rattle.std.specs.Prelude.{ℕ, List, Bool, false, take, Ok, Err}
use Rattle.frame.specs.Frame as packet
use Rattle.frame.specs.declared.FrameOutcome.{FrameOutcome}
use Rattle.frame.specs.declared.FrameOutcome.TheVariants as outcome
use Rattle.rules.specs.Answers.{CallAnswer, FinishAnswer, FeedAnswer, number}
use Rattle.rules.specs.declared.CallRefusal.{CallRefusal}
use Rattle.report.specs.Report.{done_line, refused_line, finished_line, none_line, frame_line, packet_line, has_spilled}

-- the lent room is filled with it before each call
abbrev pub filler : ℕ
filler = 0xA5

-- a call without room
unfoldable pub call_line : CallAnswer → List ℕ
call_line (Ok done) = done_line
call_line (Err r) = refused_line (number r) false

-- a call with room: where it is refused, no byte of the room may have changed
unfoldable pub refusal_line : CallRefusal → List ℕ → List ℕ
refusal_line r room = refused_line (number r) (has_spilled room 0 filler)

-- else the reply stands at the room's front, and no byte behind it may have changed
unfoldable pub finish_line : FinishAnswer → List ℕ → List ℕ
finish_line (Ok n) room = finished_line n.line (take n.len room) (has_spilled room n.len filler)
finish_line (Err r) room = refusal_line r room

-- by what a feed came to
unfoldable pub outcome_line : ℕ → FrameOutcome → List ℕ → Bool → List ℕ
outcome_line used outcome.Nothing reply spilled = none_line used reply spilled
outcome_line used (outcome.Frame command len) reply spilled = frame_line used command len reply spilled
outcome_line used (outcome.Refused r) reply spilled = packet_line used (packet.number r.cause) r.at reply spilled

unfoldable pub feed_line : FeedAnswer → List ℕ → List ℕ
feed_line (Ok x) room = outcome_line x.used x.outcome (take x.len room) (has_spilled room x.len filler)
feed_line (Err r) room = refusal_line r room
