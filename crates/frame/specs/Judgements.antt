-- What conversions between causes, refusals and outcomes give, and what the private functions of `checks` and `reader` answer.
use Rattle.std.specs.Prelude.{ℕ, ◌≤◌, ◌≡◌, List, Result, Ok, Err, length}
use Rattle.line.specs.declared.Fault.{Fault}
use Rattle.line.specs.declared.Fault.TheVariants as fault
use Rattle.line.specs.declared.PacketOutcome.{PacketOutcome as Got}
use Rattle.line.specs.declared.FaultAt.{FaultAt}
use Rattle.line.specs.Reader.{limit}
use Rattle.line.specs.Answers.{told as packet_of}
use Rattle.frame.specs.declared.Cause.{Cause}
use Rattle.frame.specs.declared.Cause.TheVariants as cause
use Rattle.frame.specs.declared.PacketRefusal.{PacketRefusal}
use Rattle.frame.specs.declared.AcceptedFrame.{AcceptedFrame}
use Rattle.frame.specs.declared.FrameOutcome.{FrameOutcome}
use Rattle.frame.specs.declared.FrameOutcome.TheVariants as given
use Rattle.frame.specs.Frame.{decoded_at, byte_at}
use Rattle.frame.specs.Reader.{verdict}
use Rattle.frame.specs.Answers.{told, Within, Whole}

-- `refused` of `checks`: a refusal at the decoded place d of the packet h, or at the END behind it
abbrev pub InPacket : List ℕ → ℕ → Type 0
InPacket h d = (d ≤ length h) × (d ≤ limit)

abbrev pub refused_at : Cause → List ℕ → ℕ → PacketRefusal
refused_at c h d = record { cause = c; at = byte_at h (decoded_at d) }

-- a fault of the line reader, as a cause and as a packet refusal
abbrev pub cause_of : Fault → Cause
cause_of fault.WrongEscape = cause.WrongEscape
cause_of fault.TooLong = cause.TooLong

abbrev pub refusal_of : FaultAt → PacketRefusal
refusal_of f = record { cause = cause_of f.fault; at = f.at }

-- a judgement, as an outcome
abbrev pub outcome_of : Result AcceptedFrame PacketRefusal → FrameOutcome
outcome_of (Ok f) = given.Frame f.command f.len
outcome_of (Err r) = given.Refused r

-- `judge_in`: the outcome is the line reader's, judged
pub record Judging (bs : List ℕ) (g : Got) (r : FrameOutcome) : Type 0 where
  pub told : told r bs ≡ verdict (packet_of g bs)
  pub within : Within r
  pub whole : Whole r bs
  pub full : length bs ≡ limit
