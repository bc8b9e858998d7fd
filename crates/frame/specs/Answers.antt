-- What judging and reading promise.
use Rattle.std.specs.Prelude.{ℕ, ◌+◌, ◌≤◌, ◌≡◌, List, Result, Ok, Err, length, take, drop}
use Rattle.std.proofs.Math.Option.{Option, none, some}
use Rattle.line.specs.Reader.{limit}
use Rattle.line.specs.Answers.{Clear}
pub use Rattle.line.specs.Answers.{answer_of}
use Rattle.frame.specs.declared.AcceptedFrame.{AcceptedFrame}
use Rattle.frame.specs.declared.PacketRefusal.{PacketRefusal}
use Rattle.frame.specs.declared.FrameOutcome.{FrameOutcome as Given}
use Rattle.frame.specs.declared.FrameOutcome.TheVariants as given
use Rattle.line.specs.declared.Answer.{Answer}
use Rattle.frame.specs.Frame.{Outcome, frame, refused, refusal, max_data, head, around, framed}
use Rattle.frame.specs.Reader.{Scan, State, taken}

-- what a judgement of the bytes h tells: a frame's data are a part of h
abbrev pub judged_as : List ℕ → Result AcceptedFrame PacketRefusal → Outcome
judged_as h (Ok f) = frame f.command (take f.len (drop f.start h))
judged_as h (Err r) = refused (refusal r)

-- they begin behind the frame's head and end before its check byte
abbrev pub JudgedWithin : List ℕ → Result AcceptedFrame PacketRefusal → Type 0
JudgedWithin h (Ok f) = (f.start ≡ head) × (f.len + around ≡ length h) × (f.len ≤ max_data)
JudgedWithin h (Err r) = Unit {0}

-- the packet is the frame that is made of command and data, protocol byte to check byte
abbrev pub JudgedWhole : List ℕ → Result AcceptedFrame PacketRefusal → Type 0
JudgedWhole h (Ok f) = h ≡ framed f.command (take f.len (drop f.start h))
JudgedWhole h (Err r) = Unit {0}

pub record Judges (x : Outcome) (h : List ℕ) (r : Result AcceptedFrame PacketRefusal) : Type 0 where
  pub told : judged_as h r ≡ x
  pub within : JudgedWithin h r
  pub whole : JudgedWhole h r

-- the outcome that an answer tells; a frame's data stand in the record's array behind the frame's head
abbrev pub told : Given → List ℕ → Option Outcome
told given.Nothing bs = none
told (given.Frame c n) bs = some (frame c (take n (drop head bs)))
told (given.Refused r) bs = some (refused (refusal r))

abbrev pub seen : Answer Given → Scan State Outcome
seen r = record { used = r.used; outcome = told r.outcome r.reading.bytes; after = taken r.reading }

-- a frame's data lie within the array
abbrev pub Within : Given → Type 0
Within given.Nothing = Unit {0}
Within (given.Frame c n) = n ≤ max_data
Within (given.Refused r) = Unit {0}

-- and its whole packet stands at the array's front, protocol byte to check byte
abbrev pub Whole : Given → List ℕ → Type 0
Whole given.Nothing bs = Unit {0}
Whole (given.Frame c n) bs = take (n + around) bs ≡ framed c (take n (drop head bs))
Whole (given.Refused r) bs = Unit {0}

-- The promise of a call: r tells what the definition x gives, and each count in it lies within the array.
-- Left to the program: the array's places beyond the bytes held and, where a frame is told, beyond its packet; it stays 255 long.
pub record Answers (x : Scan State Outcome) (r : Answer Given) : Type 0 where
  pub told : seen r ≡ x
  pub data_within : Within r.outcome
  pub packet : Whole r.outcome r.reading.bytes
  pub count_within : r.reading.count ≤ limit
  pub clear : Clear r.reading.mode r.reading.count
  pub full : length r.reading.bytes ≡ limit
