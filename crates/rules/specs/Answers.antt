-- What the hub's calls answer, by document 01's numbers.
use Rattle.std.specs.Prelude.{ℕ, ◌≤◌, ◌≡◌, List, length, Result, Ok, Err}
use Rattle.std.proofs.Math.Option.{Option, none, some}
use Rattle.line.specs.declared.Reading.{Reading}
use Rattle.frame.specs.Line.{limit, Clear}
use Rattle.frame.specs.Answers as outcome
use Rattle.sessions.specs.Sessions as sessions
use Rattle.feeds.specs.System as feeds
use Rattle.feeds.specs.Service.{Got}
use Rattle.rules.specs.declared.Hub.{Hub}
use Rattle.rules.specs.Hub as rules
use Rattle.rules.specs.declared.CallRefusal.{CallRefusal}
use Rattle.rules.specs.declared.CallRefusal.TheVariants as cause
use Rattle.rules.specs.declared.Notice.{Notice}
use Rattle.rules.specs.declared.Told.{Told}

-- what start, enrol and close answer, what finish does, and what feed does
abbrev pub CallAnswer : Type 0
CallAnswer = Result (Unit {0}) CallRefusal

abbrev pub FinishAnswer : Type 0
FinishAnswer = Result Notice CallRefusal

abbrev pub FeedAnswer : Type 0
FeedAnswer = Result Told CallRefusal

-- the number of each refusal
abbrev pub number : CallRefusal → ℕ
number cause.WrongTable = rules.wrong_table
number cause.WrongLine = rules.wrong_line
number cause.ShortRoom = rules.short_room
number cause.WrongNode = rules.wrong_node
number cause.NodeInUse = rules.node_in_use
number cause.NotOpen = sessions.not_open
number cause.WrongPassword = rules.wrong_password

abbrev pub refusal_of : CallAnswer → Option ℕ
refusal_of (Ok done) = none
refusal_of (Err r) = some (number r)

-- what each call comes to, with the memory that it was lent
abbrev pub started_of : CallAnswer → Hub → List ℕ → rules.Started
started_of a h t = record { refusal = refusal_of a; hub = h; table = t }

abbrev pub enrolled_of : CallAnswer → List ℕ → rules.Enrolled
enrolled_of a t = record { refusal = refusal_of a; table = t }

-- a closed line: refusal, hub and record
pub record ClosedLine : Type 0 where
  pub refusal : Option ℕ
  pub hub : Hub
  pub reading : Reading

abbrev pub closed_of : CallAnswer → Hub → Reading → ClosedLine
closed_of a h e = record { refusal = refusal_of a; hub = h; reading = e }

abbrev pub finish_of : FinishAnswer → rules.Finish
finish_of (Ok n) = rules.finished_on n.line n.len
finish_of (Err r) = rules.refused_finish (number r)

-- a finished session: answer, hub and room
pub record FinishedSession : Type 0 where
  pub answer : rules.Finish
  pub hub : Hub
  pub room : List ℕ

abbrev pub finished_of : FinishAnswer → Hub → List ℕ → FinishedSession
finished_of a h room = record { answer = finish_of a; hub = h; room = room }

-- a frame's data stand in the record's bytes
abbrev pub answer_of : FeedAnswer → List ℕ → feeds.Answer
answer_of (Ok x) bytes = feeds.told x.used (outcome.told x.outcome bytes) x.len
answer_of (Err r) bytes = feeds.refused (number r)

abbrev pub fed_of : FeedAnswer → Hub → List ℕ → Reading → List ℕ → Got rules.hub
fed_of a h t e room = record { hub = h; table = t; reading = e; answer = answer_of a e.bytes; room = room }

-- a record that a call gives back has its 255 places, claims no more bytes, and none while it skips, which it does at places that bytes leave;
-- one of a refused call lies as it was lent
abbrev pub Bounded : Reading → Type 0
Bounded r = (length r.bytes ≡ limit) × (r.count ≤ limit) × Clear r.mode r.count

abbrev pub BoundedClosed : CallAnswer → Reading → Type 0
BoundedClosed (Ok done) r = Bounded r
BoundedClosed (Err why) r = Unit {0}

-- and the data of a frame that is told lie within them
abbrev pub BoundedFed : FeedAnswer → Reading → Type 0
BoundedFed (Ok x) r = Bounded r × outcome.Within x.outcome
BoundedFed (Err why) r = Unit {0}
