-- Reading frames on a lent record: the answer in two parts, as for packets (line/specs/Lent.antt).
use Rattle.std.specs.Prelude.{ℕ, List}
use Rattle.line.specs.declared.Reading.{Reading}
use Rattle.line.specs.declared.Told.{Told}
use Rattle.frame.specs.declared.FrameOutcome.{FrameOutcome}
use Rattle.frame.specs.Reader.{taken, read}
use Rattle.frame.specs.Answers.{Answers}
pub use Rattle.line.specs.Lent.{told_of, answer_with}

-- the record s is lent, and lies as e afterwards
abbrev pub ReadsFrame : Reading → List ℕ → Told FrameOutcome → Reading → Type 0
ReadsFrame s w t e = Answers (read (taken s) w) (answer_with t e)
