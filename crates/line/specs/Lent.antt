-- Reading on a lent record: the answer in two parts, what is told and the record where it lies. The promise is that of the call by
-- value, of the record that was lent and of the answer that the two parts make.
use Rattle.std.specs.Prelude.{ℕ, List}
use Rattle.line.specs.declared.PacketOutcome.{PacketOutcome}
use Rattle.line.specs.declared.Reading.{Reading}
use Rattle.line.specs.declared.Answer.{Answer}
use Rattle.line.specs.declared.Told.{Told}
use Rattle.line.specs.Reader.{read}
use Rattle.line.specs.Answers.{taken, Answers}

abbrev pub told_of : {O : Type 0} → Answer O → Told O
told_of a = record { used = a.used; outcome = a.outcome }

abbrev pub answer_with : {O : Type 0} → Told O → Reading → Answer O
answer_with t e = record { used = t.used; outcome = t.outcome; reading = e }

-- the record s is lent, and lies as e afterwards
abbrev pub ReadsPacket : Reading → List ℕ → Told PacketOutcome → Reading → Type 0
ReadsPacket s w t e = Answers (read (taken s) w) (answer_with t e)
