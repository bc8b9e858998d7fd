use Rattle.std.specs.Prelude.{take}
use Rattle.memory.specs.Wrote.{Wrote}
use Rattle.line.specs.Wire.{escape}
use Rattle.frame.proofs.writer.put_all.Given as goal

-- The bytes so far are written, escaped; each turn writes one more.
abbrev pub invariant-loop-b : goal.invariant-loop-b
invariant-loop-b l = Wrote l.initial.room l.start (escape (take l.b-index l.bytes)) l.room l.at
