use Rattle.std.proofs.Common.{take}
use Rattle.memory.specs.Wrote.{Wrote}
use Rattle.report.specs.Entry.{shown_all}
use Rattle.report.proofs.names.put_name.Given as goal

-- The text of the bytes so far is stored, and nothing else is.
abbrev pub invariant-loop-byte : goal.invariant-loop-byte
invariant-loop-byte l = Wrote l.initial.page.out.now l.initial.page.at (shown_all (take l.byte-index l.name)) l.page.out.now l.page.at
