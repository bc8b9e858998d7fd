use Rattle.std.proofs.Common.{◌≡◌, drop, ◌||◌}
use Rattle.report.specs.Report.{has_other}
use Rattle.report.proofs.calls.spilled.Given as goal

-- One was found so far, or the rest decides.
abbrev pub invariant-loop-byte : goal.invariant-loop-byte
invariant-loop-byte l = has_other l.filler l.byte-items ≡ (l.found || has_other l.filler (drop l.byte-index l.byte-items))
