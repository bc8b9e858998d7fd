use Rattle.std.proofs.Common.{◌≡◌, drop}
use Rattle.directory.specs.Lookup.{find}
use Rattle.directory.proofs.lookup.first.Given as goal

-- What is to be found is found from the place on.
abbrev pub invariant-loop-entry : goal.invariant-loop-entry
invariant-loop-entry l = find l.number l.entries ≡ find l.number (drop l.entry-index l.entries)
