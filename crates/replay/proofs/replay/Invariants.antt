-- An open line is held up to one byte more than the longest line has.
use Rattle.std.proofs.Common.{◌+◌, ◌≤◌}
use Rattle.script.specs.Script.{longest}
use Rattle.replay.proofs.replay.Given as goal

abbrev pub invariant-loop : goal.invariant-loop
invariant-loop g l = l.held ≤ longest + 1
