use mathlib.Core.Path.{◌≡◌}
use lib.ListN.{length, drop, replicate}
use Rattle.sessions.specs.Sessions.{mark_bytes, marked}
use Rattle.sessions.proofs.opening.marked.Given as goal

-- The indices before the place are marked, and every mark has its byte.
abbrev pub invariant-loop-target : goal.invariant-loop-target
invariant-loop-target l = (length l.marks ≡ mark_bytes) × (marked (replicate mark_bytes 0) l.indices ≡ marked l.marks (drop l.target-index l.indices))
