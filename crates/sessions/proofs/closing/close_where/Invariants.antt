use Rattle.sessions.specs.declared.Slot.{Slot}
use Rattle.sessions.specs.Search.{Computes}
use Rattle.sessions.specs.Sessions.{close_below}
use mathlib.Core.Bool.{Bool}
use mathlib.Core.Path.{◌≡◌}
use Rattle.sessions.proofs.closing.close_where.Given as goal

-- The slots below k are done.
abbrev pub invariant-loop-k : goal.invariant-loop-k
invariant-loop-k g l = (p : Slot → Bool) → Computes (goal.F-post g l.test) p → l.slots ≡ close_below p l.k l.initial.slots
