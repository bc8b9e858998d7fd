use Rattle.std.proofs.Common.{◌≡◌, cond, ◌++◌, length, take, drop, replicate}
use Rattle.passwords.specs.Passwords.{stored}
use Rattle.passwords.proofs.stored.Given as goal

-- The bytes so far are as they are stored; behind a zero there are zeros only.
abbrev pub invariant-loop-b : goal.invariant-loop-b
invariant-loop-b l = stored l.fn.bytes ≡ take l.b-index l.b-items ++ cond l.inside (stored (drop l.b-index l.b-items)) (replicate (length (drop l.b-index l.b-items)) 0)
