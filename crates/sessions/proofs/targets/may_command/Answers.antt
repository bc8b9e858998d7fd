use Rattle.sessions.specs.Sessions.{originators, may_command}
use Rattle.sessions.proofs.SearchWords.{member_is}
use borrow.Author.Tests.{le-leb, lt-leb}
use mathlib.Core.Path.{◌∙◌}
use Rattle.sessions.proofs.targets.may_command.Goals as goal

pub returns-then-priority-le-MAX_PRIORITY : goal.returns-then-priority-le-MAX_PRIORITY
unfolding may_command
returns-then-priority-le-MAX_PRIORITY c = c.contains.ensures.value ∙ member_is c.args.originator originators ∙ simp (le-leb _ _ c.if-priority-le-MAX_PRIORITY.true)

pub returns-else-priority-le-MAX_PRIORITY : goal.returns-else-priority-le-MAX_PRIORITY
unfolding may_command
returns-else-priority-le-MAX_PRIORITY c = simp (lt-leb _ _ c.if-priority-le-MAX_PRIORITY.false)
