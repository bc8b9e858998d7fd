use Rattle.std.specs.Prelude.{is_some}
use Rattle.sessions.specs.Sessions.{holds}
use Rattle.sessions.proofs.SearchWords.{some_position}
use borrow.Author.Rules.{rules}
use mathlib.Core.Path.{ap, ◌∙◌}
use Rattle.sessions.proofs.opening.is_held.Goals as goal

pub returns : goal.returns
returns c = c.is_some.ensures ∙ ap is_some (c.first_where.ensures (holds c.args.node) (λ s r e. search rules)) ∙ some_position _ _
