use Rattle.sessions.proofs.SearchWords.{some_position}
use mathlib.Core.Path.{◌∙◌}
use Rattle.sessions.proofs.opening.has_free.Goals as goal

pub returns : goal.returns
returns c = c.is_some.ensures ∙ rw c.first_free.ensures (some_position _ _)
