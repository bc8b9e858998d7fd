use Rattle.sessions.proofs.SearchWords.{some_position}
use mathlib.Core.Path.{◌∙◌}
use Rattle.sessions.proofs.opening.is_number_open.Goals as goal

pub returns : goal.returns
returns c = c.is_some.ensures ∙ rw c.first_numbered.ensures (some_position _ _)
