use borrow.Author.Tests.{eq-eqb, ne_eqb}
use mathlib.Core.Path.{◌∙◌}
use Rattle.requests.proofs.effects.open_if.Goals as goal

pub returns-then-status-from : goal.returns-then-status-from
returns-then-status-from c = simp (eq-eqb _ _ (c.if-status-from.true ∙ c.from.ensures)) (c.open_session.ensures ∙ rw c.mode_send_of.ensures)

pub returns-else-status-from : goal.returns-else-status-from
returns-else-status-from c = simp (ne_eqb _ _ (rw c.from.ensures at c.if-status-from.false))
