use Rattle.nodes.specs.Table.{remove_one}
use mathlib.Core.Path.{sym, ◌∙◌}
use Rattle.nodes.proofs.table.remove_one.Goals as goal

pub returns-then-is_removed : goal.returns-then-is_removed
unfolding remove_one
returns-then-is_removed c = simp (sym c.is_removed.ensures ∙ c.if-is_removed.true) c.fill.ensures

pub returns-else-is_removed : goal.returns-else-is_removed
unfolding remove_one
returns-else-is_removed c = simp (sym c.is_removed.ensures ∙ c.if-is_removed.false)
