use native.Mathlib.Numerals.{add-one}
use Rattle.nodes.specs.Table.{remove_one, remove_below}
use mathlib.Core.Path.{ap, ◌∙◌, refl}
use Rattle.nodes.proofs.table.remove.Goals as goal

pub loop-k-init : goal.loop-k-init
unfolding remove_below
loop-k-init c = refl

pub loop-k-preserved : goal.loop-k-preserved
unfolding remove_below
loop-k-preserved c = c.remove_one.ensures ∙ rw (add-one) (ap (remove_one _ _) c.loop-k.invariant)
