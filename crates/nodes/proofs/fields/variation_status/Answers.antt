use Rattle.nodes.specs.Table.{variation_field, is_rejected, set_variation}
use Rattle.nodes.specs.TableLaws.{set_field-status}
use mathlib.Core.Bool.{true, false}
use mathlib.Core.List.{[], ◌∷◌}
use mathlib.Core.Path.{◌≡◌, sym, ◌∙◌}
use Rattle.nodes.proofs.fields.variation_status.Goals as goal

pub returns-then-is_rejected : goal.returns-then-is_rejected
unfolding set_variation
returns-then-is_rejected c =
    let rejected : is_rejected c.args.table.now c.args.node c.args.variation ≡ true = rw c.from.ensures at (sym c.is_rejected.ensures ∙ c.if-is_rejected.true) in
    simp rejected

pub returns-else-is_rejected : goal.returns-else-is_rejected
unfolding set_variation
returns-else-is_rejected c =
    let not_rejected : is_rejected c.args.table.now c.args.node c.args.variation ≡ false = rw c.from.ensures at (sym c.is_rejected.ensures ∙ c.if-is_rejected.false) in
    simp not_rejected (c.status.ensures ∙ sym (set_field-status variation_field _ _ (c.args.variation ∷ [])))
