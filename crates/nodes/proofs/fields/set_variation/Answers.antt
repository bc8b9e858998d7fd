use Rattle.nodes.specs.Table.{is_rejected, set_variation}
use mathlib.Core.Bool.{true, false}
use mathlib.Core.Path.{◌≡◌, sym, ◌∙◌, refl}
use Rattle.nodes.proofs.fields.set_variation.Goals as goal

pub returns-then-is_rejected : goal.returns-then-is_rejected
unfolding set_variation
returns-then-is_rejected c =
    let rejected : is_rejected c.args.table.now c.args.node c.args.variation ≡ true = rw c.from.ensures at (sym c.is_rejected.ensures ∙ c.if-is_rejected.true) in
    simp rejected (record { status = refl; table = refl })

pub returns : goal.returns
unfolding set_variation
returns c =
    let not_rejected : is_rejected c.args.table.now c.args.node c.args.variation ≡ false = rw c.from.ensures at (sym c.is_rejected.ensures ∙ c.if-is_rejected.false) in
    simp not_rejected (rw c.from-2.ensures at c.set_field.ensures)
