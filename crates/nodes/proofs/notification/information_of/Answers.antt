use Rattle.nodes.specs.TableLaws.{information-length}
use Rattle.nodes.specs.Table.{information, information_size}
use Rattle.memory.specs.WroteLaws.{one, then, sets-whole}
use lib.ListN.{replicate}
use Prim.Native.Nat.{ℕ}
use mathlib.Core.Path.{refl, ◌∙◌}
use Rattle.nodes.proofs.notification.information_of.Goals as goal

pub returns : goal.returns
unfolding information
returns c =
    let zeros = replicate {A = ℕ} information_size 0 in
    let order = then (one zeros 0 c.args.node) c.put_field-placement.ensures.0 in
    let placement = then order c.put_field-name.ensures.0 in
    let name = then placement c.put_field-velocity.ensures.0 in
    let velocity = then name (record { content = c.fill.ensures; place = refl }) in
    let type = then velocity c.put_field-group.ensures.0 in
    let group = then type (record { content = c.fill-2.ensures; place = refl }) in
    let variation = then group c.put_field-power.ensures.0 in
    let all = then variation (record { content = c.fill-3.ensures; place = refl }) in
    all.content ∙ sets-whole zeros (information c.args.table.now c.args.node) (information-length c.args.table.now c.args.node c.requires.0 c.requires.1)
