use Rattle.nodes.specs.Table.{record_size}
use Rattle.nodes.specs.TableLaws.{field_length}
use native.Mathlib.Omega.{arith}
use Prim.Native.Nat.{◌+◌, ◌-◌, ◌*◌}
use mathlib.Core.Path.{◌≡◌, refl, ◌∙◌}
use Rattle.nodes.proofs.notification.put_field.Goals as goal

pub returns : goal.returns
returns c =
    let q = c.requires in
    let start = c.args.node * record_size + c.args.field.at in
    let e : start + c.args.field.size - start ≡ c.args.field.size = omega arith in
    let long = field_length c.args.table.now c.args.node c.args.field q.0 q.1 q.2 in
    (record { content = c.copy.ensures ∙ rw (c.from.ensures, e); place = rw long }, refl)
