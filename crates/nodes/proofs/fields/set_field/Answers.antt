use Rattle.nodes.specs.TableLaws.{used-below}
use Rattle.nodes.specs.Table.{node_count, in_use, set_field}
use Rattle.memory.specs.WroteLaws.{take_min}
use native.Mathlib.Omega.{arith}
use mathlib.Core.Path.{◌≡◌, sym, ◌∙◌, refl}
use mathlib.Core.Bool.{true}
use Prim.Native.Nat.{◌<◌}
use Rattle.nodes.proofs.fields.set_field.Goals as goal

pub returns-then-not-in_use : goal.returns-then-not-in_use
unfolding set_field
returns-then-not-in_use c = simp (sym c.in_use.ensures ∙ c.if-not-in_use.true) (record { status = refl; table = refl })

pub overflow_mul-node : goal.overflow_mul-node
overflow_mul-node c =
    let used : in_use c.args.table.now c.args.node ≡ true = sym c.in_use.ensures ∙ c.if-not-in_use.false in
    let below : c.args.node < node_count = used-below _ _ (used) in
    omega (arith, below)

pub overflow_add-node : goal.overflow_add-node
overflow_add-node c =
    let used : in_use c.args.table.now c.args.node ≡ true = sym c.in_use.ensures ∙ c.if-not-in_use.false in
    let below : c.args.node < node_count = used-below _ _ (used) in
    omega (arith, below)

pub returns : goal.returns
unfolding set_field
returns c =
    let used : in_use c.args.table.now c.args.node ≡ true = sym c.in_use.ensures ∙ c.if-not-in_use.false in
    simp (used)
    (record { status = refl; table = c.copy.ensures ∙ rw (c.min-n.ensures, take_min) })
