use Prim.Native.Nat.{◌-◌, ◌*◌, ◌/◌, ◌%◌}
use Rattle.nodes.specs.Table.{record_size, name_field, enrolled_record}
use Rattle.memory.specs.WroteLaws.{sets_append}
use lib.ListN.{replicate}
use native.Mathlib.Omega.{arith}
use mathlib.Core.List.{[], ◌∷◌}
use mathlib.Core.Path.{◌≡◌, ◌∙◌}
use Rattle.nodes.proofs.enrolment.enrol.Goals as goal

pub returns : goal.returns
unfolding enrolled_record
returns c =
    let high : c.args.kind / 256 % 256 ≡ c.args.kind / 256 = omega arith in
    c.fill.ensures ∙ rw (c.copy.ensures, c.to_be_bytes.ensures, c.from-at.ensures, high) (sets_append (1 ∷ c.args.kind / 256 ∷ c.args.kind % 256 ∷ []) (replicate (record_size - name_field.at) 0) c.args.table.now (c.args.node * record_size))
