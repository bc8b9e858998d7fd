use Rattle.memory.specs.WroteLaws.{rest}
use native.Mathlib.Omega.{arith}
use Rattle.requests.proofs.effects.carry_out.Goals as goal

pub change_password-requires : goal.change_password-requires
change_password-requires c =
    let k = rw c.in-PasswordChanged.is at c.requires in
    k

pub slice_bounds-set_name-count : goal.slice_bounds-set_name-count
slice_bounds-set_name-count c =
    let k = rw c.in-NameSet.is at c.requires in
    omega (arith, k)

pub slice_bounds-set_name-start : goal.slice_bounds-set_name-start
slice_bounds-set_name-start c =
    let k = rw c.in-NameSet.is at c.requires in
    omega (arith, k)

pub slice_bounds-set_order_and_placement-count : goal.slice_bounds-set_order_and_placement-count
slice_bounds-set_order_and_placement-count c =
    let k = rw c.in-OrderAndPlacementSet.is at c.requires in
    omega (arith, k)

pub slice_bounds-set_order_and_placement-start : goal.slice_bounds-set_order_and_placement-start
slice_bounds-set_order_and_placement-start c =
    let k = rw c.in-OrderAndPlacementSet.is at c.requires in
    omega (arith, k)

pub open_if-requires : goal.open_if-requires
open_if-requires c =
    let k = rw c.in-ModeSendConfirmed.is at c.requires in
    k

pub returns-in-PasswordEntered : goal.returns-in-PasswordEntered
returns-in-PasswordEntered c = rw (c.in-PasswordEntered.is, c.log_in.ensures)

pub returns-in-PasswordChanged : goal.returns-in-PasswordChanged
returns-in-PasswordChanged c = rw (c.in-PasswordChanged.is, c.change_password.ensures)

pub returns-in-VariationSet : goal.returns-in-VariationSet
returns-in-VariationSet c = rw (c.in-VariationSet.is, c.set_variation.ensures.table, c.byte.ensures)

pub returns-in-NameSet : goal.returns-in-NameSet
returns-in-NameSet c = rw (c.in-NameSet.is, c.set_name.ensures.table, rest c.args.payload.now 1)

pub returns-in-OrderAndPlacementSet : goal.returns-in-OrderAndPlacementSet
returns-in-OrderAndPlacementSet c = rw (c.in-OrderAndPlacementSet.is, c.set_order_and_placement.ensures.table, rest c.args.payload.now 1)

pub returns-in-NodesRemoved : goal.returns-in-NodesRemoved
returns-in-NodesRemoved c = rw (c.in-NodesRemoved.is, c.close_removed.ensures, c.remove.ensures)

pub returns-in-VirginStateSet : goal.returns-in-VirginStateSet
returns-in-VirginStateSet c = rw (c.in-VirginStateSet.is, c.close_all.ensures, c.empty.ensures)

pub returns-in-ModeSendConfirmed : goal.returns-in-ModeSendConfirmed
returns-in-ModeSendConfirmed c = rw (c.in-ModeSendConfirmed.is, c.open_if.ensures)
