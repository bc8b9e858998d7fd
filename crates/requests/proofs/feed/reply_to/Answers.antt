use Rattle.rules.specs.Hub.{respond}
use Rattle.requests.proofs.decide.Laws.{failed_decides}
use Prim.Native.Nat.{◌+◌, ◌-◌}
use native.Mathlib.Omega.{arith}
use mathlib.Core.Path.{◌≡◌, refl}
use Rattle.requests.proofs.feed.reply_to.Goals as goal

pub overflow_add-len : goal.overflow_add-len
overflow_add-len c =
    let w = rw c.in-Frame.is at c.requires.1 in
    omega (arith, w)

pub slice_bounds-decide-end : goal.slice_bounds-decide-end
slice_bounds-decide-end c =
    let w = rw c.in-Frame.is at c.requires.1 in
    omega (arith, w, c.requires.0)

pub returns-in-Nothing : goal.returns-in-Nothing
returns-in-Nothing c = rw c.in-Nothing.is (record { says = refl; left = refl; enough = tt })

pub returns-in-Frame : goal.returns-in-Frame
returns-in-Frame c =
    let len = c.in-Frame.len in
    let e : 4 + len - 4 ≡ len = omega arith in
    rw c.in-Frame.is (rw e at c.decide.ensures)

pub returns-in-Refused : goal.returns-in-Refused
unfolding respond
returns-in-Refused c = rw c.in-Refused.is (failed_decides _ _ _ _ _)
