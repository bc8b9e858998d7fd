use Rattle.std.proofs.Common.{◌≡◌, ◌+◌, Some, None, arith}
use Rattle.std.specs.Prelude.{slice_get}
use Rattle.std.proofs.lemmas.Grind.{common_steps}
use Rattle.std.proofs.lemmas.Option.{gets}
use Rattle.line.proofs.reader.Loop.{begins, ran, ends, stores, keeps, settled, skipped, refuses, gives}
use Rattle.line.proofs.reader.read_in.Goals as goal

pub loop-b-init : goal.loop-b-init
loop-b-init c = begins _ _ _ _ c.taken_at-count.ensures

pub returns-in_default : goal.returns-in_default
returns-in_default c =
    let next : slice_get c.args.wire.now (c.loop-b.i + c.plain_run-run.result) ≡ None = grind (arith, common_steps, gets) in
    rw c.told_at.ensures (ends (ran c.loop-b.invariant c.plain_run-run.ensures) next)

pub loop-b-preserved-in-Store : goal.loop-b-preserved-in-Store
loop-b-preserved-in-Store c =
    let next : slice_get c.args.wire.now (c.loop-b.i + c.plain_run-run.result) ≡ Some c.in-Some.b = grind (arith, common_steps, gets) in
    stores (ran c.loop-b.invariant c.plain_run-run.ensures) c.plain_run-run.ensures.full next _ (rw c.in-Store.is at c.decide.ensures)

pub loop-b-preserved-in-Keep : goal.loop-b-preserved-in-Keep
loop-b-preserved-in-Keep c =
    let next : slice_get c.args.wire.now (c.loop-b.i + c.plain_run-run.result) ≡ Some c.in-Some.b = grind (arith, common_steps, gets) in
    keeps (ran c.loop-b.invariant c.plain_run-run.ensures) c.plain_run-run.ensures.full next _ (rw c.in-Keep.is at c.decide.ensures)

pub loop-b-preserved-in-Settle : goal.loop-b-preserved-in-Settle
loop-b-preserved-in-Settle c =
    let next : slice_get c.args.wire.now (c.loop-b.i + c.plain_run-run.result) ≡ Some c.in-Some.b = grind (arith, common_steps, gets) in
    settled (ran c.loop-b.invariant c.plain_run-run.ensures) c.plain_run-run.ensures.full next _ (rw c.in-Settle.is at c.decide.ensures) _ c.fault_behind.ensures c.skip_run-i.ensures

pub loop-b-preserved : goal.loop-b-preserved
loop-b-preserved c =
    let next : slice_get c.args.wire.now (c.loop-b.i + c.plain_run-run.result) ≡ Some c.in-Some.b = grind (arith, common_steps, gets) in
    skipped (ran c.loop-b.invariant c.plain_run-run.ensures) c.plain_run-run.ensures.full next _ (rw c.in-Skip.is at c.decide.ensures) c.skip_run-i-in-Skip.ensures

pub returns-in-Refuse : goal.returns-in-Refuse
returns-in-Refuse c =
    let next : slice_get c.args.wire.now (c.loop-b.i + c.plain_run-run.result) ≡ Some c.in-Some.b = grind (arith, common_steps, gets) in
    rw c.told_at-in-Refuse.ensures (refuses (ran c.loop-b.invariant c.plain_run-run.ensures) c.plain_run-run.ensures.full next _ (rw c.in-Refuse.is at c.decide.ensures) _ c.fault_behind-at.ensures)

pub returns-in-Give : goal.returns-in-Give
returns-in-Give c =
    let next : slice_get c.args.wire.now (c.loop-b.i + c.plain_run-run.result) ≡ Some c.in-Some.b = grind (arith, common_steps, gets) in
    rw c.told_at-in-Give.ensures (gives (ran c.loop-b.invariant c.plain_run-run.ensures) c.plain_run-run.ensures.full next _ (rw c.in-Give.is at c.decide.ensures))
