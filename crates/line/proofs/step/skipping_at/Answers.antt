use Rattle.std.proofs.Common.{refl, sym, ◌∙◌}
use Rattle.line.specs.ReachableLaws.{possible-true}
use Rattle.line.proofs.step.skipping_at.Goals as goal

pub returns-then-is_possible : goal.returns-then-is_possible
returns-then-is_possible c =
    let e = sym c.is_possible.ensures ∙ c.if-is_possible.true in
    record { state = λ bs. rw e refl; count = refl; clear = (refl, possible-true _ e) }
