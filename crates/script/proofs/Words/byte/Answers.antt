use Rattle.std.proofs.Common.{◌∙◌, arith}
use Rattle.script.specs.ByteLaws.{up_to_most}
use Rattle.script.proofs.Taken.{narrowed}
use Rattle.script.proofs.Words.byte.Goals as goal

pub returns : goal.returns
returns c =
    let w = rw c.in_ok-number.was at c.number.ensures in
    rw (c.ok.ensures.value ∙ narrowed 256 _ _ c.try_from.ensures (omega (arith, up_to_most _ _ _ w.0))) w
