use Rattle.std.proofs.Common.{sym, ◌∙◌, arith}
use Rattle.std.proofs.lemmas.Slice.Zip.{Zip-more, either_empty_from_Zip}
use Rattle.passwords.proofs.ByteLaws.{same_more, same_end}
use Rattle.passwords.proofs.is_same.Goals as goal

pub loop-x-preserved : goal.loop-x-preserved
loop-x-preserved c =
    let parts = Zip-more c.loop-x.x-iterator c.next.new.self _ _ c.in-Some.is c.next.ensures.steps in
    let before = rw (parts.0, parts.1) at c.loop-x.invariant in
    (omega (arith, before.0), before.1 ∙ same_more _ _ _ _ _ _)

pub returns : goal.returns
returns c = sym (c.loop-x.invariant.1 ∙ same_end _ _ c.loop-x.invariant.0 (either_empty_from_Zip c.loop-x.x-iterator c.next.new.self _ c.in-None.is c.next.ensures.steps) _ _)
