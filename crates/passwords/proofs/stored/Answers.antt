use Rattle.std.proofs.Common.{◌≡◌, length, rules, sym, ◌∙◌, arith}
use Rattle.passwords.proofs.ByteLaws.{kept_more, kept_end}
use Rattle.passwords.proofs.stored.Goals as goal

pub loop-b-preserved : goal.loop-b-preserved
loop-b-preserved c = rw c.byte_if.ensures (c.loop-b.invariant ∙ kept_more _ _ _ (let n : length c.loop-b.b-items ≡ 32 = search rules in omega arith))

pub returns : goal.returns
returns c = sym (c.loop-b.invariant ∙ kept_end _ _ _ (omega arith))
