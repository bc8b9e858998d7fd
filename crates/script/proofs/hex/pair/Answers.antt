use Rattle.std.proofs.Common.{sym, ◌∙◌, arith}
use Rattle.script.specs.ByteLaws.{digit_value, pair_is, pair-high, pair-low}
use Rattle.script.proofs.hex.pair.Goals as goal

pub returns-in_err-tens : goal.returns-in_err-tens
returns-in_err-tens c = rw (pair-high c.args.high c.args.low (sym c.digit_of.ensures ∙ c.in_err-tens.was)) c.from_residual.ensures

pub returns-in_err-ones : goal.returns-in_err-ones
returns-in_err-ones c =
    rw (pair-low c.args.high c.args.low _ (sym c.digit_of.ensures ∙ c.in_ok-tens.was) (sym c.digit_of-2.ensures ∙ c.in_err-ones.was)) c.from_residual-in_err-ones.ensures

pub overflow_mul-result : goal.overflow_mul-result
overflow_mul-result c =
    let high = digit_value c.args.high c.in_ok-tens.tens (sym c.digit_of.ensures ∙ c.in_ok-tens.was) in
    omega (arith, high.1)

pub overflow_add-result : goal.overflow_add-result
overflow_add-result c =
    let high = digit_value c.args.high c.in_ok-tens.tens (sym c.digit_of.ensures ∙ c.in_ok-tens.was) in
    let low = digit_value c.args.low c.in_ok-ones.ones (sym c.digit_of-2.ensures ∙ c.in_ok-ones.was) in
    omega (arith, high.1, low.1)

pub returns : goal.returns
returns c = sym (pair_is c.args.high c.args.low _ _ (sym c.digit_of.ensures ∙ c.in_ok-tens.was) (sym c.digit_of-2.ensures ∙ c.in_ok-ones.was))
