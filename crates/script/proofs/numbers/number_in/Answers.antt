use Rattle.std.proofs.Common.{sym, ◌∙◌, le-leb}
use Rattle.std.proofs.lemmas.Bool.{lt-leb}
use Rattle.script.specs.Script.{number, number_up_to}
use Rattle.script.specs.ByteLaws.{plain_short}
use Rattle.script.proofs.numbers.number_in.Goals as goal

pub returns-then-not-is_plain : goal.returns-then-not-is_plain
unfolding number_up_to number
returns-then-not-is_plain c = rw (sym c.is_plain.ensures ∙ c.if-not-is_plain.true)

pub digits-requires : goal.digits-requires
digits-requires c = plain_short _ (sym c.is_plain.ensures ∙ c.if-not-is_plain.false)

pub returns-in_err-value : goal.returns-in_err-value
unfolding number_up_to number
returns-in_err-value c =
    rw (sym c.is_plain.ensures ∙ c.if-not-is_plain.false, sym c.digits.ensures ∙ c.in_err-value.was) c.from_residual.ensures

pub returns-then-most-value : goal.returns-then-most-value
unfolding number_up_to number
returns-then-most-value c =
    rw (sym c.is_plain.ensures ∙ c.if-not-is_plain.false, sym c.digits.ensures ∙ c.in_ok-value.was, lt-leb _ _ c.if-most-value.true)

pub returns : goal.returns
unfolding number_up_to number
returns c =
    rw (sym c.is_plain.ensures ∙ c.if-not-is_plain.false, sym c.digits.ensures ∙ c.in_ok-value.was, le-leb _ _ c.if-most-value.false)
