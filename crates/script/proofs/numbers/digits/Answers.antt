use Rattle.std.proofs.Common.{◌≡◌, ◌+◌, ◌*◌, ◌^◌, sym, ◌∙◌, arith, get_or, add-one, pow-suc}
use Rattle.script.specs.ByteLaws.{digits_on, digits-not, digits_end, between_is}
use Rattle.script.proofs.numbers.digits.Goals as goal

pub returns-then-not-is_ascii_digit : goal.returns-then-not-is_ascii_digit
returns-then-not-is_ascii_digit c =
    let l = c.loop-digit in
    sym (l.invariant.1 ∙ digits-not _ l.digit-index l.value c.loop-digit-test.true (sym c.is_ascii_digit.ensures.value ∙ c.if-not-is_ascii_digit.true))

pub loop-digit-preserved : goal.loop-digit-preserved
loop-digit-preserved c =
    let l = c.loop-digit in
    let p : 10 ^ (l.digit-index + 1) ≡ 10 ^ l.digit-index * 10 = rw add-one (pow-suc 10 l.digit-index) in
    let on = digits_on _ l.digit-index l.value c.loop-digit-test.true (sym c.is_ascii_digit.ensures.value ∙ c.if-not-is_ascii_digit.false) in
    let d = between_is 48 57 (get_or c.args.text.now l.digit-index 0) (sym c.is_ascii_digit.ensures.value ∙ c.if-not-is_ascii_digit.false) in
    (rw p (omega (arith, c.from.ensures, d.0, d.1)), l.invariant.1 ∙ rw c.from.ensures on)

pub returns : goal.returns
returns c = let l = c.loop-digit in sym (l.invariant.1 ∙ digits_end _ l.digit-index l.value c.loop-digit-test.false)
