use Rattle.std.proofs.Common.{sym, ◌∙◌}
use Rattle.script.specs.ByteLaws.{session_is, session-length, session-left, session-right}
use Rattle.script.proofs.hex.session.Goals as goal

pub returns-then-text-ne4 : goal.returns-then-text-ne4
returns-then-text-ne4 c = sym (session-length c.args.text.now c.if-text-ne4.true)

pub returns-in_err-high : goal.returns-in_err-high
returns-in_err-high c = rw (session-left c.args.text.now c.if-text-ne4.false (sym c.pair.ensures ∙ c.in_err-high.was)) c.from_residual.ensures

pub returns-in_err-low : goal.returns-in_err-low
returns-in_err-low c =
    rw (session-right c.args.text.now _ c.if-text-ne4.false (sym c.pair.ensures ∙ c.in_ok-high.was) (sym c.pair-2.ensures ∙ c.in_err-low.was)) c.from_residual-in_err-low.ensures

pub returns : goal.returns
returns c =
    rw (c.from.ensures, c.from-2.ensures)
    (sym (session_is c.args.text.now _ _ c.if-text-ne4.false (sym c.pair.ensures ∙ c.in_ok-high.was) (sym c.pair-2.ensures ∙ c.in_ok-low.was)))
