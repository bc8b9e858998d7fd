use Rattle.std.specs.Prelude.{Err}
use Rattle.std.proofs.Common.{rules}
use Rattle.rules.specs.Hub.{respond}
use Rattle.directory.specs.Lookup.{error_of}
use Rattle.requests.specs.Answers.{error_for}
use Rattle.requests.proofs.decide.Laws.{failed_decides, rejected_decides}
use mathlib.Core.Path.{◌≡◌, sym, ap, ◌∙◌}
use Rattle.requests.proofs.decide.decide.Goals as goal

pub returns-in_err-judge : goal.returns-in_err-judge
returns-in_err-judge c =
    let e = c.in_err-judge.field-0.0 in
    let told : c.from_residual.result ≡ Err (error_for e) = search rules in
    rw told (rejected_decides _ _ _ _ _ e (sym c.judge.ensures ∙ ap error_of c.in_err-judge.was))

pub returns-then-not-may_ask : goal.returns-then-not-may_ask
unfolding respond
returns-then-not-may_ask c = rw (sym c.judge.ensures ∙ ap error_of c.in_ok-judge.was, sym c.may_ask.ensures ∙ c.if-not-may_ask.true) (failed_decides _ _ _ _ _)

pub returns : goal.returns
unfolding respond
returns c = rw (sym c.judge.ensures ∙ ap error_of c.in_ok-judge.was, sym c.may_ask.ensures ∙ c.if-not-may_ask.false) c.request.ensures
