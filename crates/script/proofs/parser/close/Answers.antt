use Rattle.std.proofs.Common.{◌≡◌, refl, sym, ap, ◌∙◌, rules}
use Rattle.std.specs.Result.{is_ok, result_ok}
use Rattle.script.specs.declared.Call.TheVariants.{Bad}
use Rattle.script.specs.Script.{close_of}
use Rattle.script.specs.Code.{answered}
use Rattle.script.proofs.parser.close.Goals as goal

pub returns-in_err-line : goal.returns-in_err-line
unfolding close_of
returns-in_err-line c =
    let told : answered c.from_residual.result ≡ Bad 2 = search rules in
    let none = c.ok_or.ensures.ok_part ∙ ap result_ok c.in_err-line.was in
    λ b. rw (told, rw none at c.byte.ensures) (record { line = refl; within = tt })

pub returns-in_err-ok_or : goal.returns-in_err-ok_or
unfolding close_of
returns-in_err-ok_or c =
    let told : answered c.from_residual-in_err-ok_or.result ≡ Bad 3 = search rules in
    let w1 = rw (c.ok_or.ensures.ok_part ∙ ap result_ok c.in_ok-line.was) at c.byte.ensures in
    λ b. rw (told, w1.0, w1.1, sym c.end.ensures ∙ sym c.ok_or-2.ensures.variant ∙ ap is_ok c.in_err-ok_or.was) (record { line = refl; within = tt })

pub returns : goal.returns
unfolding close_of
returns c =
    let w1 = rw (c.ok_or.ensures.ok_part ∙ ap result_ok c.in_ok-line.was) at c.byte.ensures in
    λ b. rw (w1.0, w1.1, sym c.end.ensures ∙ sym c.ok_or-2.ensures.variant ∙ ap is_ok c.in_ok-ok_or.was) (record { line = refl; within = tt })
