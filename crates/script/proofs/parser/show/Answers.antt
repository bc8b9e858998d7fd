use Rattle.std.proofs.Common.{◌≡◌, refl, sym, ap, ◌∙◌, rules}
use Rattle.std.specs.Result.{is_ok}
use Rattle.script.specs.declared.Call.TheVariants.{Bad}
use Rattle.script.specs.Code.{answered}
use Rattle.script.proofs.parser.show.Goals as goal

pub returns-in_err-ok_or : goal.returns-in_err-ok_or
returns-in_err-ok_or c =
    let told : answered c.from_residual.result ≡ Bad 2 = search rules in
    λ b. rw (told, sym c.end.ensures ∙ sym c.ok_or.ensures.variant ∙ ap is_ok c.in_err-ok_or.was) (record { line = refl; within = tt })

pub returns : goal.returns
returns c =
    λ b. rw (sym c.end.ensures ∙ sym c.ok_or.ensures.variant ∙ ap is_ok c.in_ok-ok_or.was) (record { line = refl; within = tt })
