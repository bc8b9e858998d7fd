use Rattle.std.proofs.Common.{◌≡◌, refl, sym, ap, ◌∙◌, rules}
use Rattle.std.specs.Result.{is_ok, result_ok}
use Rattle.script.specs.declared.Call.TheVariants.{Bad}
use Rattle.script.specs.Script.{finish_of}
use Rattle.script.specs.Code.{answered}
use Rattle.script.specs.ByteLaws.{up_to_most}
use Rattle.script.proofs.parser.finish.Goals as goal

pub returns-in_err-session : goal.returns-in_err-session
unfolding finish_of
returns-in_err-session c =
    let told : answered c.from_residual.result ≡ Bad 2 = search rules in
    let none = c.ok_or.ensures.ok_part ∙ ap result_ok c.in_err-session.was in
    λ b. rw (told, rw none at c.session.ensures) (record { line = refl; within = tt })

pub returns-in_err-room : goal.returns-in_err-room
unfolding finish_of
returns-in_err-room c =
    let told : answered c.from_residual-in_err-room.result ≡ Bad 3 = search rules in
    let w1 = rw (c.ok_or.ensures.ok_part ∙ ap result_ok c.in_ok-session.was) at c.session.ensures in
    let none = c.ok_or-2.ensures.ok_part ∙ ap result_ok c.in_err-room.was in
    λ b. rw (told, w1.0, w1.1, rw none at c.number.ensures) (record { line = refl; within = tt })

pub returns-in_err-ok_or : goal.returns-in_err-ok_or
unfolding finish_of
returns-in_err-ok_or c =
    let told : answered c.from_residual-in_err-ok_or.result ≡ Bad 4 = search rules in
    let w1 = rw (c.ok_or.ensures.ok_part ∙ ap result_ok c.in_ok-session.was) at c.session.ensures in
    let w2 = rw (c.ok_or-2.ensures.ok_part ∙ ap result_ok c.in_ok-room.was) at c.number.ensures in
    λ b. rw (told, w1.0, w1.1, w2.0, w2.1, sym c.end.ensures ∙ sym c.ok_or-3.ensures.variant ∙ ap is_ok c.in_err-ok_or.was) (record { line = refl; within = tt })

pub returns : goal.returns
unfolding finish_of
returns c =
    let w1 = rw (c.ok_or.ensures.ok_part ∙ ap result_ok c.in_ok-session.was) at c.session.ensures in
    let w2 = rw (c.ok_or-2.ensures.ok_part ∙ ap result_ok c.in_ok-room.was) at c.number.ensures in
    λ b. rw (w1.0, w1.1, w2.0, w2.1, sym c.end.ensures ∙ sym c.ok_or-3.ensures.variant ∙ ap is_ok c.in_ok-ok_or.was) (record { line = refl; within = up_to_most _ _ _ w2.0 })
