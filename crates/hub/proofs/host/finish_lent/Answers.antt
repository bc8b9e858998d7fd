use Rattle.sessions.specs.Sessions.{told_by}
use Rattle.std.specs.Result.{result_ok}
use Rattle.frame.specs.Writer.{told}
use Rattle.rules.specs.Hub.{notice}
use Rattle.replies.specs.ReplyLaws.{write_all_done, write_all_err}
use Rattle.hub.proofs.host.Laws.{finish_short, finish-done}
use mathlib.Core.Path.{sym, ap, ◌∙◌}
use Rattle.hub.proofs.host.finish_lent.Goals as goal

pub returns-in_default : goal.returns-in_default
unfolding notice
returns-in_default c =
    let w = c.write.ensures in
    let x = write_all_err _ _ _ (sym w.answer ∙ ap told c.in_default.is) in
    let found = c.ok_or.ensures.ok_part ∙ ap result_ok c.in_ok-line.was in
    rw (w.room ∙ x.1) (finish_short _ _ _ _ (sym c.line_of.ensures ∙ ap told_by found) x.0)

pub returns : goal.returns
unfolding notice
returns c =
    let w = c.write.ensures in
    let x = write_all_done _ _ _ (sym w.answer ∙ ap told c.in-Ok.is) in
    let found = c.ok_or.ensures.ok_part ∙ ap result_ok c.in_ok-line.was in
    rw c.finish.ensures (finish-done _ _ _ _ (sym c.line_of.ensures ∙ ap told_by found) _ _ x.1 x.0 (w.room ∙ rw (← x.0) x.2))
