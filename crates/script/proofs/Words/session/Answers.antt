use Rattle.std.proofs.Common.{sym, ap, ◌∙◌}
use Rattle.script.specs.Script.{session}
use Rattle.script.specs.Code.{to_come}
use Rattle.script.proofs.Taken.{taken}
use Rattle.script.proofs.Words.session.Goals as goal

-- a missing word is no session
pub returns-in_err-word : goal.returns-in_err-word
unfolding session
returns-in_err-word c = rw (c.from_residual.ensures, rw c.in_err-word.was at c.next_word.ensures)

pub returns : goal.returns
returns c =
    let w = rw c.in_ok-word.was at c.next_word.ensures in
    taken _ _ (to_come c.args.self.now) _ w.1 (c.session.ensures ∙ ap session (sym w.0))
