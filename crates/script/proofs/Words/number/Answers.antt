use Rattle.std.proofs.Common.{sym, ap, ◌∙◌}
use Rattle.script.specs.Script.{is_plain, number, number_up_to}
use Rattle.script.specs.Code.{to_come}
use Rattle.script.proofs.Taken.{taken}
use Rattle.script.proofs.Words.number.Goals as goal

-- a missing word is no number
pub returns-in_err-word : goal.returns-in_err-word
unfolding number_up_to number is_plain
returns-in_err-word c = rw (c.from_residual.ensures, rw c.in_err-word.was at c.next_word.ensures)

pub returns : goal.returns
returns c =
    let w = rw c.in_ok-word.was at c.next_word.ensures in
    taken _ _ (to_come c.args.self.now) _ w.1 (c.number_in.ensures ∙ ap (number_up_to c.args.most) (sym w.0))
