use Rattle.text.specs.Text.{ascii}
use Rattle.report.specs.State.{mode_word}
use Rattle.report.proofs.state.mode_word.Goals as goal

pub returns-in-Plain : goal.returns-in-Plain
unfolding mode_word ascii
returns-in-Plain c = rw c.in-Plain.is

pub returns-in-Escaped : goal.returns-in-Escaped
unfolding mode_word ascii
returns-in-Escaped c = rw c.in-Escaped.is

pub returns-in-Skipping : goal.returns-in-Skipping
unfolding mode_word
returns-in-Skipping c = rw c.in-Skipping.is c.skip_word.ensures
