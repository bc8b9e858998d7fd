use Rattle.text.specs.Text.{ascii}
use Rattle.report.specs.State.{skip_word}
use Rattle.report.proofs.state.skip_word.Goals as goal

pub returns-in-WrongEscape : goal.returns-in-WrongEscape
unfolding skip_word ascii
returns-in-WrongEscape c = rw c.in-WrongEscape.is

pub returns-in-TooLong : goal.returns-in-TooLong
unfolding skip_word ascii
returns-in-TooLong c = rw c.in-TooLong.is
