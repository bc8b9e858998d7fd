use Rattle.text.specs.Text.{ascii}
use Rattle.report.specs.State.{login_line}
use Rattle.report.proofs.state.login_line.Goals as goal

pub returns : goal.returns
unfolding login_line ascii
returns c = rw (← c.flag.ensures, ← c.flag-2.ensures, ← c.flag-3.ensures, ← c.flag-4.ensures) c.append.ensures
