use Rattle.text.specs.Text.{ascii}
use Rattle.lister.specs.Lines.{left_line}
use Rattle.lister.proofs.lines.left_line.Goals as goal

pub returns : goal.returns
unfolding left_line ascii
returns c = c.append_numbered.ensures
