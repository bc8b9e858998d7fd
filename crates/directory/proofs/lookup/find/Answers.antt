use Rattle.directory.specs.Directory.{directory}
use Rattle.directory.proofs.lookup.find.Goals as goal

pub returns : goal.returns
unfolding directory
returns c = c.first.ensures
