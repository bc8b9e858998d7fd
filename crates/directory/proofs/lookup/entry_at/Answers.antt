use Rattle.std.proofs.Common.{◌∙◌}
use Rattle.directory.specs.Directory.{directory}
use Rattle.directory.proofs.Places.{copied-at}
use Rattle.directory.proofs.lookup.entry_at.Goals as goal

pub returns : goal.returns
unfolding directory
returns c = c.copied.ensures ∙ copied-at directory c.args.place c.get.result c.get.ensures.lookup
