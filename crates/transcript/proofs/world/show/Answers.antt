use Rattle.std.proofs.Common.{rules}
use Rattle.transcript.proofs.world.Laws.{plays_show}
use Rattle.transcript.proofs.world.show.Goals as goal

pub returns : goal.returns
returns c = plays_show c.args.run _ (search rules)
