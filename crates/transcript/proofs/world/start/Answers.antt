use Rattle.std.proofs.Common.{rules}
use Rattle.transcript.proofs.world.Laws.{plays_start}
use Rattle.transcript.proofs.world.start.Goals as goal

pub returns : goal.returns
returns c = plays_start c.args.run _ _ _ _ _ c.start-started.ensures (search rules)
