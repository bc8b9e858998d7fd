use Rattle.std.proofs.Common.{rules}
use Rattle.transcript.proofs.world.Laws.{plays_long}
use Rattle.transcript.proofs.world.long.Goals as goal

pub returns : goal.returns
returns c = plays_long c.args.run _ _ (search rules)
