use Rattle.std.proofs.Common.{rules}
use Rattle.transcript.proofs.world.Laws.{plays_bad}
use Rattle.transcript.proofs.world.bad.Goals as goal

pub returns : goal.returns
returns c = plays_bad c.args.run _ _ _ (search rules)
