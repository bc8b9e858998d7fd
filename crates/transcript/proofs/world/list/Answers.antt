use Rattle.std.proofs.Common.{rules}
use Rattle.transcript.proofs.world.Laws.{plays_list}
use Rattle.transcript.proofs.world.list.Goals as goal

pub returns : goal.returns
returns c = plays_list c.args.run _ (search rules)
