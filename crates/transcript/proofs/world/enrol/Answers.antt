use Rattle.std.proofs.Common.{rules}
use Rattle.transcript.proofs.world.Laws.{plays_enrol}
use Rattle.transcript.proofs.world.enrol.Goals as goal

pub returns : goal.returns
returns c = plays_enrol c.args.run c.args.table.now _ _ _ _ c.enrol-answer.ensures (search rules)
