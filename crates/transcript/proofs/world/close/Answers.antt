use Rattle.std.proofs.Common.{rules}
use Rattle.transcript.proofs.world.Laws.{plays_close}
use Rattle.transcript.proofs.world.close.Goals as goal

pub returns : goal.returns
returns c =
    rw c.with_record.ensures (plays_close c.args.run _ c.args.line _ _ _ (rw c.record_of-lent.ensures at c.close_by_value-closed.ensures) (search rules))
