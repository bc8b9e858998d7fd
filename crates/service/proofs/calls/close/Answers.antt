use Rattle.demands.specs.Steps.{closes}
use Rattle.service.proofs.calls.close.Goals as goal

pub returns : goal.returns
returns c = rw c.with_record.ensures (closes (rw c.record_of-lent.ensures at c.close_by_value-made.ensures))
