use Rattle.demands.specs.Steps.{feeds}
use Rattle.service.proofs.calls.feed.Goals as goal

pub returns : goal.returns
returns c = rw c.with_record.ensures (feeds (rw c.record_of-lent.ensures at c.feed_by_value-made.ensures))
