use Rattle.demands.specs.Steps.{finishes}
use Rattle.service.proofs.calls.finish.Goals as goal

pub returns : goal.returns
returns c = finishes c.finish-made.ensures
